-- What is kept are the trees of an E/R group.
use Rattle.std.proofs.Common.{ℕ, ◌+◌, ◌-◌, ◌≤◌, ◌≡◌, refl, sym, ap, subst, ◌∙◌, List, [], ◌∷◌, ◌↔◌, inl, arith, length, take, drop}
use mathlib.Core.List.{flatten, cons≢nil}
use Rattle.cdf_unit_table.specs.Ids.{er_group}
use Rattle.cdf_unit_table.specs.States.{nothing}
use Rattle.cdf_unit_prefix.specs.Layout.{Layout, prefix_of}
use Rattle.cdf_grammar.specs.Trees.{Forest, none, tree, ids}
use Rattle.cdf_grammar.specs.Encoding.{Stream, encode}
use Rattle.cdf_grammar.specs.Groups.{group_bytes}
use Rattle.cdf_grammar.proofs.Agrees.{fits}
use Rattle.cdf_grammar.proofs.Built.{encode_none, encode_one, length_unit, length_tree}
use Rattle.cdf_grammar.proofs.Within.{one_root}
use Rattle.cdf_grammar.proofs.Children.{Taken, AllTaken, group_holds}
use Rattle.cdf_rescue_spec.specs.Salvage.{Piece, kept, dropped, pieces, kept_bytes, runs_of, Rescued, group_of, rescue_of}
use Rattle.cdf_rescue_spec.specs.Kept.{Whole, Decided, kept_units, Group}
use Rattle.cdf_rescue_spec.proofs.Holding.{group_admits}
use Rattle.cdf_rescue_spec.proofs.Answer.{rescue_is, group_is, passed, answers}

-- A whole unit, by the rules of one unit.
whole_taken : (l : Layout) (s : List ℕ) → Whole l s → Taken l (nothing er_group) s
whole_taken l s w =
    let (action, text, inner, is) = one_root w.unit w.id w.one in
    let fit = fits l (tree w.id action text inner none) (rw is at w.right) in
    let bytes = sym w.bytes ∙ ap (encode l) is ∙ encode_one l w.id action text inner in
    record {
      id = w.id;
      may = (group_admits w.id).0 w.held;
      unit = record { action = action; text = text; inner = inner; passes = fit.0; fits = fit.1; bytes = bytes };
    }

all_taken : (l : Layout) (s : List ℕ) (ps : List Piece) → Decided l s ps → AllTaken l (nothing er_group) (kept_units s ps)
unfolding kept_units
all_taken l s [] d = record {}
all_taken l s (kept from to ∷ ps) d = (whole_taken l (take (to - from) (drop from s)) d.0, all_taken l s ps d.1)
all_taken l s (dropped at ∷ ps) d = all_taken l s ps d.1

pub kept_flat : (s : List ℕ) (ps : List Piece) → kept_bytes s ps ≡ flatten (kept_units s ps)
unfolding kept_bytes kept_units flatten
kept_flat s [] = refl
kept_flat s (kept from to ∷ ps) = rw (kept_flat s ps)
kept_flat s (dropped at ∷ ps) = kept_flat s ps

pub kept_group : (l : Layout) (s : List ℕ) (ps : List Piece) → group_of l (kept_bytes s ps) ≡ group_bytes l er_group (kept_units s ps)
unfolding group_bytes
kept_group l s ps = rw (group_is, kept_flat)

pub length_group : (l : Layout) (inner : List ℕ) → length (group_of l inner) ≡ prefix_of l + length inner
length_group l inner = rw (group_is, length_unit) (omega arith)

pub group_bytes_lem : (l : Layout) (t : Forest) → encode l (tree er_group 0 [] t none) ≡ group_of l (encode l t)
group_bytes_lem l t = rw (encode_one, group_is)

pub no_bytes : (l : Layout) (t : Forest) → (ids t ≡ []) ↔ (length (encode l t) ≡ 0)
unfolding ids
no_bytes l none = (λ e. ap length (encode_none l), λ e. refl)
no_bytes l (tree id action text inner rest) =
    (λ e. absurd (cons≢nil e), λ e. absurd (omega (arith, length_tree l id action text inner rest)))

pub grouped : (l : Layout) (room : ℕ) (s : List ℕ) → Decided l s (pieces l s) → (rescue_of l room s).number ≡ 0 → Group l room s
unfolding flatten
grouped l room s d e =
    let ps = pieces l s in
    let inner = kept_bytes s ps in
    let p = passed l room s inner (runs_of ps) (ap (λ (x : Rescued). x.number) (sym (rescue_is l room s)) ∙ e) in
    let answer = rescue_is l room s ∙ answers l room s inner (runs_of ps) p in
    let is : (rescue_of l room s).group ≡ group_of l inner = ap (λ (x : Rescued). x.group) answer in
    let some : kept_units s ps ≡ [] → ⊥ = λ z. p.some (ap length (kept_flat s ps ∙ ap flatten z)) in
    let within : length (group_bytes l er_group (kept_units s ps)) ≤ l.limit = rw (← kept_group, length_group) p.within in
    let h = group_holds l er_group (inl refl) (kept_units s ps) some (all_taken l s ps d) within in
    record {
      held = h.held;
      stream = subst (λ x. Stream l x (tree er_group 0 [] h.held none)) (sym (is ∙ kept_group l s ps)) h.stream;
      units = h.trees;
      fits = rw (is, length_group) p.fits;
      told = ap (λ (x : Rescued). x.runs) answer;
    }
