-- The units that are kept are those of the published grammar that an E/R group may hold.
use Rattle.std.proofs.Common.{ℕ, suc, ◌^◌, ◌<◌, ◌≡◌, refl, sym, ap, ◌∙◌, Bool, true, false, cond, List, ◌++◌, arith, eqb-true, eqb, length, take}
use Rattle.std.proofs.Common.{drop, length-take, take-append-drop}
use Rattle.cdf_unit_table.specs.Ids.{er_group}
use Rattle.cdf_unit_table.specs.States.{nothing, admit}
use Rattle.cdf_unit_prefix.specs.Layout.{Layout, length_at}
use Rattle.cdf_unit_list.specs.Check.{check_in}
use Rattle.cdf_grammar.specs.Trees.{Forest, none, tree, ids}
use Rattle.cdf_grammar.specs.Published.{Conforms}
use Rattle.cdf_grammar.specs.Encoding.{Bytes, unit_bytes, encode}
use Rattle.cdf_grammar.proofs.Agrees.{fits, conforms}
use Rattle.cdf_grammar.proofs.Built.{encode_one, size_of, length_unit}
use Rattle.cdf_grammar.proofs.Numbers.{number_below}
use Rattle.cdf_grammar.proofs.Within.{one_root, stands, stands_tree}
use Rattle.cdf_rescue_spec.specs.Salvage.{whole_at}
use Rattle.cdf_rescue_spec.specs.Kept.{Whole}
use Rattle.cdf_rescue_spec.proofs.Holding.{group_admits}

length_below : (l : Layout) (s : List ℕ) → Bytes s → length_at l s < 256 ^ l.length_bytes
unfolding length_at
length_below l s b = number_below l.length_bytes 2 s b

whole_accepted : (l : Layout) (t : List ℕ) → Bytes t → (check_in l (nothing er_group) t).number ≡ 0 → Whole l (take (length_at l t) t)
unfolding ids
whole_accepted l t b e =
    let w = stands l (nothing er_group) t e in
    let u = w.unit b in
    record {
      unit = tree w.id u.action u.text u.inner none;
      id = w.id;
      one = refl;
      held = (group_admits w.id).1 w.may;
      right = conforms l (tree w.id u.action u.text u.inner none) (u.passes, u.fits, record {});
      bytes = encode_one l w.id u.action u.text u.inner ∙ sym u.bytes;
      short = rw length-take (omega (arith, length_below l t b));
    }

pub whole_is : (l : Layout) (t : List ℕ) (k : ℕ) → Bytes t → whole_at l t ≡ suc k → Whole l (take (suc k) t)
unfolding whole_at
whole_is l t k b e = go (eqb number 0) refl e
  where
    number : ℕ
    number = (check_in l (nothing er_group) t).number

    go : (c : Bool) → eqb number 0 ≡ c → cond c (length_at l t) 0 ≡ suc k → Whole l (take (suc k) t)
    go true q e = rw e at (whole_accepted l t b (eqb-true number 0 q))
    go false q e = absurd (omega arith)

pub tree_whole : (l : Layout) {id action : ℕ} {text : List ℕ} {inner : Forest} → Conforms (tree id action text inner none) →
    (admit (nothing er_group) id ≡ 0 → ⊥) → size_of l text inner < 256 ^ l.length_bytes → (t more : List ℕ) →
    t ≡ unit_bytes l id action text (encode l inner) ++ more → whole_at l t ≡ size_of l text inner
unfolding whole_at
tree_whole l {id} {action} {text} {inner} c may small t more here =
    let fit = fits l (tree id action text inner none) c in
    let v = stands_tree fit small (nothing er_group) may t more here in
    rw v.0 v.1

-- As many bytes as such a unit has stand there, and these are some.
pub is_whole : (l : Layout) (t : List ℕ) (n : ℕ) → Whole l (take n t) → (whole_at l t ≡ length (take n t)) × (0 < length (take n t))
is_whole l t n w =
    let (action, text, inner, is) = one_root w.unit w.id w.one in
    let unit = unit_bytes l w.id action text (encode l inner) in
    let right : Conforms (tree w.id action text inner none) = rw is at w.right in
    let bytes : take n t ≡ unit = sym w.bytes ∙ ap (encode l) is ∙ encode_one l w.id action text inner in
    let size = ap length bytes ∙ length_unit l w.id action text (encode l inner) in
    let here : t ≡ unit ++ drop n t = rw (← bytes, take-append-drop) in
    (tree_whole l right ((group_admits w.id).0 w.held) (omega (arith, w.short)) t (drop n t) here ∙ sym size, omega arith)
