-- From what a place stands for to trees of the published grammar: where every open unit is complete, one tree is told; and in any
-- case the requests begin some tree's.
use Rattle.std.proofs.Common.{ℕ, zero, suc, ◌≤◌, ◌<◌, ◌≡◌, refl, sym, ◌∙◌, true, List, [], ◌∷◌, ◌++◌, map, append-nil, append_assoc, inl, arith}
use Rattle.std.proofs.lemmas.List.{map-append}
use Rattle.cdf_unit_table.specs.States.{nothing, admit, states_end}
use Rattle.cdf_unit_table.proofs.Rows.{admit_below}
use Rattle.cdf_unit_prefix.specs.Layout.{Layout}
use Rattle.cdf_grammar.specs.Trees.{Forest, none, tree, ids}
use Rattle.cdf_grammar.specs.Published.{Conforms, InGrammar}
use Rattle.cdf_grammar.specs.Encoding.{encode, says}
use Rattle.cdf_grammar.proofs.Fits.{through}
use Rattle.cdf_grammar.proofs.RowsAgree.{first_below}
use Rattle.cdf_grammar.proofs.Agrees.{root_agrees}
use Rattle.cdf_grammar.proofs.Completing.{completes}
use Rattle.cdf_builder_spec.specs.Requests.{Request, unit, completed}
use Rattle.cdf_builder_spec.specs.declared.Begun.{Begun}
use Rattle.cdf_builder_runs.specs.Telling.{Tells, Begins}
use Rattle.cdf_builder_runs.proofs.Forests.{append, ids_append, conforms_append}
use Rattle.cdf_builder_runs.proofs.Growing.{Frame, shut, heads}
use Rattle.cdf_builder_runs.proofs.Spine.{Held, Told, Spine, ids_shut, held_ids, told_more, shut_conforms, shut_told, shut_inner}

-- Trees may be told unit by unit.
pub tells_units : (l : Layout) (f : Forest) → Tells l f (map unit (says f))
unfolding says
tells_units l none = refl
tells_units l (tree id action text inner rest) =
    inl (map unit (says inner), map unit (says rest), rw (map-append unit), tells_units l inner, tells_units l rest)

-- No unit is open: there is one tree.
pub record Ended (l : Layout) (rs : List Request) (front : List ℕ) : Type 0 where
  pub told : Forest
  pub grammar : InGrammar told
  pub tells : Tells l told rs
  pub bytes : front ≡ encode l told

pub root_told : (l : Layout) (kids : Forest) (rs : List Request) → Told l [] kids rs → Tells l kids rs
root_told l kids rs t = rw (t.parts, t.heads) t.trees

ended : (l : Layout) (w : ℕ) (rs : List Request) (front : List ℕ) → Spine l w [] rs front → Ended l rs front
unfolding heads
ended l w rs front s = go s.frames s.kids s.held s.conforms s.told s.bytes
  where
    go : (fs : List Frame) (kids : Forest) → Held l fs kids [] → Conforms kids → Told l fs kids rs →
        front ≡ heads l w fs ++ encode l kids → Ended l rs front
    go [] kids h c t b = record {
      told = kids;
      grammar = record { root = (root_agrees kids).1 h; conforms = c };
      tells = root_told l kids rs t;
      bytes = b;
    }
    go (f ∷ fs) kids h c t b = absurd h

pub all_ended : (l : Layout) (w : ℕ) (os : List Begun) (rs : List Request) (front : List ℕ) → completed os ≡ true → Spine l w os rs front →
    Ended l rs front
all_ended l w os rs front full s = ended l w rs front (shut_inner l w os [] rs front full (rw append-nil s))

through_below : (state : ℕ) (cs : List ℕ) → state < states_end → through state cs < states_end
unfolding through
through_below state [] h = h
through_below state (c ∷ cs) h = through_below (admit state c) cs (admit_below state c)

through_append : (state : ℕ) (xs ys : List ℕ) → through state (xs ++ ys) ≡ through (through state xs) ys
unfolding through
through_append state [] ys = refl
through_append state (c ∷ xs) ys = through_append (admit state c) xs ys

one_more : (n : ℕ) → (n ≡ 0 → ⊥) → 1 ≤ n
one_more zero some = absurd (some refl)
one_more (suc n) some = omega arith

-- Each open unit is completed by some trees, from the innermost outwards.
pub begins_from : (l : Layout) (fs : List Frame) (kids : Forest) (os : List Begun) (rs : List Request) → Held l fs kids os → Conforms kids →
    Told l fs kids rs → Begins l rs
begins_from l [] kids [] rs h c t =
    ([], (kids, record { root = (root_agrees kids).1 h; conforms = c }, rw append-nil (root_told l kids rs t)))
begins_from l [] kids (o ∷ os) rs h c t = absurd h
begins_from l (f ∷ fs) kids [] rs h c t = absurd h
begins_from l (f ∷ fs) kids (o ∷ os) rs (u, around) c t =
    let low : o.state < states_end = rw u.state (through_below (nothing f.id) (ids kids) (first_below f.id)) in
    let some : 1 ≤ o.state = one_more o.state u.some in
    let full = completes o.state some low in
    let all = append kids full.trees in
    let last = map unit (says full.trees) in
    let sound =
    shut_conforms l fs f kids all o u (conforms_append kids full.trees c full.conforms)
    (rw (ids_append, through_append, ← u.state) full.full) in
    let told = shut_told l f fs all (rs ++ last) (told_more l (f ∷ fs) kids full.trees rs last (tells_units l full.trees) t) in
    let held = held_ids l fs (shut f kids) (shut f all) os (ids_shut f kids ∙ sym (ids_shut f all)) around in
    let rest = begins_from l fs (shut f all) os (rs ++ last) held sound told in
    (last ++ rest.0, (rest.1.0, rest.1.1, rw append_assoc at rest.1.2))
