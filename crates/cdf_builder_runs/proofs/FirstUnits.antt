-- The first units of a tree: what they say, that they are a tree, and that the buffer's front is their encoding.
use Rattle.std.proofs.Common.{ℕ, zero, suc, ◌-◌, ◌≡◌, refl, sym, ap, ap₂, ◌∙◌, List, [], ◌∷◌, ◌++◌, arith, length, take, length-append}
use mathlib.Core.List.{cons≢nil}
use lib.Seq.{take-nil, take-append_seam}
use Rattle.cdf_unit_table.specs.Heights.{height}
use Rattle.cdf_unit_prefix.specs.Layout.{Layout, layout_of}
use Rattle.cdf_unit_prefix.specs.declared.Edition.{Edition}
use Rattle.cdf_grammar.specs.Trees.{Forest, none, tree, ids, units}
use Rattle.cdf_grammar.specs.Published.{InGrammar}
use Rattle.cdf_grammar.specs.Encoding.{encode, Item, says}
use Rattle.cdf_grammar.proofs.Agrees.{fits, root_agrees}
use Rattle.cdf_grammar.proofs.Heights.{OfHeight, Lower}
use Rattle.cdf_grammar.proofs.Items.{Low, low, said_low}
use Rattle.cdf_builder_spec.specs.Requests.{Request, unit}
use Rattle.cdf_builder_spec.specs.declared.Begun.{Begun}
use Rattle.cdf_builder_runs.specs.Runs.{requested}
use Rattle.cdf_builder_runs.specs.Telling.{Tells, first_units}
use Rattle.cdf_builder_runs.proofs.Growing.{shut_all, shut_all_lem}
use Rattle.cdf_builder_runs.proofs.Spine.{Spine}
use Rattle.cdf_builder_runs.proofs.Said.{requested_unit, requested_append, requested_says}
use Rattle.cdf_builder_runs.proofs.Low.{all_low, all_told}

pub length_says : (f : Forest) → length (says f) ≡ units f
unfolding says units
length_says none = refl
length_says (tree id action text inner rest) =
    rw (length-append (says inner) (says rest)) (omega (arith, length_says inner, length_says rest))

take_both : (n : ℕ) (xs ys : List Item) → take n (xs ++ ys) ≡ take n xs ++ take (n - length xs) ys
take_both zero xs ys = let e : 0 - length xs ≡ 0 = omega arith in rw e
take_both (suc n) [] ys = let e : suc n - 0 ≡ suc n = omega arith in rw e
take_both (suc n) (x ∷ xs) ys =
    let e : n - length xs ≡ suc n - suc (length xs) = omega arith in
    ap (λ (r : List Item). x ∷ r) (take_both n xs ys ∙ ap (λ (k : ℕ). take n xs ++ take k ys) e)

says_first : (f : Forest) (n : ℕ) → says (first_units f n) ≡ take n (says f)
unfolding says first_units
says_first none n = sym (take-nil n)
says_first (tree id action text inner rest) zero = refl
says_first (tree id action text inner rest) (suc n) =
    let same = ap (λ (k : ℕ). take (n - k) (says rest)) (sym (length_says inner)) in
    ap (λ (r : List Item). record { id = id; action = action; text = text } ∷ r)
    (ap₂ (λ (x y : List Item). x ++ y) (says_first inner n) (says_first rest (n - units inner) ∙ same) ∙ sym (take_both n (says inner) (says rest)))

first_height : (r : ℕ) (f : Forest) (n : ℕ) → OfHeight r (ids f) → OfHeight r (ids (first_units f n))
unfolding ids first_units
first_height r none n h = record {}
first_height r (tree id action text inner rest) zero h = record {}
first_height r (tree id action text inner rest) (suc n) h = (h.0, first_height r rest (n - units inner) h.1)

first_lower : (m : ℕ) (f : Forest) (n : ℕ) → Lower m (ids f) → Lower m (ids (first_units f n))
unfolding ids first_units
first_lower m none n h = record {}
first_lower m (tree id action text inner rest) zero h = record {}
first_lower m (tree id action text inner rest) (suc n) h = (h.0, first_height (height id) rest (n - units inner) h.1)

first_low : (f : Forest) (n : ℕ) → Low f → Low (first_units f n)
unfolding first_units
first_low none n h = record {}
first_low (tree id action text inner rest) zero h = record {}
first_low (tree id action text inner rest) (suc n) (p, within, after) =
    (first_lower (height id) inner n p, first_low inner n within, first_low rest (n - units inner) after)

first_root : (f : Forest) (id n : ℕ) → ids f ≡ id ∷ [] → ids (first_units f (suc n)) ≡ id ∷ []
unfolding ids first_units
first_root none id n e = absurd (cons≢nil (sym e))
first_root (tree i action text inner none) id n e = e
first_root (tree i action text inner (tree j a s f x)) id n e = let z : j ∷ ids x ≡ [] = cc in absurd (cons≢nil z)

-- The units that were told first are the first of the tree.
module _ (e : Edition) (w : ℕ) (os : List Begun) (u : Item) (rs : List Request) (front : List ℕ)
    (s : Spine (layout_of e) w os (unit u ∷ rs) front) (t : Forest) (more : List Request) (grammar : InGrammar t)
    (tells : Tells (layout_of e) t (unit u ∷ (rs ++ more))) where
  abbrev l : Layout
  l = layout_of e

  abbrev said : List Item
  said = requested l (unit u ∷ rs)

  abbrev trees : Forest
  trees = shut_all s.frames s.kids

  says_said : says (first_units t (length said)) ≡ said
  says_said =
      says_first t (length said)
      ∙ ap (take (length said)) (requested_says e t (unit u ∷ (rs ++ more)) tells ∙ requested_append l (unit u ∷ rs) more)
      ∙ take-append_seam said (requested l more)

  one : trees ≡ first_units t (length said)
  one =
      let a = all_low l s.frames s.kids os s.held (low l s.kids (fits l s.kids s.conforms)) in
      let root = (root_agrees t).0 grammar.root in
      let some : length said ≡ suc (length (requested l rs)) = ap length (requested_unit l u rs) in
      let alone = rw (← some) at (first_root t root.0 (length (requested l rs)) root.1) in
      said_low trees (first_units t (length said)) a.0 (first_low t (length said) (low l t (fits l t grammar.conforms))) a.1.1 alone
      (requested_says e trees (unit u ∷ rs) (all_told l s.frames s.kids (unit u ∷ rs) s.told) ∙ sym says_said)

  pub front_first : front ≡ encode l (first_units t (length said))
  front_first = s.bytes ∙ shut_all_lem l w s.frames s.kids s.ends ∙ ap (encode l) one
