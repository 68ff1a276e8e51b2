-- The productions and the table of kinds say the same of every id.
use Rattle.std.proofs.Common.{ℕ, ◌≤◌, ◌≡◌, refl, ap, Bool, true, false, not, ◌||◌, cond, List, [], ◌∷◌, ◌↔◌, ⊎_elim, inl, inr, arith, le-leb, le-ltb}
use Rattle.std.proofs.Common.{eq-eqb, eqb-true, eqb}
use Rattle.std.proofs.lemmas.Bool.{false≢true}
use mathlib.Core.Bool.{or-true}
use lib.ListN.{get_or-eq_default}
use Rattle.cdf_unit_table.specs.Ids.{member, Rule, blank, name, name_value, value, numbers, kinds, kind_of, known, action_allowed, ids_end}
use Rattle.cdf_unit_table.specs.States.{opens}
use Rattle.cdf_unit_table.proofs.Bools.{either}
use Rattle.cdf_unit_table.proofs.Rows.{none_opens}
use Rattle.cdf_grammar.specs.Content.{Content, empty}
use Rattle.cdf_grammar.specs.Published.{Text, no_text, name_text, name_and_value, value_text, number_text, productions, production_of, Among}
use Rattle.cdf_unit_table.proofs.Tables.{same}

abbrev pub text_of : Rule → Text
text_of blank = no_text
text_of name = name_text
text_of name_value = name_and_value
text_of value = value_text
text_of (numbers n) = number_text n

-- A value reaches to the end of its unit, so no others follow it; a name alone, or nothing, is only where others may follow.
abbrev pub suits : Bool → Rule → Bool → Bool
suits unit blank others = not unit || others
suits unit name others = others
suits unit name_value others = not others
suits unit value others = not others
suits unit (numbers n) others = true

-- What is compared at each id, in one table: what is found,
abbrev Facts : Type 0
Facts = List ℕ × Text × Content × Bool × List ℕ

found : ℕ → Facts
found id = (
  (production_of id).actions,
  (production_of id).text,
  cond (opens id) empty (production_of id).content,
  suits (known id) (kind_of id).rule (opens id),
  cond (known id) [] (kind_of id).actions,
)

-- and what it must be.
due : ℕ → Facts
due id = ((kind_of id).actions, text_of (kind_of id).rule, empty, true, [])

beyond : (id : ℕ) → ids_end ≤ id → found id ≡ due id
unfolding found due production_of kind_of known
beyond id h =
    rw (get_or-eq_default productions _ h, get_or-eq_default kinds _ h, none_opens id h)
    (rw (le-leb 1 id (omega arith), le-ltb id ids_end h))

pub record Agreed (id : ℕ) : Type 0 where
  pub actions : (production_of id).actions ≡ (kind_of id).actions
  pub text : (production_of id).text ≡ text_of (kind_of id).rule
  pub leaf : opens id ≡ false → (production_of id).content ≡ empty
  pub suited : suits (known id) (kind_of id).rule (opens id) ≡ true
  pub unknown : known id ≡ false → (kind_of id).actions ≡ []

pub agreed : (id : ℕ) → Agreed id
unfolding found due production_of kind_of known opens
agreed id = let e = same found due ids_end refl beyond id in
    record {
      actions = ap (λ (p : Facts). p.0) e;
      text = ap (λ (p : Facts). p.1) e;
      leaf = λ o. rw o at (ap (λ (p : Facts). p.2) e);
      suited = ap (λ (p : Facts). p.3) e;
      unknown = λ o. rw o at (ap (λ (p : Facts). p.4) e);
    }

pub among : (x : ℕ) (xs : List ℕ) → Among x xs ↔ (member x xs ≡ true)
unfolding member
among x [] = (λ o. absurd o, λ e. false≢true e)
among x (y ∷ ys) = (
  λ o. ⊎_elim (λ e. rw (eq-eqb x y e)) (λ m. rw ((among x ys).0 m, or-true)) o,
  λ e. ⊎_elim (λ f. inl (eqb-true x y f)) (λ f. inr ((among x ys).1 f)) (either (eqb x y) (member x ys) e),
)

pub acts_agree : (id action : ℕ) → Among action (production_of id).actions ↔ (action_allowed id action ≡ true)
unfolding action_allowed
acts_agree id action = rw (agreed id).actions (among action (kind_of id).actions)

-- What is no unit has no action.
pub acts_known : (id action : ℕ) → action_allowed id action ≡ true → known id ≡ true
unfolding action_allowed
acts_known id action a = go (known id) refl
  where
    go : (b : Bool) → known id ≡ b → known id ≡ true
    go true e = e
    go false e = absurd (false≢true (rw ((agreed id).unknown e) at a))
