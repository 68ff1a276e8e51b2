-- What is wrong with a unit that is given, by the judgement of its body; and when a group is accepted.
use Rattle.std.proofs.Common.{ℕ, ◌-◌, ◌<◌, ◌≡◌, refl, ◌∙◌, Bool, true, false, cond, not, ◌||◌, List, arith, eq-eqb, ne_eqb, eqb, length}
use mathlib.Core.Bool.{or-true, and-false}
use Rattle.std.specs.Prelude.{Some, None}
use lib.ListN.{get_or-eq_default}
use Rattle.cdf_unit_table.specs.Ids.{action_allowed}
use Rattle.cdf_unit_table.specs.States.{opens}
use Rattle.cdf_unit_table.proofs.Bools.{clash}
use Rattle.cdf_unit_prefix.specs.Layout.{Layout, prefix_of, id_at}
use Rattle.cdf_unit_data.specs.Data.{own_data, Own}
use Rattle.std.specs.Prelude.{Ok, Err}
use Rattle.cdf_refusal.specs.Numbers.{number_of}
use Rattle.cdf_unit_judge.specs.declared.BodyFault.{BodyFault}
use Rattle.cdf_unit_judge.specs.declared.BodyFault.TheVariants.{Action as BadAction, Data as BadData}
use Rattle.cdf_unit_judge.specs.Answers.{bodied, refusal_of}
use Rattle.cdf_unit_judge.specs.Judge.{data_body, body_of, body_by, Body, Action, Data, Whole}
use Rattle.cdf_unit_list.specs.Units.{End, unfinished, ended, fault, listing}
use Rattle.cdf_unit_list.specs.Check.{check_of}
use Rattle.cdf_unit_list.proofs.Proved.{proved}
use Rattle.cdf_check.specs.Answers.{checked_by, checked_of, as_answer, Accepted, Refused}
use Rattle.cdf_reader_spec.specs.Calls.{is_group}
use Rattle.cdf_builder_spec.specs.Requests.{whole_data, right_data, accepted_group}
use Rattle.cdf_builder_faults.specs.Parts.{own_fault, group_of}

unfoldable fault_by : ℕ → List ℕ → Body → ℕ
fault_by id text Action = 8
fault_by id text (Data k) = 9
fault_by id text (Whole k) = cond (not (opens id) || eqb k (length text)) 0 9

fault_is : (id action : ℕ) (text : List ℕ) → own_fault id action text ≡ fault_by id text (body_of id action text)
unfolding own_fault right_data body_by whole_data fault_by data_body
fault_is id action text = by (action_allowed id action) (own_data id text)
  where
    whole : (b : Bool) → ◌≡◌ {A = ℕ} (cond (not b) 9 0) (cond b 0 9)
    whole true = refl
    whole false = refl

    by : (may : Bool) (own : Own) →
        cond (not may) 8 (cond (not (whole_data id text own)) 9 0) ≡ fault_by id text (cond (not may) Action (data_body own))
    by false own = refl
    by true (Ok k) = whole (not (opens id) || eqb k (length text))
    by true (Err k) = refl

module _ (id action : ℕ) (text : List ℕ) where
  pub fault_told : (f : BodyFault) → bodied (Err f) ≡ body_of id action text → own_fault id action text ≡ number_of (refusal_of f)
  unfolding fault_by
  fault_told BadAction e = fault_is id action text ∙ rw (← e)
  fault_told (BadData k) e = fault_is id action text ∙ rw (← e)

  module _ {k : ℕ} (e : body_of id action text ≡ Whole k) where
    pub fault_leaf : opens id ≡ false → own_fault id action text ≡ 0
    unfolding fault_by
    fault_leaf shut = fault_is id action text ∙ rw (e, shut)

    pub fault_whole : k ≡ length text → own_fault id action text ≡ 0
    unfolding fault_by
    fault_whole all = fault_is id action text ∙ rw (e, eq-eqb k (length text) all, or-true)

    pub fault_more : opens id ≡ true → (k ≡ length text → ⊥) → own_fault id action text ≡ 9
    unfolding fault_by
    fault_more opening more = fault_is id action text ∙ rw (e, opening, ne_eqb k (length text) more)

module _ (l : Layout) (g : List ℕ) where
  pub group_other : is_group (id_at l g) ≡ false → group_of l g ≡ None
  unfolding group_of accepted_group
  group_other e = rw (e, and-false)

  -- Bytes too few for a prefix are no group.
  pub group_short : length g < prefix_of l → group_of l g ≡ None
  unfolding id_at
  group_short h = group_other (rw (get_or-eq_default g 0 {n = prefix_of l - 1} (omega arith)))

  pub group_accepted : (n : ℕ) → as_answer (Accepted n) ≡ check_of l g → is_group (id_at l g) ≡ true → group_of l g ≡ Some (id_at l g)
  unfolding group_of accepted_group as_answer
  group_accepted n e f = rw (← e, f)

  -- A fault's number is not 0.
  refused_some : {n at : ℕ} → Refused n at ≡ checked_of (listing l g) → n ≡ 0 → ⊥
  unfolding checked_of checked_by
  refused_some {n} {at} e z = by (listing l g).end refl e
    where
      by : (end : End) → (listing l g).end ≡ end → Refused n at ≡ checked_by (length (listing l g).units) end → ⊥
      by unfinished f e = let m : n ≡ 99 = cc in omega arith
      by ended f e = clash cc
      by (fault k p) f e = let m : n ≡ k = cc in let w = proved.numbered l g f in omega (arith, w.0)

  pub group_refused : {n at : ℕ} → Refused n at ≡ checked_of (listing l g) → as_answer (Refused n at) ≡ check_of l g → group_of l g ≡ None
  unfolding group_of accepted_group as_answer
  group_refused {n} is e = rw (← e, ne_eqb n 0 (refused_some is))
