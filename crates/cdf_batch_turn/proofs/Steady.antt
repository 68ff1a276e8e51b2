-- The numbers of the two passes, which do not ask whether the place fits. At one that does, the first pass tells what is due; and of a request that
-- answers 0 the second tells 0.
use Rattle.std.proofs.Common.{ℕ, suc, ◌+◌, ◌≤◌, ◌≡◌, refl, sym, ◌∙◌, Bool, true, false, cond, not, List, [], ◌∷◌, ◌++◌, arith, eqb-true, ne_eqb}
use Rattle.std.proofs.Common.{le-ltb, lt-ltb, ltb-true, ltb-false, eqb, ltb, length}
use Rattle.std.proofs.lemmas.Bool.{eqb-false}
use Rattle.cdf_unit_table.specs.Ids.{known, action_allowed}
use Rattle.cdf_unit_table.specs.States.{nothing}
use Rattle.cdf_unit_table.proofs.Bools.{past}
use Rattle.cdf_unit_prefix.specs.Layout.{Layout}
use Rattle.cdf_reader_spec.proofs.Counted.{length_held}
use Rattle.cdf_builder_spec.specs.Place.{BuilderPlace, fits}
use Rattle.cdf_builder_spec.specs.Requests.{bytes_for, joining, ending, completed, join_number, advanced, grown}
use Rattle.cdf_builder_spec.specs.Calls.{room, call_number}
use Rattle.cdf_builder_spec.specs.Slots.{no_begun, units, placed}
use Rattle.cdf_builder_spec.specs.declared.Begun.{Begun}
use Rattle.cdf_builder_spec.specs.declared.Parts.{Parts}
use Rattle.cdf_builder_spec.proofs.Fitting.{fitting}
use Rattle.cdf_builder_spec.proofs.Replying.{unit_size}
use Rattle.cdf_builder_faults.specs.Parts.{own_fault}
use Rattle.cdf_builder_decide.proofs.Stages.{unknown, by_faults, allowed, unit_place}
use Rattle.cdf_builder_decide.proofs.Few.{few}
use Rattle.cdf_batch_spec.specs.declared.UnitRequest.{UnitRequest}
use Rattle.cdf_batch_spec.specs.Asking.{bounded, asked, unbounded}
use Rattle.cdf_batch_spec.proofs.Staged.{unbounded_is}
use Rattle.cdf_batch_turn.specs.Passes.{or_else, part, within, fault_of, crowded, pass_number}

-- Of two numbers the first that is not 0: what is behind it does not matter.
unless : (j x t : ℕ) → (or_else j x ≡ 0 → t ≡ 0) → or_else j (or_else x t) ≡ or_else j x
unless j x t h = by (eqb j 0) refl (eqb x 0) refl
  where
    by : (b : Bool) → eqb j 0 ≡ b → (c : Bool) → eqb x 0 ≡ c → or_else j (or_else x t) ≡ or_else j x
    by false e c d = rw e
    by true e false d = rw (e, d)
    by true e true d =
        let zero = eqb-true x 0 d in
        rw (e, d) (h (rw e zero) ∙ sym zero)

-- Both are 0 where none is told.
pub neither : (j x : ℕ) → or_else j x ≡ 0 → (j ≡ 0) × (x ≡ 0)
neither j x z = by (eqb j 0) refl
  where
    by : (b : Bool) → eqb j 0 ≡ b → (j ≡ 0) × (x ≡ 0)
    by true e = (eqb-true j 0 e, rw e at z)
    by false e = absurd (eqb-false j 0 e (rw e at z))

-- Bad bounds: the numbers before 9 stay.
bad_by : (k a b c : Bool) (t : ℕ) →
    cond (not k) 6 (or_else (cond a 7 (cond b 10 0)) (or_else (cond c 9 8) t)) ≡ cond (not k) 6 (cond a 7 (cond b 10 (cond (not c) 8 9)))
bad_by false a b c t = refl
bad_by true true b c t = refl
bad_by true false true c t = refl
bad_by true false false true t = refl
bad_by true false false false t = refl

-- More than there are slots, by the count and whether a unit is entered.
crowded_by : (none : Bool) (count : ℕ) (o : Begun) (os : List Begun) → length os ≡ count →
    cond none (ltb 4 count) (ltb 3 count) ≡ ltb 4 (length (cond none [] (o ∷ []) ++ os))
crowded_by true count o os is = rw is
crowded_by false count o os is = rw is (by (ltb 3 count) refl)
  where
    by : (b : Bool) → ltb 3 count ≡ b → ltb 3 count ≡ ltb 4 (suc count)
    by true e = e ∙ sym (lt-ltb 4 (suc count) (omega (arith, ltb-true 3 count e)))
    by false e = e ∙ sym (le-ltb 4 (suc count) (omega (arith, ltb-false 3 count e)))

module _ (l : Layout) (writing : Bool) (n : ℕ) (text : List ℕ) (p : BuilderPlace) (r : UnitRequest) where
  abbrev fault : ℕ
  fault = fault_of l writing n p.written text r

  abbrev behind : ℕ
  behind = cond (crowded l text p r) 2 0

  pub number_unknown : known r.id ≡ false → pass_number l writing n text p r ≡ 6
  unfolding pass_number
  number_unknown e = rw e

  -- What the code tells by its parts: of bad bounds, and of good ones.
  pub fault_bad : bounded text r ≡ false → (m : ℕ) → m ≡ cond (action_allowed r.id r.action) 9 8 → m ≡ fault
  unfolding fault_of
  fault_bad bad m e = e ∙ rw bad

  pub fault_good : bounded text r ≡ true → (own : List ℕ) → own ≡ part text r → (m : ℕ) → m ≡ within l writing n p.written r own → m ≡ fault
  unfolding fault_of
  fault_good good own is m e = e ∙ rw (is, good)

  number_known : known r.id ≡ true → pass_number l writing n text p r ≡ or_else (join_number p.units r.id 0) (or_else fault behind)
  unfolding pass_number
  number_known e = rw e

  module _ (k : known r.id ≡ true) where
    -- It does not join;
    pub number_joins : (m : ℕ) → m ≡ join_number p.units r.id 0 → (m ≡ 0 → ⊥) → pass_number l writing n text p r ≡ m
    number_joins m is some = number_known k ∙ rw (← is, ne_eqb m 0 some)

    -- or it does, and of what is asked then something is told, or nothing.
    module _ (joins : 0 ≡ join_number p.units r.id 0) where
      pub number_faults : (m : ℕ) → m ≡ fault → (m ≡ 0 → ⊥) → pass_number l writing n text p r ≡ m
      number_faults m is some = number_known k ∙ rw (← joins, ← is, ne_eqb m 0 some)

      pub number_none : 0 ≡ fault → pass_number l writing n text p r ≡ behind
      number_none none = number_known k ∙ rw (← joins, ← none)

  -- Bad bounds are told alike in both passes.
  pub number_bad : fits l n p ≡ true → bounded text r ≡ false → pass_number l writing n text p r ≡ unbounded l n p r
  unfolding pass_number fault_of join_number
  number_bad f bad =
      rw (bad, unbounded_is l n p r, f)
      (bad_by (known r.id) (eqb (length (joining r.id p.units)) 0) (not (completed (ending r.id p.units)))
      (action_allowed r.id r.action) (cond (crowded l text p r) 2 0))

-- The units then open, by the slots.
pub crowded_is : (l : Layout) (text : List ℕ) (p : Parts) (r : UnitRequest) (count : ℕ) (top : Begun) →
    units count top p.units.o1 p.units.o2 p.units.o3 ≡ advanced r.id (joining r.id (placed p).units) → (first : ℕ) → first ≡ nothing r.id →
    cond (eqb first 0) (ltb 4 count) (ltb 3 count) ≡ crowded l text (placed p) r
crowded_is l text p r count top left first is =
    rw (unit_place l 0 p count top r.id left r.action (part text r) _ refl first is)
    (crowded_by (eqb first 0) count _ _ (length_held no_begun count top p.units.o1 p.units.o2 p.units.o3))

module _ (l : Layout) (n : ℕ) (text : List ℕ) (p : BuilderPlace) (r : UnitRequest) (good : bounded text r ≡ true) where
  abbrev number : ℕ
  number = call_number l n p (asked text r)

  uncrowded : number ≡ 0 → crowded l text p r ≡ false
  uncrowded z = le-ltb 4 (length (grown l p (asked text r)).units) (few l n p (asked text r) z)

  module _ (f : fits l n p ≡ true) where
    low : ltb l.limit p.written ≡ false
    low = le-ltb l.limit p.written (fitting l n p f).limit

    judging_fault : fault_of l false n p.written text r
        ≡ or_else (own_fault r.id r.action (part text r)) (room l n (p.written + length (bytes_for l (asked text r))))
    unfolding fault_of
    judging_fault = rw (good, low, unit_size l (record { id = r.id; action = r.action; text = part text r }))

    writing_fault : fault_of l true n p.written text r ≡ 0
    unfolding fault_of
    writing_fault = rw (good, low)

    pub number_good : pass_number l false n text p r ≡ number
    number_good = by (known r.id) refl
      where
        by : (b : Bool) → known r.id ≡ b → pass_number l false n text p r ≡ number
        by false e = number_unknown l false n text p r e ∙ sym (unknown l n p _ f e)
        by true e =
            let due : number ≡ or_else (join_number p.units r.id 0) (fault_of l false n p.written text r)
            = by_faults l n p _ f e ∙ rw judging_fault in
            number_known l false n text p r e
            ∙ unless (join_number p.units r.id 0) (fault_of l false n p.written text r) (cond (crowded l text p r) 2 0)
            (λ z. rw (uncrowded (due ∙ z)))
            ∙ sym due

    -- A request that answers 0 is written.
    pub number_taken : number ≡ 0 → pass_number l true n text p r ≡ 0
    number_taken z =
        let k = (allowed l n p _ z).0 in
        let joins = (neither (join_number p.units r.id 0) _ (sym (by_faults l n p _ f k) ∙ z)).0 in
        number_known l true n text p r k ∙ rw (joins, writing_fault, uncrowded z)
