-- What the tool tells, by how the unit list ends.
use Rattle.std.proofs.Common.{ℕ, ◌-◌, ◌≤◌, ◌≡◌, refl, ap, sym, ◌∙◌, Bool, true, false, List, [], ◌∷◌, map, reverse, arith, length, take, drop}
use Rattle.std.proofs.lemmas.List.{length-map, length-reverse}
use Rattle.cdf_unit_table.specs.Ids.{ids_end}
use Rattle.cdf_unit_table.specs.States.{root_kind}
use Rattle.cdf_unit_table.specs.Tables.{those}
use Rattle.cdf_unit_prefix.specs.Layout.{Layout}
use Rattle.cdf_unit_judge.specs.Judge.{judge_of, Judged, Fault, Found}
use Rattle.cdf_unit_judge.proofs.Faults.{told as fault-told}
use Rattle.cdf_unit_table.proofs.Bools.{both, clash}
use Rattle.cdf_unit_list.specs.Units.{after, End, unfinished, ended, fault, listing, state_of}
use Rattle.cdf_unit_list.specs.Check.{answer_of, answer, check_of}
use Rattle.cdf_unit_list.specs.Stack.{Closing, incomplete, left, close, Step, refused, entered, with_state, step_in, step, step_by, step_in_by}
use Rattle.cdf_unit_list.specs.declared.Unit.{Unit}
use Rattle.cdf_unit_list.specs.declared.Open.{Open}
use Rattle.cdf_unit_list.proofs.Proved.{proved}
use Rattle.cdf_unit_list.proofs.StatesListed.{open_of}
use Rattle.cdf_unit_list.proofs.Nested.{Nested, reaching}
use Rattle.cdf_reader_spec.specs.Place.{ReaderPlace, every, is_state}
use Rattle.cdf_reader_spec.specs.Closing.{unclosed}
use Rattle.cdf_reader_spec.proofs.Fitting.{States, fitting}
use Rattle.cdf_reader_spec.proofs.Opened.{at_most_four}
use Rattle.cdf_reader_spec.proofs.Replying.{start}
use Rattle.cdf_reader_runs.proofs.Steps.{Run, ends, breaks, hands, listed}
use Rattle.cdf_explain_spec.specs.Why.{nothing_wrong, open_around, admitted_by, why_after, why_of}
use Rattle.cdf_explain_spec.specs.Claims.{Inwards, OneOf, Each}
use Rattle.cdf_explain_spec.proofs.Kept.{around_is, around_rest}
use Rattle.cdf_reader_runs.proofs.Looping.{Behind, Stands, Stops, at_end_lem, at_fault}
use Rattle.cdf_explain_spec.proofs.Stands.{final, why_after_lem}
use Rattle.cdf_explain_spec.proofs.Ids.{unclosed_states, unclosed_few, Lacks, lacking, incomplete_admits}
use Rattle.cdf_explain_spec.proofs.Inwards.{outer_part, turned, each_listed}

-- What holds of the open units of a fault and of none holds of those that are told.
of_end : (P : List Unit → Type 0) (us : List Unit) (e : End) → P [] → P (reverse (open_around us)) → P (why_after us e).units
unfolding why_after
of_end P us unfinished none some = none
of_end P us ended none some = none
of_end P us (fault n at) none some = some

module _ (l : Layout) (s : List ℕ) where
  -- The stack that closing leaves at the place behind a unit is the open units.
  pub around_units : (u : Unit) (us : List Unit) (p : ReaderPlace) → Behind l s u us p →
      unclosed p.units p.position ≡ map (open_of (u ∷ us)) (open_around (u ∷ us))
  around_units u us p b = rw (b.follow.stack, b.position) (around_is u us (rw b.position at b.follow.nested))

  -- So what holds of those at every place that the list can stand at holds of the units told.
  told : (P : List Unit → Type 0) → P [] →
      ((before : List Unit) (p : ReaderPlace) (x : Step) → Stands l s before p x → P (reverse (open_around before))) → P (why_of l s).units
  told P none some =
      let f = final l s in
      rw (why_after_lem l s f.before f.units) (of_end P f.before (listing l s).end none (some f.before f.place f.taken f.stands))

  -- The open units behind a unit are nested at its end, where the place stands.
  at_end : (u : Unit) (us : List Unit) (p : ReaderPlace) → Behind l s u us p → Nested (after u) (after u) (reaching (after u) (u ∷ us))
  at_end u us p b = rw b.position at b.follow.nested

  pub inside : Inwards (why_of l s).units
  unfolding open_around
  inside = told Inwards (record {}) go
    where
      go : (before : List Unit) (p : ReaderPlace) (x : Step) → Stands l s before p x → Inwards (reverse (open_around before))
      go [] p x h = record {}
      go (u ∷ us) p x h =
          let nested = at_end u us p h.0 in
          let w = around_rest u us nested in
          turned (open_around (u ∷ us)) (outer_part w.0 (open_around (u ∷ us)) (after u) (after u) (rw w.1 at nested))

  pub four : length (why_of l s).units ≤ 4
  unfolding open_around
  four = told (λ us. length us ≤ 4) (omega arith) go
    where
      go : (before : List Unit) (p : ReaderPlace) (x : Step) → Stands l s before p x → length (reverse (open_around before)) ≤ 4
      go [] p x h = omega arith
      go (u ∷ us) p x h =
          let few = at_most_four p.units (fitting l (length s) p h.0.fit).kinds in
          let same = ap length (around_units u us p h.0) ∙ length-map (open_around (u ∷ us)) (open_of (u ∷ us)) in
          rw (length-reverse (open_around (u ∷ us))) (omega (arith, unclosed_few p.units p.position))

  pub listed_open : Each (λ u. OneOf u (listing l s).units) (why_of l s).units
  listed_open =
      let f = final l s in
      rw (why_after_lem l s f.before f.units, f.units)
      (of_end (Each (λ u. OneOf u (reverse f.before))) f.before (listing l s).end (record {}) (each_listed f.before))

  -- The number and the offset are those of the check.
  pub accepted : (check_of l s).number ≡ 0 → why_of l s ≡ nothing_wrong
  unfolding why_of why_after check_of answer answer_of
  accepted z = go (listing l s).end refl z
    where
      go : (e : End) → (listing l s).end ≡ e → (answer_of (length (listing l s).units) e).number ≡ 0 →
          why_after (reverse (listing l s).units) e ≡ nothing_wrong
      go unfinished q z = absurd (omega arith)
      go ended q z = refl
      go (fault n at) q z = absurd (omega (arith, proved.numbered l s q))

  pub refused_same : ((check_of l s).number ≡ 0 → ⊥) → ((why_of l s).number ≡ (check_of l s).number) × ((why_of l s).offset ≡ (check_of l s).value)
  unfolding why_of why_after check_of answer answer_of
  refused_same some = go (listing l s).end refl some
    where
      go : (e : End) → (listing l s).end ≡ e → ((answer_of (length (listing l s).units) e).number ≡ 0 → ⊥) →
          ((why_after (reverse (listing l s).units) e).number ≡ (answer_of (length (listing l s).units) e).number)
          × ((why_after (reverse (listing l s).units) e).offset ≡ (answer_of (length (listing l s).units) e).value)
      go unfinished q some = (refl, refl)
      go ended q some = absurd (some refl)
      go (fault n at) q some = (refl, refl)

  -- A start that lists no unit was refused.
  start_fault : {x : Step} {us : List Unit} {e : End} → Run l s x us e → us ≡ [] → (j : Judged) → x ≡ entered 0 (λ state. []) j →
      (n : ℕ) × (at : ℕ) × (e ≡ fault n at)
  unfolding entered
  start_fault ends none (Fault n k) q = clash cc
  start_fault ends none (Found id action own len state) q = clash cc
  start_fault (breaks {n} {at}) none j q = (n, at, refl)
  start_fault (hands run) none j q = clash cc

  -- So it tells a root's ids,
  start_is : (listing l s).units ≡ [] → ((why_of l s).units ≡ []) × ((why_of l s).ids ≡ those root_kind ids_end)
  unfolding why_after open_around admitted_by
  start_is none = let f = start_fault (listed l s) none (judge_of l true 0 s) refl in rw (why_after_lem l s [] none, f.2) (refl, refl)

  pub refused_ids : (listing l s).units ≡ [] → (why_of l s).ids ≡ those root_kind ids_end
  refused_ids none = (start_is none).1

  -- which are these.
  pub refused_start : (listing l s).units ≡ [] → ((why_of l s).units ≡ []) × ((why_of l s).ids ≡ 1 ∷ 4 ∷ 13 ∷ [])
  unfolding root_kind those
  refused_start none = let w = start_is none in (w.0, w.1)

  -- Number 10 comes of closing alone.
  judged_never : (pos at : ℕ) (around : ℕ → List Open) (root : Bool) (state : ℕ) (t : List ℕ) →
      entered pos around (judge_of l root state t) ≡ refused 10 at → ⊥
  unfolding entered
  judged_never pos at around root state t e = go (judge_of l root state t) refl e
    where
      go : (j : Judged) → judge_of l root state t ≡ j → entered pos around j ≡ refused 10 at → ⊥
      go (Fault n k) q e = let z : n ≡ 10 = cc in omega (arith, (fault-told l root t state q).high)
      go (Found id action own len next) q e = clash cc

  closing_ten : (os : List Open) (pos at : ℕ) → step l s os pos ≡ refused 10 at → Lacks (unclosed os pos)
  unfolding step_by step_in_by
  closing_ten os pos at e = go (close os pos) refl e
    where
      go : (c : Closing) → close os pos ≡ c → step_in l s pos c ≡ refused 10 at → Lacks (unclosed os pos)
      go (incomplete start) q e = lacking os pos start q
      go (left []) q e = clash cc
      go (left (o ∷ rest)) q e =
          let t = take (o.end - pos) (drop pos s) in
          absurd (judged_never pos at (λ state. with_state o state ∷ rest) false o.state t e)

  -- The innermost of the open units, where it is incomplete, admits something.
  lacking_ids : (us ws : List Unit) → States (map (open_of us) ws) → Lacks (map (open_of us) ws) → admitted_by us ws ≡ [] → ⊥
  unfolding admitted_by every
  lacking_ids us [] h k none = clash cc
  lacking_ids us (w ∷ ws) h k none =
      let first : open_of us w ≡ k.inner = cc in
      let same = ap (λ (o : Open). o.state) first in
      incomplete_admits (state_of us w) (both (is_state (state_of us w)) _ h).0 (rw same k.lacks) none

  ten_from : (before : List Unit) (p : ReaderPlace) (at : ℕ) → Stands l s before p (refused 10 at) → admitted_by before (open_around before) ≡ [] → ⊥
  ten_from [] p at h none = judged_never 0 at (λ state. []) true 0 s (sym h.1)
  ten_from (u ∷ us) p at h none =
      let same = around_units u us p h.0 in
      lacking_ids (u ∷ us) (open_around (u ∷ us))
      (rw same at (unclosed_states p.units p.position (fitting l (length s) p h.0.fit).states))
      (rw same at (closing_ten p.units p.position at (sym h.1))) none

  ten_stops : (before : List Unit) (p : ReaderPlace) {x : Step} {e : End} → Stops l s x e → Stands l s before p x →
      (why_after before e).number ≡ 10 → (why_after before e).ids ≡ [] → ⊥
  unfolding why_after
  ten_stops before p at_end_lem h z none = omega arith
  ten_stops before p (at_fault {n} {at}) h z none = ten_from before p at (rw z at h) none

  pub ten : (why_of l s).number ≡ 10 → (why_of l s).ids ≡ [] → ⊥
  ten z none =
      let f = final l s in
      let e = why_after_lem l s f.before f.units in
      ten_stops f.before f.place f.stops f.stands (rw e at z) (rw e at none)
