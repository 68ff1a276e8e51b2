-- The units told are those that are open at the point.
use Rattle.std.proofs.Common.{ℕ, ◌≤◌, ◌<◌, ◌≡◌, refl, sym, ap, ◌∙◌, true, List, [], ◌∷◌, ◌++◌, reverse, append_assoc, ◌⊎◌, inl, inr, ◌↔◌, arith}
use Rattle.std.proofs.Common.{lt-ltb, le-leb, ltb-true, eqb-true, eqb, ltb, leb}
use Rattle.std.proofs.lemmas.List.{reverse-reverse}
use mathlib.Core.List.{reverse-cons}
use Rattle.cdf_unit_table.specs.States.{opens}
use Rattle.cdf_unit_prefix.specs.Layout.{Layout}
use Rattle.cdf_unit_list.specs.Units.{after, open_at, closing_at, listing}
use Rattle.cdf_unit_list.specs.Check.{check_of}
use Rattle.cdf_unit_list.specs.declared.Unit.{Unit}
use Rattle.cdf_unit_list.proofs.Nested.{reaching, Nested}
use Rattle.cdf_explain_spec.specs.Why.{open_around, why_of}
use Rattle.cdf_explain_spec.specs.Claims.{OneOf, here, there, Refused, behind, point_of, Spans, OpenAt, Last}
use Rattle.cdf_explain_spec.proofs.Kept.{each_parent, parts, around_rest}
use Rattle.cdf_explain_spec.proofs.Inwards.{one_turned, each_listed, around_opens, outer_part}
use Rattle.cdf_explain_spec.proofs.Members.{each_at, one_none, first_or, one_split, one_right, turned_one, one_passes, surrounds, inner_later}
use Rattle.cdf_explain_spec.proofs.Last.{Ends, Stopped, stopped, start_low, why_is, check_is, Judges, Lacking, by_end}

module _ (l : Layout) (s : List ℕ) (u : Unit) (us : List Unit) (n at : ℕ) (e : Ends l s (u ∷ us) n at) where
  abbrev pos : ℕ
  pos = after u

  abbrev all : List Unit
  all = u ∷ us

  -- A unit ends behind the point, or spans the incomplete one.
  abbrev Ending : Unit → Type 0
  Ending w = (pos < w.end) ⊎ ((n ≡ 10) × Spans at pos w)

  later : {w : Unit} → OneOf w (open_at pos all) → pos < w.end
  unfolding open_at
  later o = each_at (λ w. pos < w.end) o (each_parent (λ v. ltb pos v.end) (λ w. pos < w.end) (λ v p q. ltb-true pos v.end q) all)

  ended : {w : Unit} → OneOf w all → opens w.id ≡ true → pos < w.end → OneOf w (open_at pos all)
  unfolding open_at
  ended {w} one o h = one_passes (λ v. ltb pos v.end) one o (lt-ltb pos w.end h)

  -- Those that reach the point, from the incomplete one outwards.
  module _ (k : Lacking l s u us n at) where
    abbrev lacks : Unit
    lacks = k.closing.unit

    abbrev outer : List Unit
    outer = k.closing.outer ++ open_at pos all

    reach_is : reaching pos all ≡ k.closing.inner ++ (lacks ∷ outer)
    reach_is =
        parts pos all e.1 ∙ ap (λ cs. cs ++ open_at pos all) k.closing.is
        ∙ append_assoc k.closing.inner (lacks ∷ k.closing.outer) (open_at pos all)

    starts_before : {w : Unit} → OneOf w (lacks ∷ outer) → w.start ≤ lacks.start
    starts_before o =
        go (first_or o refl) (outer_part k.closing.inner (lacks ∷ outer) pos pos (rw reach_is at e.1))
      where
        go : {w : Unit} → (w ≡ lacks) ⊎ OneOf w outer → Nested lacks.start lacks.end outer → w.start ≤ lacks.start
        go (inl q) h = rw q (omega arith)
        go (inr o) h = omega (arith, (surrounds lacks.start lacks.end h o).0)

    ends_there : lacks.end ≡ pos
    unfolding closing_at
    ends_there =
        each_at (λ w. w.end ≡ pos) (rw (← k.closing.is) at (one_right k.closing.inner {vs = lacks ∷ k.closing.outer} here))
        (each_parent (λ v. eqb v.end pos) (λ w. w.end ≡ pos) (λ v p q. eqb-true v.end pos q) all)

  -- What is open reaches the point.
  reaches : {w : Unit} → OneOf w (open_around all) → (w.start < pos) × (pos ≤ w.end)
  reaches o = let r = around_rest u us e.1 in surrounds pos pos e.1 (rw (← r.1) at (one_right r.0 o))

  ending : {w : Unit} → OneOf w (open_around all) → Ending w
  ending o = go (by_end l s u us n at e.0) o (reaches o).1
    where
      go : {w : Unit} → Judges l s u us n at ⊎ Lacking l s u us n at → OneOf w (open_around all) → pos ≤ w.end → Ending w
      go (inl j) o far = inl (later (rw (← j.stay) at (rw j.around at o)))
      go (inr k) o far = inr (k.ten, (rw k.offset (starts_before k (rw k.around at o)), far))

  opened : {w : Unit} → OneOf w all → opens w.id ≡ true → Ending w → OneOf w (open_around all)
  opened one o x = go (by_end l s u us n at e.0) one o x
    where
      in_outer : {w : Unit} (k : Lacking l s u us n at) → w.start ≤ at → OneOf w k.closing.inner ⊎ OneOf w (lacks k ∷ outer k) →
          OneOf w (lacks k ∷ outer k)
      in_outer k h (inl i) =
          absurd (omega (arith, inner_later pos pos (lacks k) (outer k) (rw (reach_is k) at e.1) i, k.offset))
      in_outer k h (inr o) = o

      go : {w : Unit} → Judges l s u us n at ⊎ Lacking l s u us n at → OneOf w all → opens w.id ≡ true → Ending w → OneOf w (open_around all)
      go (inl j) one o (inl h) = rw (j.around, ← j.stay) (ended one o h)
      go (inl j) one o (inr x) = absurd (omega (arith, j.low, x.0))
      go (inr k) one o (inl h) = rw k.around (there (one_right k.closing.outer (ended one o h)))
      go {w} (inr k) one o (inr x) =
          let reach = one_passes (λ v. leb pos v.end) one o (le-leb pos w.end x.1.1) in
          rw k.around (in_outer k x.1.0 (one_split k.closing.inner (lacks k ∷ outer k) (rw (reach_is k) at reach)))

  there_told : (w : Unit) →
      OneOf w (reverse (open_around all)) ↔ (OneOf w (reverse all) × (opens w.id ≡ true) × (w.start < pos) × Ending w)
  there_told w = (
    (λ o. let one = turned_one (open_around all) o in (
      each_at (λ v. OneOf v (reverse all)) o (each_listed all),
      each_at (λ v. opens v.id ≡ true) one (around_opens all),
      (reaches one).0,
      ending one,
    )),
    (λ x. one_turned [] (opened (turned_one all x.0) x.1 x.3)),
  )

module _ (l : Layout) (s : List ℕ) where
  told_by : (before : List Unit) (n at : ℕ) → Ends l s before n at → (w : Unit) →
      OneOf w (reverse (open_around before))
      ↔ (OneOf w (reverse before) × (opens w.id ≡ true) × (w.start < behind before) × ((behind before < w.end) ⊎ ((n ≡ 10) × Spans at (behind before) w)))
  unfolding open_around
  told_by [] n at e w = ((λ o. absurd (one_none o)), (λ x. absurd (one_none x.0)))
  told_by (u ∷ us) n at e w = there_told l s u us n at e w

  pub told_open : Refused l s → (u : Unit) → OneOf u (why_of l s).units ↔ OpenAt l s (point_of l s) u
  told_open r u =
      let w = stopped l s r in
      rw (why_is l s w, check_is l s w, w.units, reverse-reverse) (told_by w.before w.number w.offset w.ends u)

  -- The last of the units told.
  abbrev Ten : List Unit → List Unit → ℕ → Type 0
  Ten before told at = (u : Unit) × Last u told × (u.start ≡ at) × (u.end ≡ behind before)

  ten_by : (before : List Unit) (n at : ℕ) → Ends l s before n at → n ≡ 10 → Ten before (reverse (open_around before)) at
  ten_by [] n at e ten = absurd (omega (arith, start_low l s n at e))
  ten_by (u ∷ us) n at e ten = go (by_end l s u us n at e.0)
    where
      go : Judges l s u us n at ⊎ Lacking l s u us n at → Ten (u ∷ us) (reverse (open_around (u ∷ us))) at
      go (inl j) = absurd (omega (arith, j.low))
      go (inr k) =
          let c = k.closing.unit in
          let more = k.closing.outer ++ open_at (after u) (u ∷ us) in
          (c, (reverse more, ap reverse k.around ∙ reverse-cons c more), sym k.offset, ends_there l s u us n at e k)

  pub last_incomplete : (check_of l s).number ≡ 10 → Ten (reverse (listing l s).units) (why_of l s).units (check_of l s).value
  last_incomplete z = by_stop (stopped l s (λ x. omega arith))
    where
      by_stop : Stopped l s → Ten (reverse (listing l s).units) (why_of l s).units (check_of l s).value
      by_stop w =
          let ten : w.number ≡ 10 = rw (check_is l s w) at z in
          rw (why_is l s w, check_is l s w, w.units, reverse-reverse) (ten_by w.before w.number w.offset w.ends ten)
