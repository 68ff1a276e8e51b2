-- When a place is passed, and the part that GET_STREAM takes.
use Rattle.std.proofs.Common.{ℕ, ◌-◌, ◌≤◌, ◌≡◌, refl, Bool, true, false, not, cond, ◌&&◌, List, arith, eq-eqb, ne_eqb, length}
use Rattle.cdf_unit_prefix.specs.Layout.{Layout}
use Rattle.cdf_reader_spec.specs.Place.{ReaderPlace, fits}
use Rattle.cdf_reader_spec.specs.Calls.{refuse, move_to, untouched, passed, passing, is_group, take_of, part_of}
use Rattle.cdf_reader_spec.proofs.Fitting.{fitting}
use Rattle.cdf_reader_spec.proofs.Replying.{take_is, part_is}

module _ (l : Layout) (s : List ℕ) (v : ReaderPlace) where
  -- Only a place that fits is passed.
  pub passing_fits : (may : Bool) → (passing l s v may).number ≡ 0 → fits l (length s) v ≡ true
  unfolding passing
  passing_fits true e = go (fits l (length s) v) refl e
    where
      go : (b : Bool) → fits l (length s) v ≡ b → (cond (not b) (refuse 2 0 v) (move_to (passed v))).number ≡ 0 → b ≡ true
      go true f e = refl
      go false f e = absurd (omega arith)
  passing_fits false e = absurd (omega arith)

  -- The part that GET_STREAM takes.
  pub part_none : ((take_of l s v).number ≡ 0 → ⊥) → part_of l s v ≡ record { start = 0; size = 0 }
  part_none other = rw (part_is l s, ne_eqb (take_of l s v).number 0 other)

  pub part_some : (take_of l s v).number ≡ 0 → part_of l s v ≡ record { start = v.last.start; size = v.last.end - v.last.start }
  part_some e = rw (part_is l s, eq-eqb (take_of l s v).number 0 e)

  -- It lies in the bytes.
  pub part_within : (take_of l s v).number ≡ 0 → (v.last.start ≤ v.last.end) × (v.last.end ≤ length s)
  part_within e =
      let f = fitting l (length s) v (passing_fits (untouched v && is_group v.last.id) (rw take_is at e)) in
      omega (arith, f.own, f.end, f.within)
