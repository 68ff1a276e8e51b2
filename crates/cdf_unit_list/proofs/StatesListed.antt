-- The states of the listed units once one more is listed.
use Rattle.std.proofs.Common.{◌≡◌, refl, Bool, false, true, cond, ◌&&◌, List, [], ◌∷◌, map, ℕ, ◌≤◌, ◌<◌, arith, eq-eqb, ne_eqb, ltb}
use Rattle.cdf_unit_table.specs.States.{opens, nothing, admit}
use Rattle.cdf_unit_list.specs.Units.{parents_that, open_at, first_starts, inside, state_from, state_of}
use Rattle.cdf_unit_list.specs.declared.Unit.{Unit}
use Rattle.cdf_unit_list.specs.declared.Open.{Open}
use Rattle.cdf_unit_list.proofs.Nested.{Nested, narrow}

-- A listed unit as one of the open ones.
abbrev pub open_of : List Unit → Unit → Open
open_of us u = record { state = state_of us u; start = u.start; end = u.end }

-- The units all start before the position.
abbrev pub Before : ℕ → List Unit → Type 0
Before pos [] = record {}
Before pos (u ∷ us) = (u.start < pos) × Before pos us

pub before_later : (us : List Unit) (pos later : ℕ) → pos ≤ later → Before pos us → Before later us
before_later [] pos later h b = b
before_later (u ∷ us) pos later h b = (omega arith, before_later us pos later h b.1)

starts_none : (pos : ℕ) (f : Unit → Bool) (us : List Unit) → Before pos us → first_starts pos (parents_that f us) ≡ false
unfolding first_starts parents_that
starts_none pos f [] b = refl
starts_none pos f (u ∷ us) b = go (opens u.id && f u) (starts_none pos f us b.1)
  where
    go : (t : Bool) → first_starts pos (parents_that f us) ≡ false →
        first_starts pos (cond t (u ∷ parents_that f us) (parents_that f us)) ≡ false
    go true e = ne_eqb u.start pos (λ q. omega arith)
    go false e = e

inside_none : (pos : ℕ) (us : List Unit) → Before pos us → inside pos us ≡ []
unfolding inside open_at
inside_none pos [] b = refl
inside_none pos (v ∷ us) b = rw (starts_none pos (λ u. ltb v.start u.end) us b.1) (inside_none pos us b.1)

-- The new unit has had nothing.
pub new_inside : (v : Unit) (us : List Unit) → Before v.start us → inside v.start (v ∷ us) ≡ []
unfolding inside open_at
new_inside v us b = rw (starts_none v.start (λ u. ltb v.start u.end) us b, inside_none v.start us b)

pub new_state : (v : Unit) (us : List Unit) → Before v.start us → state_of (v ∷ us) v ≡ nothing v.id
unfolding state_of state_from
new_state v us b = rw (new_inside v us b)

module _ (v : Unit) (us : List Unit) (o : Unit) (os : List Unit) (opened : open_at v.start us ≡ o ∷ os) where
  -- The innermost open unit has had the new one too,
  pub inner_inside : inside o.start (v ∷ us) ≡ v.id ∷ inside o.start us
  unfolding inside first_starts
  inner_inside = rw (opened, eq-eqb o.start o.start refl)

  pub inner_state : state_of (v ∷ us) o ≡ admit (state_of us o) v.id
  unfolding state_of state_from
  inner_state = rw inner_inside

  -- and those around it what they had before.
  pub outer_inside : (w : Unit) → w.start < o.start → inside w.start (v ∷ us) ≡ inside w.start us
  unfolding inside first_starts
  outer_inside w h = rw (opened, ne_eqb o.start w.start (λ e. omega arith))

  outer_state : (w : Unit) → w.start < o.start → state_of (v ∷ us) w ≡ state_of us w
  unfolding state_of
  outer_state w h = rw (outer_inside w h)

  pub outer_open : (ws : List Unit) (end : ℕ) → Nested o.start end ws → map (open_of (v ∷ us)) ws ≡ map (open_of us) ws
  outer_open [] end h = refl
  outer_open (w ∷ ws) end h =
      let rest = narrow ws w.start w.end o.start w.end (omega arith) (omega arith) h.2 in
      rw (outer_state w h.0, outer_open ws w.end rest)
