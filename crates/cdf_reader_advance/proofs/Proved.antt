-- The claims of this crate, proved.
use Rattle.std.proofs.Common.{ℕ, suc, ◌-◌, ◌≤◌, ◌<◌, ◌≡◌, refl, sym, ◌∙◌, Bool, true, false, cond, ◌&&◌, ◌||◌, List, [], ◌∷◌, ◌⊎◌, inl, inr, ⊎_elim}
use Rattle.std.proofs.Common.{arith, ltb-false, leb-false, ne_eqb, le-ltb, eqb, leb, ltb, length, take, drop}
use Rattle.std.proofs.lemmas.Bool.{false≢true, eqb-false, lt-leb}
use Rattle.cdf_unit_prefix.specs.Layout.{Layout}
use Rattle.cdf_unit_data.specs.Data.{NameBytes}
use Rattle.cdf_unit_judge.specs.Judge.{judge_in, Judged, Fault, Found}
use Rattle.cdf_unit_judge.proofs.Faults.{told_by}
use Rattle.cdf_unit_list.specs.Stack.{Closing, incomplete, left, close, Step, done, refused, found, entered, with_state, step_in_by, step_by}
use Rattle.cdf_unit_list.specs.declared.Open.{Open}
use Rattle.cdf_reader_spec.specs.Place.{ReaderPlace}
use Rattle.cdf_reader_spec.specs.Closing.{closes, unclosed}
use Rattle.cdf_reader_spec.specs.Ranking.{innermost_at, rank_after, next_rank}
use Rattle.cdf_reader_spec.specs.Calls.{refuse, stepped}
use Rattle.cdf_reader_advance.specs.Advancing.{is_inside, has_bytes, rank_on, has_room, advanced_by}
use Rattle.cdf_reader_advance.specs.Claims.{next_step, NoPart, NoRoom, Unstepped, Claims}
use Rattle.cdf_reader_advance.proofs.Stepped.{advanced_is}

-- One of two tests fails.
one_fails : (a b : Bool) → (a && b) ≡ false → (a ≡ false) ⊎ (b ≡ false)
one_fails true b e = inr e
one_fails false b e = inl refl

fails_first : (a b : Bool) → a ≡ false → (a && b) ≡ false
fails_first a b e = rw e

fails_second : (a b : Bool) → b ≡ false → (a && b) ≡ false
fails_second true b e = e
fails_second false b e = refl

both_fail : (a b : Bool) → (a || b) ≡ false → (a ≡ false) × (b ≡ false)
both_fail true b e = absurd (false≢true (sym e))
both_fail false b e = (refl, e)

-- The tests of the definition fail exactly there.
part_fails : (n pos : ℕ) (os : List Open) → has_bytes n pos os ≡ false → NoPart n pos os
unfolding has_bytes
part_fails n pos [] e = absurd (false≢true (sym e))
part_fails n pos (o ∷ os) e =
    let w = both_fail (eqb o.end pos) (is_inside n pos o) e in
    (eqb-false o.end pos w.0, go (one_fails (ltb o.start pos) _ w.1))
  where
    go : (ltb o.start pos ≡ false) ⊎ ((ltb pos o.end && leb o.end n) ≡ false) →
        (pos ≤ o.start) ⊎ ((o.end ≤ pos) ⊎ (n < o.end))
    go (inl a) = inl (ltb-false o.start pos a)
    go (inr b) =
        inr (⊎_elim (λ c. inl (ltb-false pos o.end c)) (λ c. inr (leb-false o.end n c)) (one_fails (ltb pos o.end) _ b))

no_part : (n pos : ℕ) (os : List Open) → NoPart n pos os → has_bytes n pos os ≡ false
unfolding has_bytes
no_part n pos [] w = absurd w
no_part n pos (o ∷ os) w = rw (ne_eqb o.end pos w.0) (go w.1)
  where
    go : (pos ≤ o.start) ⊎ ((o.end ≤ pos) ⊎ (n < o.end)) → is_inside n pos o ≡ false
    go (inl a) = fails_first (ltb o.start pos) _ (le-ltb o.start pos a)
    go (inr (inl b)) = fails_second (ltb o.start pos) _ (fails_first (ltb pos o.end) _ (le-ltb pos o.end b))
    go (inr (inr c)) = fails_second (ltb o.start pos) _ (fails_second (ltb pos o.end) _ (lt-leb o.end n c))

room_fails : (p : ReaderPlace) (x : Step) → has_room p x ≡ false → NoRoom p x
unfolding has_room
room_fails p done e = absurd (false≢true (sym e))
room_fails p (refused n at) e = absurd (false≢true (sym e))
room_fails p (found u os pos) e =
    ⊎_elim (λ a. inl (leb-false (length os) 4 a)) (λ b. inr (leb-false (rank_on p) p.position b)) (one_fails (leb (length os) 4) _ e)

no_room : (p : ReaderPlace) (x : Step) → NoRoom p x → has_room p x ≡ false
unfolding has_room
no_room p done w = absurd w
no_room p (refused n at) w = absurd w
no_room p (found u os pos) (inl a) = fails_first (leb (length os) 4) _ (lt-leb (length os) 4 a)
no_room p (found u os pos) (inr b) = fails_second (leb (length os) 4) _ (lt-leb (rank_on p) p.position b)

module _ (w : NameBytes) (l : Layout) (s : List ℕ) (p : ReaderPlace) where
  abbrev Left : List Open
  Left = unclosed p.units p.position

  abbrev bytes : Bool
  bytes = has_bytes (length s) p.position Left

  abbrev room : Bool
  room = has_room p (next_step w l s p)

  failed : (bytes && room) ≡ false → Unstepped w l s p
  failed e = go (one_fails bytes room e)
    where
      go : (bytes ≡ false) ⊎ (room ≡ false) → Unstepped w l s p
      go (inl a) = inl (part_fails (length s) p.position Left a)
      go (inr b) = inr (room_fails p (next_step w l s p) b)

  fail : Unstepped w l s p → (bytes && room) ≡ false
  fail (inl a) = fails_first bytes room (no_part (length s) p.position Left a)
  fail (inr b) = fails_second bytes room (no_room p (next_step w l s p) b)

  unstepped : Unstepped w l s p → advanced_by w l s p ≡ refuse 99 0 p
  unstepped why = advanced_is w l s p ∙ rw (fail why)

  steps : (Unstepped w l s p → ⊥) → advanced_by w l s p ≡ stepped p (next_step w l s p)
  steps may = go (bytes && room) refl
    where
      go : (b : Bool) → (bytes && room) ≡ b → advanced_by w l s p ≡ stepped p (next_step w l s p)
      go true e = advanced_is w l s p ∙ rw e
      go false e = absurd (may (failed e))

  -- The judge's numbers go up to 9.
  entered_told : (around : ℕ → List Open) (state : ℕ) (t : List ℕ) →
      (stepped p (entered p.position around (judge_in w l false state t))).number ≤ 10
  unfolding entered stepped
  entered_told around state t = go (judge_in w l false state t) refl
    where
      go : (j : Judged) → judge_in w l false state t ≡ j → (stepped p (entered p.position around j)).number ≤ 10
      go (Fault n k) e = omega (arith, (told_by l false t w state e).high)
      go (Found id action own len next) e = omega arith

  closed_told : (c : Closing) → (stepped p (step_in_by w l s p.position c)).number ≤ 10
  unfolding step_in_by stepped
  closed_told (incomplete at) = omega arith
  closed_told (left []) = omega arith
  closed_told (left (o ∷ os)) = entered_told (λ state. with_state o state ∷ os) o.state (take (o.end - p.position) (drop p.position s))

  step_told : (stepped p (next_step w l s p)).number ≤ 10
  unfolding step_by
  step_told = closed_told (close p.units p.position)

-- Where a unit closes, the rank that is given does not matter.
after_is : (os : List Open) (ks : List ℕ) (pos given : ℕ) → (rank_after os ks pos 0 ≡ 0) ⊎ (rank_after os ks pos 0 ≡ rank_after os ks pos given)
unfolding rank_after
after_is [] ks pos given = inl refl
after_is (o ∷ os) [] pos given = inl refl
after_is (o ∷ os) (k ∷ ks) pos given = go (closes pos o)
  where
    go : (b : Bool) → (cond b (rank_after os ks pos (suc k)) 0 ≡ 0)
        ⊎ (cond b (rank_after os ks pos (suc k)) 0 ≡ cond b (rank_after os ks pos (suc k)) given)
    go true = inr refl
    go false = inl refl

ranked : (p : ReaderPlace) → (next_rank p ≡ 0) ⊎ (next_rank p ≡ rank_on p)
unfolding next_rank rank_on
ranked p = go (innermost_at p.units p.last.start)
  where
    go : (b : Bool) → (rank_after p.units p.ranks p.position (cond b 0 (suc p.last_rank)) ≡ 0)
        ⊎ (rank_after p.units p.ranks p.position (cond b 0 (suc p.last_rank))
        ≡ rank_after p.units p.ranks p.position (suc p.last_rank))
    go true = after_is p.units p.ranks p.position (suc p.last_rank)
    go false = inr refl

pub proved : Claims
proved = record { unstepped = unstepped; steps = steps; told = step_told; ranked = ranked }
