-- The units that are open where the next one would stand, of the listed units and of the stack that follows them.
use Rattle.std.proofs.Common.{ℕ, suc, ◌<◌, ◌≡◌, refl, ap, ◌∙◌, Bool, true, false, cond, ◌&&◌, List, [], ◌∷◌, ◌++◌, map, append_assoc, arith, eq-eqb}
use Rattle.std.proofs.Common.{ne_eqb, eqb-true, ltb-true, ltb-false, le-leb, eqb, ltb, leb}
use Rattle.std.proofs.lemmas.Bool.{eqb-false, lt-leb}
use Rattle.cdf_unit_table.specs.States.{opens, complete}
use Rattle.cdf_unit_table.proofs.Bools.{both}
use Rattle.cdf_unit_list.specs.Units.{after, parents_that, open_at, closing_at, state_of}
use Rattle.cdf_unit_list.specs.declared.Unit.{Unit}
use Rattle.cdf_unit_list.proofs.Nested.{reaching, Nested, narrow, still_reach, none_closes}
use Rattle.cdf_unit_list.proofs.StatesListed.{open_of}
use Rattle.cdf_reader_spec.specs.Closing.{unclosed}
use Rattle.cdf_explain_spec.specs.Why.{kept_open, open_around}
use Rattle.cdf_explain_spec.specs.Claims.{Each}

-- What passes a test has what the test tells, and admits others.
pub each_parent : (f : Unit → Bool) (P : Unit → Type 0) → ((u : Unit) → opens u.id ≡ true → f u ≡ true → P u) → (us : List Unit) →
    Each P (parents_that f us)
unfolding parents_that
each_parent f P has [] = record {}
each_parent f P has (u ∷ us) = go (opens u.id && f u) refl (each_parent f P has us)
  where
    go : (b : Bool) → (opens u.id && f u) ≡ b → Each P (parents_that f us) → Each P (cond b (u ∷ parents_that f us) (parents_that f us))
    go true e more = let w = both (opens u.id) (f u) e in (has u w.0 w.1, more)
    go false e more = more

module _ (pos : ℕ) where
  -- Those that reach a position end there, the inner ones, or later.
  pub parts : (us : List Unit) → Nested pos pos (reaching pos us) → reaching pos us ≡ closing_at pos us ++ open_at pos us
  unfolding parents_that closing_at open_at
  parts [] h = refl
  parts (u ∷ us) h = go (opens u.id) (ltb pos u.end) refl (eqb u.end pos) refl h (parts us)
    where
      go : (o a : Bool) → ltb pos u.end ≡ a → (b : Bool) → eqb u.end pos ≡ b →
          Nested pos pos (cond (o && leb pos u.end) (u ∷ reaching pos us) (reaching pos us)) →
          (Nested pos pos (reaching pos us) → reaching pos us ≡ closing_at pos us ++ open_at pos us) →
          cond (o && leb pos u.end) (u ∷ reaching pos us) (reaching pos us)
          ≡ cond (o && b) (u ∷ closing_at pos us) (closing_at pos us) ++ cond (o && a) (u ∷ open_at pos us) (open_at pos us)
      go false a x b y h rest = rest h
      go true true x true y h rest = absurd (omega (arith, ltb-true pos u.end x, eqb-true u.end pos y))
      go true true x false y h rest =
          let p = ltb-true pos u.end x in
          let reach = le-leb pos u.end (omega arith) in
          let g = rw reach at h in
          let far = narrow (reaching pos us) u.start u.end u.start (suc pos) (omega arith) p g.2 in
          rw (reach, none_closes pos us u.start far, ← still_reach pos (suc pos) (omega arith) us u.start far)
      go true false x true y h rest =
          let p = eqb-true u.end pos y in
          let reach = le-leb pos u.end (omega arith) in
          let g = rw reach at h in
          rw reach (ap (λ ws. u ∷ ws) (rest (narrow (reaching pos us) u.start u.end pos pos (omega arith) g.1 g.2)))
      go true false x false y h rest =
          let reach = lt-leb pos u.end (omega (arith, ltb-false pos u.end x, eqb-false u.end pos y)) in
          rw reach (rest (rw reach at h))

  -- So what closing leaves of the stack are the units that the list leaves open.
  stay_later : (us ws : List Unit) → Each (λ w. pos < w.end) ws → unclosed (map (open_of us) ws) pos ≡ map (open_of us) ws
  unfolding unclosed
  stay_later us [] h = refl
  stay_later us (w ∷ ws) h = rw (ne_eqb w.end pos (λ e. omega (arith, h.0)))

  close_kept : (us cs ws : List Unit) → Each (λ w. w.end ≡ pos) cs → Each (λ w. pos < w.end) ws →
      unclosed (map (open_of us) (cs ++ ws)) pos ≡ map (open_of us) (kept_open us cs ++ ws)
  unfolding unclosed kept_open
  close_kept us [] ws e h = stay_later us ws h
  close_kept us (c ∷ cs) ws e h = rw (eq-eqb c.end pos e.0) (go (complete (state_of us c)) (close_kept us cs ws e.1 h))
    where
      go : (b : Bool) → unclosed (map (open_of us) (cs ++ ws)) pos ≡ map (open_of us) (kept_open us cs ++ ws) →
          cond b (unclosed (map (open_of us) (cs ++ ws)) pos) (open_of us c ∷ map (open_of us) (cs ++ ws))
          ≡ map (open_of us) (cond b (kept_open us cs) (c ∷ cs) ++ ws)
      go true more = more
      go false more = refl

pub around_is : (u : Unit) (us : List Unit) → Nested (after u) (after u) (reaching (after u) (u ∷ us)) →
    unclosed (map (open_of (u ∷ us)) (reaching (after u) (u ∷ us))) (after u) ≡ map (open_of (u ∷ us)) (open_around (u ∷ us))
unfolding open_around closing_at open_at
around_is u us h =
    rw (parts (after u) (u ∷ us) h)
    (close_kept (after u) (u ∷ us) (closing_at (after u) (u ∷ us)) (open_at (after u) (u ∷ us))
    (each_parent (λ v. eqb v.end (after u)) (λ w. w.end ≡ after u) (λ v o e. eqb-true v.end (after u) e) (u ∷ us))
    (each_parent (λ v. ltb (after u) v.end) (λ w. after u < w.end) (λ v o e. ltb-true (after u) v.end e) (u ∷ us)))

-- They are the outer ones of those that reach the position.
kept_rest : (us cs : List Unit) → (front : List Unit) × (cs ≡ front ++ kept_open us cs)
unfolding kept_open
kept_rest us [] = ([], refl)
kept_rest us (c ∷ cs) = go (complete (state_of us c)) (kept_rest us cs)
  where
    go : (b : Bool) → (front : List Unit) × (cs ≡ front ++ kept_open us cs) →
        (front : List Unit) × (c ∷ cs ≡ front ++ cond b (kept_open us cs) (c ∷ cs))
    go true w = (c ∷ w.0, ap (λ ws. c ∷ ws) w.1)
    go false w = ([], refl)

pub around_rest : (u : Unit) (us : List Unit) → Nested (after u) (after u) (reaching (after u) (u ∷ us)) →
    (front : List Unit) × (reaching (after u) (u ∷ us) ≡ front ++ open_around (u ∷ us))
unfolding open_around
around_rest u us h =
    let w = kept_rest (u ∷ us) (closing_at (after u) (u ∷ us)) in
    let kept = kept_open (u ∷ us) (closing_at (after u) (u ∷ us)) in (
      w.0,
      parts (after u) (u ∷ us) h ∙ ap (λ cs. cs ++ open_at (after u) (u ∷ us)) w.1 ∙ append_assoc w.0 kept (open_at (after u) (u ∷ us)),
    )
