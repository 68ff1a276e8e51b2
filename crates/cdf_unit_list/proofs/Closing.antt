-- Closing the units that end at a position: the stack answers as the listed units do.
use Rattle.std.proofs.Common.{◌≡◌, Bool, false, true, cond, ◌&&◌, List, [], ◌∷◌, map, ℕ, suc, ◌<◌, arith, lt-ltb, le-ltb, eq-eqb, ne_eqb, le-leb, leb}
use Rattle.std.proofs.Common.{ltb, eqb}
use Rattle.std.proofs.lemmas.Bool.{lt-leb}
use native.Mathlib.Decide.{dec_lt}
use Rattle.cdf_unit_table.specs.States.{opens, complete}
use Rattle.cdf_unit_list.specs.Units.{parents_that, open_at, closing_at, state_of, Next, whole, broken, closed}
use Rattle.cdf_unit_list.specs.Stack.{Closing, incomplete, left, close}
use Rattle.cdf_unit_list.specs.declared.Unit.{Unit}
use Rattle.cdf_unit_list.proofs.Nested.{reaching, Nested, narrow, still_reach, none_closes}
use Rattle.cdf_unit_list.proofs.StatesListed.{open_of}

-- Both stop at the same incomplete unit, or leave the units `os`, of the listed units `us`, open.
pub data Closes (us : List Unit) (pos : ℕ) (os : List Unit) : Next → Closing → Type 0 where
  stops : {at : ℕ} → Closes us pos os (broken 10 at) (incomplete at)
  leaves : Nested pos (suc pos) os → Closes us pos os whole (left (map (open_of us) os))

data Order (a b : ℕ) : Type 0 where
  less : a < b → Order a b
  same : a ≡ b → Order a b
  greater : b < a → Order a b

order : (a b : ℕ) → Order a b
order a b = go (dec_lt a b) (dec_lt b a)
  where
    go : Dec (a < b) → Dec (b < a) → Order a b
    go (yes p) d = less p
    go (no p) (yes q) = greater q
    go (no p) (no q) = same (omega arith)

module _ (all : List Unit) (pos : ℕ) where
  abbrev pub ClosingOf : List Unit → Type 0
  ClosingOf us = Closes all pos (open_at pos us) (closed all (closing_at pos us)) (close (map (open_of all) (reaching pos us)) pos)

  -- Of the listed units `all`, it is enough to look at those that are left.
  pub closes : (us : List Unit) → Nested pos pos (reaching pos us) → ClosingOf us
  unfolding parents_that open_at closing_at closed close
  closes [] h = leaves (record {})
  closes (u ∷ us) h = go (opens u.id) (order u.end pos) h (closes us)
    where
      ends : (b : Bool) → ClosingOf us →
          Closes all pos (open_at pos us) (cond b (closed all (closing_at pos us)) (broken 10 u.start))
          (cond b (close (map (open_of all) (reaching pos us)) pos) (incomplete u.start))
      ends true rest = rest
      ends false rest = stops

      go : (o : Bool) → Order u.end pos →
          Nested pos pos (cond (o && leb pos u.end) (u ∷ reaching pos us) (reaching pos us)) →
          (Nested pos pos (reaching pos us) → ClosingOf us) →
          Closes all pos (cond (o && ltb pos u.end) (u ∷ open_at pos us) (open_at pos us))
          (closed all (cond (o && eqb u.end pos) (u ∷ closing_at pos us) (closing_at pos us)))
          (close (map (open_of all) (cond (o && leb pos u.end) (u ∷ reaching pos us) (reaching pos us))) pos)
      go false x h rest = rest h
      go true (less p) h rest =
          let reach = lt-leb pos u.end p in
          rw (reach, le-ltb pos u.end (omega arith), ne_eqb u.end pos (λ e. omega arith)) (rest (rw reach at h))
      go true (same p) h rest =
          let reach = le-leb pos u.end (omega arith) in
          let g = rw reach at h in
          let around = narrow (reaching pos us) u.start u.end pos pos (omega arith) g.1 g.2 in
          rw (reach, le-ltb pos u.end (omega arith), eq-eqb u.end pos p) (ends (complete (state_of all u)) (rest around))
      go true (greater p) h rest =
          let reach = le-leb pos u.end (omega arith) in
          let g = rw reach at h in
          let far = narrow (reaching pos us) u.start u.end u.start (suc pos) (omega arith) p g.2 in
          rw (
            reach,
            lt-ltb pos u.end p,
            ne_eqb u.end pos (λ e. omega arith),
            none_closes pos us u.start far,
            still_reach pos (suc pos) (omega arith) us u.start far,
          )
          (leaves (g.0, p, g.2))
