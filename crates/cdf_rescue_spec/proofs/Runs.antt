-- The runs of pieces that stand one behind the other: the dropped bytes, neighbours joined.
use Rattle.std.proofs.Common.{ℕ, suc, ◌≤◌, ◌<◌, ◌≡◌, refl, Bool, true, false, cond, List, [], ◌∷◌, ◌⊎◌, inl, inr, ◌↔◌, arith, eqb-true, eqb}
use Rattle.std.proofs.lemmas.Bool.{eqb-false}
use mathlib.Core.Logic.Iff
use native.Mathlib.Decide.{dec_lt}
use Rattle.cdf_rescue_spec.specs.Salvage.{Piece, kept, dropped, join_run, runs_of}
use Rattle.cdf_rescue_spec.specs.declared.Run.{Run}
use Rattle.cdf_rescue_spec.specs.Kept.{Tiles, Apart, InRuns, IsDropped}

-- Runs that are apart, none before this byte.
abbrev From : ℕ → List Run → Type 0
From a [] = record {}
From a (r ∷ rs) = (a ≤ r.from) × Apart (r ∷ rs)

from_apart : (a : ℕ) (rs : List Run) → From a rs → Apart rs
from_apart a [] h = record {}
from_apart a (r ∷ rs) h = h.1

from_lower : (a b : ℕ) (rs : List Run) → b ≤ a → From a rs → From b rs
from_lower a b [] low h = record {}
from_lower a b (r ∷ rs) low h = (omega (arith, h.0), h.1)

-- The first is not empty.
first_some : (r : Run) (rs : List Run) → Apart (r ∷ rs) → r.from < r.to
first_some r [] h = h
first_some r (q ∷ rs) h = h.0

abbrev byte : ℕ → Run
byte a = record { from = a; to = suc a }

-- A dropped byte in front of runs behind it.
join_apart : (a : ℕ) (rs : List Run) → From (suc a) rs → From a (join_run (byte a) rs)
unfolding join_run
join_apart a [] h = (omega arith, omega arith)
join_apart a (r ∷ rs) h = go (eqb (suc a) r.from) refl rs h
  where
    go : (b : Bool) → eqb (suc a) r.from ≡ b → (rs : List Run) → From (suc a) (r ∷ rs) →
        From a (cond b (record { from = a; to = r.to } ∷ rs) (byte a ∷ r ∷ rs))
    go false e rs h = (omega arith, (omega arith, omega (arith, eqb-false (suc a) r.from e), h.1))
    go true e [] h = (omega arith, omega arith)
    go true e (q ∷ rs) h = (omega arith, (omega arith, h.1.1, h.1.2))

runs_from : (a b : ℕ) (ps : List Piece) → Tiles a b ps → From a (runs_of ps)
unfolding runs_of
runs_from a b [] t = record {}
runs_from a b (kept from to ∷ ps) t = from_lower to a (runs_of ps) (omega (arith, t.1)) (runs_from to b ps t.2)
runs_from a b (dropped at ∷ ps) t = rw t.0 (join_apart a (runs_of ps) (runs_from (suc a) b ps t.1))

pub runs_apart : (a b : ℕ) (ps : List Piece) → Tiles a b ps → Apart (runs_of ps)
runs_apart a b ps t = from_apart a (runs_of ps) (runs_from a b ps t)

in_byte : {X : Type 0} (i a : ℕ) → (((a ≤ i) × (i < suc a)) ⊎ X) ↔ ((i ≡ a) ⊎ X)
in_byte i a = (elim [ inl x ↦ inl (omega arith) | inr x ↦ inr x ], elim [ inl x ↦ inl (omega arith) | inr x ↦ inr x ])

-- A byte stands in the runs of a dropped one and others if it is that one or stands in the others.
join_in : (i a : ℕ) (rs : List Run) → Apart rs → InRuns i (join_run (byte a) rs) ↔ ((i ≡ a) ⊎ InRuns i rs)
unfolding join_run
join_in i a [] h = in_byte i a
join_in i a (r ∷ rs) h = go (eqb (suc a) r.from) refl
  where
    go : (b : Bool) → eqb (suc a) r.from ≡ b →
        InRuns i (cond b (record { from = a; to = r.to } ∷ rs) (byte a ∷ r ∷ rs)) ↔ ((i ≡ a) ⊎ InRuns i (r ∷ rs))
    go false e = in_byte i a
    go true e =
        let next = eqb-true (suc a) r.from e in
        let some = first_some r rs h in (
          elim [ inl x ↦ split x (dec_lt a i) | inr x ↦ inr (inr x) ],
          elim [ inl x ↦ inl (omega arith) | inr y ↦ elim y [ inl x ↦ inl (omega arith) | inr x ↦ inr x ] ],
        )
      where
        split : (a ≤ i) × (i < r.to) → Dec (a < i) → (i ≡ a) ⊎ InRuns i (r ∷ rs)
        split x (yes p) = inr (inl (omega (arith, eqb-true (suc a) r.from e)))
        split x (no p) = inl (omega arith)

pub runs_dropped : (a b : ℕ) (ps : List Piece) → Tiles a b ps → (i : ℕ) → InRuns i (runs_of ps) ↔ IsDropped i ps
unfolding runs_of
runs_dropped a b [] t i = Iff.rfl
runs_dropped a b (kept from to ∷ ps) t i = runs_dropped to b ps t.2 i
runs_dropped a b (dropped at ∷ ps) t i =
    let more = runs_dropped (suc a) b ps t.1 i in
    Iff.trans (join_in i at (runs_of ps) (runs_apart (suc a) b ps t.1))
    (elim [ inl x ↦ inl x | inr x ↦ inr (more.0 x) ], elim [ inl x ↦ inl x | inr x ↦ inr (more.1 x) ])
