-- The next unit's rank at a place that fits: one step further than those that may stand at the position.
use Rattle.std.proofs.Common.{ℕ, suc, ◌+◌, ◌*◌, ◌≤◌, List, [], ◌∷◌, arith, suc-mul, leb-true, leb}
use Rattle.cdf_unit_table.proofs.Bools.{both, of_cond}
use Rattle.cdf_unit_prefix.specs.Layout.{Layout, prefix_of}
use Rattle.cdf_unit_list.specs.declared.Open.{Open}
use Rattle.cdf_reader_spec.specs.Place.{ReaderPlace, every}
use Rattle.cdf_reader_spec.specs.Closing.{closes}
use Rattle.cdf_reader_spec.specs.Ranking.{innermost_at, rank_after, next_rank}
use Rattle.cdf_reader_spec.proofs.Fitting.{Low, Fitting}

module _ (l : Layout) (pos : ℕ) where
  -- A prefix further it may stand.
  abbrev Next : ℕ → Type 0
  Next k = k * prefix_of l ≤ pos + prefix_of l

  one_more : (k : ℕ) → k * prefix_of l ≤ pos → Next (suc k)
  one_more k h = simp suc-mul (omega arith)

  after_next : (os : List Open) (ks : List ℕ) (rank : ℕ) → Low l pos ks → Next rank → Next (rank_after os ks pos rank)
  unfolding rank_after every
  after_next [] ks rank low h = h
  after_next (o ∷ os) [] rank low h = h
  after_next (o ∷ os) (k ∷ ks) rank low h =
      let w = both (leb (k * prefix_of l) pos) _ low in
      of_cond Next (closes pos o) (rank_after os ks pos (suc k)) rank
      (λ e. after_next os ks (suc k) w.1 (one_more k (leb-true (k * prefix_of l) pos w.0)))
      (λ e. h)

-- So with one above the rank before.
pub on_stands : (l : Layout) (pos : ℕ) (os : List Open) (ks : List ℕ) (rank : ℕ) → Low l pos ks → rank * prefix_of l ≤ pos →
    rank_after os ks pos (suc rank) * prefix_of l ≤ pos + prefix_of l
on_stands l pos os ks rank low h = after_next l pos os ks (suc rank) low (one_more l pos rank h)

pub next_stands : (l : Layout) (n : ℕ) (p : ReaderPlace) → Fitting l n p → next_rank p * prefix_of l ≤ p.position + prefix_of l
unfolding next_rank
next_stands l n p f =
    after_next l p.position p.units p.ranks _ f.ranks
    (of_cond (Next l p.position) (innermost_at p.units p.last.start) 0 (suc p.last_rank) (λ e. omega arith)
    (λ e. one_more l p.position p.last_rank f.last_rank))
