-- Where the walk ends, its number is that of all units and of the end.
use Rattle.std.proofs.Common.{ℕ, ◌≡◌, List}
use Rattle.cdf_unit_prefix.specs.Layout.{Layout}
use Rattle.cdf_reader_spec.specs.Calls.{Reply}
use Rattle.cdf_reader_runs.proofs.Folding.{Going, over}
use Rattle.cdf_reader_walk.specs.Fold.{mix_of, mix_end, walk_of}

pub ended_walk : (l : Layout) (s : List ℕ) (a : Reply) (h : ℕ) → Going mix_of l s 0 a h → (a.number ≡ 0 → ⊥) →
    mix_end h a.number a.offset ≡ walk_of l s
unfolding walk_of
ended_walk l s a h g some = let w = over mix_of l s 0 a h g some in rw (w.all, w.number, w.offset)
