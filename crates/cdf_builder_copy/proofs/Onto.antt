-- What a copy leaves, by whether there is room.
use Rattle.std.proofs.Common.{ℕ, ◌+◌, ◌-◌, ◌≤◌, ◌<◌, ◌≡◌, List, ◌++◌, le-leb, length, take, drop}
use Rattle.std.proofs.lemmas.Bool.{lt-leb}
use Rattle.cdf_builder_copy.specs.Onto.{onto}
use Rattle.cdf_builder_copy.proofs.Lent.{enough}

pub onto_some : (new s : List ℕ) → length new ≤ length s → onto new s ≡ new ++ drop (length new) s
unfolding onto
onto_some new s h = rw (le-leb (length new) (length s) h)

pub onto_none : (new s : List ℕ) → length s < length new → onto new s ≡ s
unfolding onto
onto_none new s h = rw (lt-leb (length new) (length s) h)

-- onto a tail that is lent from a position on
pub onto_lent : (at : ℕ) (new s : List ℕ) → at + length new ≤ length s →
    let tail = take (length s - at) (drop at s) in
    onto new tail ≡ new ++ drop (length new) tail
onto_lent at new s h = onto_some new (take (length s - at) (drop at s)) (enough at (length new) s h)
