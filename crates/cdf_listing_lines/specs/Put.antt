-- What the functions named put_.. do, and what the private ones ask.
use Rattle.std.specs.Prelude.{ℕ, ◌+◌, ◌^◌, ◌<◌, ◌≡◌, List, length}
use Rattle.std.proofs.lemmas.List.Edits.{sets}

-- The place behind these bytes, put at a place, is a number that the code can hold.
pub record Room (at : ℕ) (bytes : List ℕ) : Type 0 where
  pub held : at + length bytes < 2 ^ 64

-- The bytes were put at a place, as far as the buffer goes, and the place behind them was answered.
pub record Put (before : List ℕ) (at : ℕ) (bytes after : List ℕ) (behind : ℕ) : Type 0 where
  pub is : after ≡ sets before at bytes
  pub next : behind ≡ at + length bytes
