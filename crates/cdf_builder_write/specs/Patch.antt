-- What a write leaves in a lent buffer (01, "Builder").
use Rattle.std.specs.Prelude.{ℕ, ◌+◌, cond, List, ◌++◌, length, take, drop, leb}

-- These bytes from a position on, where there is room for them; every other byte stays.
unfoldable pub patch : ℕ → List ℕ → List ℕ → List ℕ
patch at new s = cond (leb (at + length new) (length s)) (take at s ++ (new ++ drop (at + length new) s)) s
