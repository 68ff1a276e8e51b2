-- What a copy leaves in a lent tail.
use Rattle.std.specs.Prelude.{ℕ, cond, List, ◌++◌, length, drop, leb}

-- These bytes over the first ones, where there are as many; every other byte stays.
unfoldable pub onto : List ℕ → List ℕ → List ℕ
onto new s = cond (leb (length new) (length s)) (new ++ drop (length new) s) s
