-- The version of what crosses to C.
use Rattle.std.specs.Prelude.{ℕ}

-- It counts up whenever a number of the headers gets another meaning: of a place, an answer, a state or a refusal.
unfoldable pub version : ℕ
version = 2
