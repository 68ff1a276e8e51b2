-- What is left after so many bytes is compared, so that no sum is made.
use Rattle.std.proofs.Common.{◌≡◌, refl, sym, Bool, true, false, ℕ, ◌+◌, ◌-◌, ◌≤◌, arith, leb-true, leb-false, le-leb, leb}
use Rattle.std.proofs.lemmas.Bool.{lt-leb}
use Rattle.cdf_builder_write.proofs.has_room.Goals as goal

less : (at count n : ℕ) → count ≤ n → leb at (n - count) ≡ leb (at + count) n
less at count n h = go (leb at (n - count)) refl
  where
    go : (b : Bool) → leb at (n - count) ≡ b → b ≡ leb (at + count) n
    go true e = sym (le-leb (at + count) n (omega (arith, leb-true at (n - count) e)))
    go false e = sym (lt-leb (at + count) n (omega (arith, leb-false at (n - count) e)))

pub returns-then-n-count : goal.returns-then-n-count
returns-then-n-count c = let a = c.args in sym (lt-leb (a.at + a.count) a.n (omega arith))

pub returns : goal.returns
returns c = let a = c.args in less a.at a.count a.n c.if-n-count.false
