-- By the edition: a length of two bytes, or of four.
use Rattle.std.proofs.Common.{ℕ, ◌≤◌, ◌≡◌, arith}
use Rattle.cdf_unit_prefix.specs.Layout.{layout_of, prefix_of, length_at}
use Rattle.cdf_unit_prefix.specs.declared.Edition.{Edition}
use Rattle.cdf_unit_prefix.specs.declared.Edition.TheVariants.{Second}
use Rattle.cdf_unit_prefix.proofs.length_at.Goals as goal

long : (e : Edition) (n : ℕ) → e ≡ Second → prefix_of (layout_of e) ≤ n → 8 ≤ n
long e n q h = rw q at h

pub bounds-s-4 : goal.bounds-s-4
bounds-s-4 c =
    omega (arith, long c.args.edition _ c.in-Second.is c.requires)

pub bounds-s-5 : goal.bounds-s-5
bounds-s-5 c =
    omega (arith, long c.args.edition _ c.in-Second.is c.requires)

pub returns-in-First : goal.returns-in-First
unfolding length_at
returns-in-First c = rw c.in-First.is (omega (arith, c.from_be_bytes.ensures))

pub returns-in-Second : goal.returns-in-Second
unfolding length_at
returns-in-Second c =
    rw c.in-Second.is (omega (arith, c.from_be_bytes-in-Second.ensures))
