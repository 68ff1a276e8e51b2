-- The tests of the definition in its order.
use Rattle.cdf_unit_prefix.specs.Rules.{head_of}
use Rattle.std.proofs.Common.{lt-ltb, le-ltb}
use Rattle.cdf_unit_prefix.proofs.head.Goals as goal

pub returns-then-s-p : goal.returns-then-s-p
unfolding head_of
returns-then-s-p c =
    rw (
      ← c.prefix-p.ensures.is,
      lt-ltb _ _ c.if-s-p.true,
    )

pub returns-then-not-is_mark : goal.returns-then-not-is_mark
unfolding head_of
returns-then-not-is_mark c =
    rw (
      ← c.prefix-p.ensures.is,
      le-ltb _ _ c.if-s-p.false,
      ← c.is_mark.ensures,
      c.if-not-is_mark.true-raw,
    )

pub returns-then-length-p : goal.returns-then-length-p
unfolding head_of
returns-then-length-p c =
    rw (
      ← c.prefix-p.ensures.is,
      le-ltb _ _ c.if-s-p.false,
      ← c.is_mark.ensures,
      c.if-not-is_mark.false-raw,
      ← c.length_at-length.ensures,
      lt-ltb _ _ c.if-length-p.true,
    )

pub returns-then-not-length_fits : goal.returns-then-not-length_fits
unfolding head_of
returns-then-not-length_fits c =
    rw (
      ← c.prefix-p.ensures.is,
      le-ltb _ _ c.if-s-p.false,
      ← c.is_mark.ensures,
      c.if-not-is_mark.false-raw,
      ← c.length_at-length.ensures,
      le-ltb _ _ c.if-length-p.false,
      ← c.length_fits.ensures,
      c.if-not-length_fits.true-raw,
    )

pub returns-then-not-is_known : goal.returns-then-not-is_known
unfolding head_of
returns-then-not-is_known c =
    rw (
      ← c.prefix-p.ensures.is,
      le-ltb _ _ c.if-s-p.false,
      ← c.is_mark.ensures,
      c.if-not-is_mark.false-raw,
      ← c.length_at-length.ensures,
      le-ltb _ _ c.if-length-p.false,
      ← c.length_fits.ensures,
      c.if-not-length_fits.false-raw,
      ← c.is_known.ensures,
      c.if-not-is_known.true-raw,
    )

pub returns : goal.returns
unfolding head_of
returns c =
    rw (
      ← c.prefix-p.ensures.is,
      le-ltb _ _ c.if-s-p.false,
      ← c.is_mark.ensures,
      c.if-not-is_mark.false-raw,
      ← c.length_at-length.ensures,
      le-ltb _ _ c.if-length-p.false,
      ← c.length_fits.ensures,
      c.if-not-length_fits.false-raw,
      ← c.is_known.ensures,
      c.if-not-is_known.false-raw,
    )
