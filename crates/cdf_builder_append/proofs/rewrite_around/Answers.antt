-- By how many units are open (proofs/Lengths). `wrote1` to `wrote3` are the places after each length.
use Rattle.cdf_builder_append.proofs.Lengths.{none, two, three, four}
use Rattle.cdf_builder_append.proofs.rewrite_around.Goals as goal

pub returns-then-p-lt2 : goal.returns-then-p-lt2
returns-then-p-lt2 c = none _ _ _ c.if-p-lt2.true

pub returns-then-p-lt3 : goal.returns-then-p-lt3
returns-then-p-lt3 c =
    two _ _ _ c.write_open.ensures c.if-p-lt2.false c.if-p-lt3.true

pub returns-then-p-lt4 : goal.returns-then-p-lt4
returns-then-p-lt4 c =
    three _ _ _ c.write_open.ensures c.write_open-2.ensures c.if-p-lt3.false c.if-p-lt4.true

pub returns : goal.returns
returns c =
    four _ _ _ c.write_open.ensures c.write_open-2.ensures c.if-p-lt4.false c.write_open-3.ensures
