-- By the law of the ranges, with the tests on the way.
use Rattle.std.proofs.Common.{lt-ltb, le-ltb, le-leb}
use Rattle.std.proofs.lemmas.Bool.{lt-leb}
use Rattle.cdf_unit_table.proofs.Skipping.{skipped_by, skipped_is}
use Rattle.cdf_unit_table.proofs.skipped_state.Goals as goal

pub returns-then-state-lt-STREAM_NEW : goal.returns-then-state-lt-STREAM_NEW
unfolding skipped_by
returns-then-state-lt-STREAM_NEW c =
    rw (lt-ltb _ 1 c.if-state-lt-STREAM_NEW.true) at (skipped_is c.args.state)

pub returns-then-state-le-STREAM_SKIPPED : goal.returns-then-state-le-STREAM_SKIPPED
unfolding skipped_by
returns-then-state-le-STREAM_SKIPPED c =
    rw (
      le-ltb _ 1 c.if-state-lt-STREAM_NEW.false,
      le-leb _ _ c.if-state-le-STREAM_SKIPPED.true,
    ) at (skipped_is c.args.state)

pub returns-then-state-le-ER_SKIPPED : goal.returns-then-state-le-ER_SKIPPED
unfolding skipped_by
returns-then-state-le-ER_SKIPPED c =
    rw (
      le-ltb _ 1 c.if-state-lt-STREAM_NEW.false,
      lt-leb _ _ c.if-state-le-STREAM_SKIPPED.false,
      le-leb _ _ c.if-state-le-ER_SKIPPED.true,
    ) at (skipped_is c.args.state)

pub returns-then-state-le-FILE_SKIPPED : goal.returns-then-state-le-FILE_SKIPPED
unfolding skipped_by
returns-then-state-le-FILE_SKIPPED c =
    rw (
      le-ltb _ 1 c.if-state-lt-STREAM_NEW.false,
      lt-leb _ _ c.if-state-le-STREAM_SKIPPED.false,
      lt-leb _ _ c.if-state-le-ER_SKIPPED.false,
      le-leb _ _ c.if-state-le-FILE_SKIPPED.true,
    ) at (skipped_is c.args.state)

pub returns-then-state-le-CALL_SKIPPED : goal.returns-then-state-le-CALL_SKIPPED
unfolding skipped_by
returns-then-state-le-CALL_SKIPPED c =
    rw (
      le-ltb _ 1 c.if-state-lt-STREAM_NEW.false,
      lt-leb _ _ c.if-state-le-STREAM_SKIPPED.false,
      lt-leb _ _ c.if-state-le-ER_SKIPPED.false,
      lt-leb _ _ c.if-state-le-FILE_SKIPPED.false,
      le-leb _ _ c.if-state-le-CALL_SKIPPED.true,
    ) at (skipped_is c.args.state)

pub returns-then-state-le-TEMPLATE_SKIPPED : goal.returns-then-state-le-TEMPLATE_SKIPPED
unfolding skipped_by
returns-then-state-le-TEMPLATE_SKIPPED c =
    rw (
      le-ltb _ 1 c.if-state-lt-STREAM_NEW.false,
      lt-leb _ _ c.if-state-le-STREAM_SKIPPED.false,
      lt-leb _ _ c.if-state-le-ER_SKIPPED.false,
      lt-leb _ _ c.if-state-le-FILE_SKIPPED.false,
      lt-leb _ _ c.if-state-le-CALL_SKIPPED.false,
      le-leb _ _ c.if-state-le-TEMPLATE_SKIPPED.true,
    ) at (skipped_is c.args.state)

pub returns-then-state-le-RELATION_SKIPPED : goal.returns-then-state-le-RELATION_SKIPPED
unfolding skipped_by
returns-then-state-le-RELATION_SKIPPED c =
    rw (
      le-ltb _ 1 c.if-state-lt-STREAM_NEW.false,
      lt-leb _ _ c.if-state-le-STREAM_SKIPPED.false,
      lt-leb _ _ c.if-state-le-ER_SKIPPED.false,
      lt-leb _ _ c.if-state-le-FILE_SKIPPED.false,
      lt-leb _ _ c.if-state-le-CALL_SKIPPED.false,
      lt-leb _ _ c.if-state-le-TEMPLATE_SKIPPED.false,
      le-leb _ _ c.if-state-le-RELATION_SKIPPED.true,
    ) at (skipped_is c.args.state)

pub returns-then-state-le-ORDERED_SKIPPED : goal.returns-then-state-le-ORDERED_SKIPPED
unfolding skipped_by
returns-then-state-le-ORDERED_SKIPPED c =
    rw (
      le-ltb _ 1 c.if-state-lt-STREAM_NEW.false,
      lt-leb _ _ c.if-state-le-STREAM_SKIPPED.false,
      lt-leb _ _ c.if-state-le-ER_SKIPPED.false,
      lt-leb _ _ c.if-state-le-FILE_SKIPPED.false,
      lt-leb _ _ c.if-state-le-CALL_SKIPPED.false,
      lt-leb _ _ c.if-state-le-TEMPLATE_SKIPPED.false,
      lt-leb _ _ c.if-state-le-RELATION_SKIPPED.false,
      le-leb _ _ c.if-state-le-ORDERED_SKIPPED.true,
    ) at (skipped_is c.args.state)

pub returns-then-state-le-ENTITY_SKIPPED : goal.returns-then-state-le-ENTITY_SKIPPED
unfolding skipped_by
returns-then-state-le-ENTITY_SKIPPED c =
    rw (
      le-ltb _ 1 c.if-state-lt-STREAM_NEW.false,
      lt-leb _ _ c.if-state-le-STREAM_SKIPPED.false,
      lt-leb _ _ c.if-state-le-ER_SKIPPED.false,
      lt-leb _ _ c.if-state-le-FILE_SKIPPED.false,
      lt-leb _ _ c.if-state-le-CALL_SKIPPED.false,
      lt-leb _ _ c.if-state-le-TEMPLATE_SKIPPED.false,
      lt-leb _ _ c.if-state-le-RELATION_SKIPPED.false,
      lt-leb _ _ c.if-state-le-ORDERED_SKIPPED.false,
      le-leb _ _ c.if-state-le-ENTITY_SKIPPED.true,
    ) at (skipped_is c.args.state)

pub returns : goal.returns
unfolding skipped_by
returns c =
    rw (
      le-ltb _ 1 c.if-state-lt-STREAM_NEW.false,
      lt-leb _ _ c.if-state-le-STREAM_SKIPPED.false,
      lt-leb _ _ c.if-state-le-ER_SKIPPED.false,
      lt-leb _ _ c.if-state-le-FILE_SKIPPED.false,
      lt-leb _ _ c.if-state-le-CALL_SKIPPED.false,
      lt-leb _ _ c.if-state-le-TEMPLATE_SKIPPED.false,
      lt-leb _ _ c.if-state-le-RELATION_SKIPPED.false,
      lt-leb _ _ c.if-state-le-ORDERED_SKIPPED.false,
      lt-leb _ _ c.if-state-le-ENTITY_SKIPPED.false,
    ) at (skipped_is c.args.state)
