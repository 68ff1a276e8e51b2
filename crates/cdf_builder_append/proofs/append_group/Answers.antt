-- The group, and then the lengths.
use Rattle.std.proofs.Common.{◌∙◌}
use Rattle.cdf_builder_spec.specs.Calls.{write_of}
use Rattle.cdf_builder_append.proofs.append_group.Goals as goal

pub returns : goal.returns
unfolding write_of
returns c =
    c.rewrite.ensures ∙ rw c.write_bytes.ensures
