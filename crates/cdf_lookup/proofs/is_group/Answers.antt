-- By what the start hands out.
use Rattle.cdf_lookup.proofs.is_group.Goals as goal

pub returns : goal.returns
returns c = c.is_group.ensures.listed _ c.args.s.now c.first.ensures
