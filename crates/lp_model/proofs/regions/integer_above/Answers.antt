use Rattle.std.proofs.Common.{sym}
use Rattle.lp_model.proofs.EmptyRegionLemmas.{int-ceil}
use Rattle.lp_model.proofs.regions.integer_above.Goals as goal

pub returns-then-is_whole : goal.returns-then-is_whole
returns-then-is_whole c = sym (int-ceil c.args.number.now (c.is_whole.ensures.0 c.if-is_whole.true))
