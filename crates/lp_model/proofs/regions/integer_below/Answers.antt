use Rattle.std.proofs.Common.{sym}
use Rattle.frac128.proofs.Rounding.{int-floor}
use Rattle.lp_model.proofs.regions.integer_below.Goals as goal

pub returns-then-is_whole : goal.returns-then-is_whole
returns-then-is_whole c = sym (int-floor c.args.number.now (c.is_whole.ensures.0 c.if-is_whole.true))
