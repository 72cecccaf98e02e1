use Rattle.std.proofs.Common.{arith}
use Rattle.ray_phase.proofs.lawful.is_model_high.Goals as goal

pub is_sided-requires : goal.is_sided-requires
is_sided-requires c = omega (arith, c.requires.count, c.requires.variable)
