use Rattle.std.proofs.Common.{rules}
use Rattle.checked_sum.proofs.StepLaws.{skip_factor}
use Rattle.checked_sum.proofs.sum.add_product.Goals as goal

pub returns-then-is_zero : goal.returns-then-is_zero
returns-then-is_zero c = skip_factor c.args.total.now c.args.factor.now c.args.number.now (search rules)
