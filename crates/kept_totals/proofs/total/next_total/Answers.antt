use Rattle.std.proofs.Common.{rules}
use Rattle.checked_sum.proofs.StepLaws.{skip_factor, skip_number}
use Rattle.kept_totals.proofs.total.next_total.Goals as goal

pub returns-then-is_zero : goal.returns-then-is_zero
returns-then-is_zero c = skip_factor c.args.total.now c.args.factor.now c.args.number.now (search rules)

pub returns-then-is_zero-2 : goal.returns-then-is_zero-2
returns-then-is_zero-2 c = skip_number c.args.total.now c.args.factor.now c.args.number.now (search rules)
