use Rattle.std.proofs.Common.{◌∙◌}
use Rattle.basic_solution.proofs.SideLemmas.{sign_low, sign_high, sign_free}
use Rattle.basic_solution.proofs.sides.signed.Goals as goal

pub returns-in-Low : goal.returns-in-Low
returns-in-Low c = sign_low c.args.stand c.args.number.now c.in-Low.is

pub returns-in-High : goal.returns-in-High
returns-in-High c = c.neg.ensures ∙ sign_high c.args.stand c.args.number.now c.in-High.is

pub returns-in-Free : goal.returns-in-Free
returns-in-Free c = c.whole.ensures ∙ sign_free c.args.stand c.args.number.now c.in-Free.is
