use Rattle.std.proofs.Common.{length, ap, arith}
use Rattle.lp_model.proofs.ModelLaws.{few_columns}
use Rattle.shell_replies.proofs.PlacingLemmas.{all-placed_costs}
use Rattle.shell_replies.proofs.placing.placed_costs.Goals as goal

pub placed-requires : goal.placed-requires
placed-requires c = let few = few_columns c.args.model.now c.cols.ensures.lawful in let same = ap length c.cols.ensures.items in omega arith

pub returns : goal.returns
returns c = all-placed_costs c.args.model.now c.cols.result.now c.args.named.now c.in-Ok.costs c.cols.ensures.items c.in-Ok.ensures
