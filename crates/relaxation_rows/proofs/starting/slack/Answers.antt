use Rattle.std.specs.Prelude.{length}
use Rattle.std.proofs.Common.{ap, arith}
use Rattle.relaxation_rows.proofs.starting.slack.Goals as goal

pub slack-requires-clause-few : goal.slack-requires-clause-few
slack-requires-clause-few c = let none = ap length c.requires.none in omega (arith, none)
