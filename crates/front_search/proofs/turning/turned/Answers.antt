use Rattle.std.specs.Prelude.{pos}
use Rattle.front_search.proofs.TurnedSteps.{turned-read}
use Rattle.front_search.proofs.turning.turned.Goals as goal

pub loop-outcome-preserved : goal.loop-outcome-preserved
loop-outcome-preserved c =
    turned-read c.args.outcomes.now c.requires.front c.requires.narrow c.loop-outcome.outcome-index (record { f1 = pos 0; f2 = pos 0 }) c.loop-outcome-test.true c.loop-outcome.own c.in-Ok.field-0 c.insert.new.self c.loop-outcome.invariant c.in-Ok.ensures.taken
    c.in-Ok.ensures.stands
