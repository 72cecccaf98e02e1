use Rattle.std.proofs.Common.{◌∙◌, ap, arith}
use Rattle.std.proofs.lemmas.List.{take_all}
use Rattle.node_solve.specs.Places.{mult_in_pool}
use Rattle.node_solve.proofs.places.mult_in_pool.Goals as goal

pub returns : goal.returns
returns c = c.loop-var.invariant ∙ ap (mult_in_pool c.args.places.now) (take_all c.loop-var.var-index c.args.mult.now (omega (arith, c.loop-var-test.false)))
