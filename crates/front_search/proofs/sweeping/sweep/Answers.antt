use Rattle.std.specs.Int.{w128}
use Rattle.std.proofs.Common.{to_z, of_z, ◌∙◌}
use Rattle.frac128.proofs.ReadLemmas.{narrow_read}
use Rattle.front_search.proofs.FoundFronts.{swept}
use Rattle.front_search.proofs.sweeping.sweep.Goals as goal

pub returns : goal.returns
returns c =
    let first = c.least_constant-constant1 in
    let second = c.least_constant-constant2 in
    swept c.args.limits.now c.args.model.now c.in-Ok-new.solver (to_z w128 (of_z w128 first.result)) (to_z w128 (of_z w128 second.result)) c.run_wcn-mc.result c.in-Ok-new.ensures.limits (c.in-Ok-new.ensures.program ∙ c.in-Ok.ensures)
    (narrow_read first.result first.ensures.narrow ∙ first.ensures.is) (narrow_read second.result second.ensures.narrow ∙ second.ensures.is) c.run_wcn-mc.ensures.mc
