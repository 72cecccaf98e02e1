use Rattle.dual_simplex.proofs.RegionSideLemmas.{keeps_free}
use Rattle.node_solve.proofs.EndLemmas.{bounded_changes}
use Rattle.relaxation_rows.proofs.regions.leaves_free.Goals as goal

pub returns : goal.returns
returns c = keeps_free c.args.model.now c.args.region.now (bounded_changes c.args.model.now c.cols-lawful.ensures.lawful c.args.region.now c.requires)
