use Rattle.std.specs.Prelude.{Some}
use Rattle.std.proofs.Common.{subst}
use Rattle.branch_tree.specs.declared.node.NodeResult.TheVariants.{Keep}
use Rattle.sound_searches.specs.Placing.{Takes}
use Rattle.tree_search.proofs.HeldJobs.{held-open}
use Rattle.tree_search.proofs.KeepLemmas.{job-after}
use Rattle.tree_search.proofs.PointLemmas.{ray_point-taken, ray_point-next}
use Rattle.tree_search.proofs.stepping.keep_found.Goals as goal

pub take_done-requires-clause-open : goal.take_done-requires-clause-open
take_done-requires-clause-open c =
    let (begin, (found, (works, adds))) = c.requires.works in
    held-open c.args.manager.now.search c.args.job.now (job-after begin found.items c.args.manager.now.search adds c.args.job.now works.held)

pub unreachable-requires : goal.unreachable-requires
unreachable-requires c =
    let S = c.args.manager.now.search in
    let (begin, (found, (works, adds))) = c.requires.works in
    c.in_default.not-Kept
    (ray_point-taken c.args.working.now begin c.args.job.now c.args.point c.args.mult c.args.basis found works S adds c.show_manager.ensures.sound c.show_manager.ensures.numbered c.show_manager.ensures.lawful c.requires.rays c.requires.ready c.requires.value
    c.take_done.new.self.search c.in-Ok.taken c.in-Ok.ensures.takes.takes)

pub returns-clause-steps : goal.returns-clause-steps
returns-clause-steps c =
    λ begin found works adds.
    let S = c.args.manager.now.search in
    ray_point-next c.args.working.now begin c.args.job.now c.args.point c.args.mult c.args.basis found works S adds c.show_manager.ensures.sound c.show_manager.ensures.numbered c.show_manager.ensures.lawful c.requires.rays c.requires.ready c.requires.value c.take_done.new.self.search
    (subst (Takes S c.args.job.now.id (Keep (Some c.args.point) c.args.basis) c.take_done.new.self.search) c.in-Kept.is c.in-Ok.ensures.takes.takes)
