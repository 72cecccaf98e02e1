use Rattle.std.proofs.Common.{subst}
use Rattle.sound_searches.specs.Placing.{Takes}
use Rattle.tree_search.proofs.HeldJobs.{held-open}
use Rattle.tree_search.proofs.KeepLemmas.{job-after}
use Rattle.tree_search.proofs.PlacedLemmas.{placed-result, full-result}
use Rattle.tree_search.proofs.stepping.place_result.Goals as goal

pub take_done-requires-clause-open : goal.take_done-requires-clause-open
take_done-requires-clause-open c =
    let (begin, (found, (works, adds))) = c.requires.works in
    held-open c.args.manager.now.search c.args.job.now (job-after begin found.items c.args.manager.now.search adds c.args.job.now works.held)

pub returns-in-Full-clause-steps : goal.returns-in-Full-clause-steps
returns-in-Full-clause-steps c =
    λ begin found works adds.
    let S = c.args.manager.now.search in
    full-result c.args.working.now begin c.args.job.now c.args.done found works c.requires.by S adds c.show_manager.ensures.sound c.show_manager.ensures.numbered c.show_manager.ensures.lawful c.requires.ready c.take_done.new.self.search
    (subst (Takes S c.args.job.now.id c.args.done c.take_done.new.self.search) c.in-Full.is c.in-Ok.ensures.takes.takes)

pub returns-in_default-clause-steps : goal.returns-in_default-clause-steps
returns-in_default-clause-steps c =
    λ begin found works adds.
    placed-result c.args.working.now begin c.args.job.now c.args.done found works c.requires.by c.args.manager.now.search adds c.show_manager.ensures.sound c.show_manager.ensures.numbered c.show_manager.ensures.lawful c.requires.ready c.take_done.new.self.search
    c.in-Ok.taken c.in-Ok.ensures.takes.takes c.in_default.not-Full
