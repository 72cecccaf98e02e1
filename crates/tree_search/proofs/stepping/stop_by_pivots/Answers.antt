use Rattle.std.specs.Prelude.{Some}
use Rattle.std.proofs.Common.{refl, sym, subst}
use Rattle.tree_search.specs.declared.stepping.Stepped.{Stepped}
use Rattle.tree_search.specs.private.Stepping.{Steps}
use Rattle.tree_search.proofs.JobLemmas.{IsWorkedBy, worked-by}
use Rattle.tree_search.proofs.KeepLemmas.{job-after, added-model}
use Rattle.tree_search.proofs.PlacedLemmas.{pivots-basis}
use Rattle.tree_search.proofs.StopLemmas.{stop-pivots}
use Rattle.tree_search.proofs.stepping.stop_by_pivots.Goals as goal

pub keep_basis-requires-clause-job : goal.keep_basis-requires-clause-job
keep_basis-requires-clause-job c =
    let (begin, (found, (works, adds))) = c.requires.works in
    job-after begin found.items c.args.manager.now.search adds c.args.job works.held

pub keep_basis-requires-clause-basis : goal.keep_basis-requires-clause-basis
keep_basis-requires-clause-basis c =
    let working = c.args.working.now in
    let S = c.args.manager.now.search in
    let (begin, (found, (works, adds))) = c.requires.works in
    pivots-basis working.ways working.first.now working.pivots begin (subst (IsWorkedBy working.ways) (added-model begin found.items S adds) (worked-by S working.ways c.requires.ready.ways)) c.args.job found.items S adds c.args.basis found refl works.worked_is

pub returns-in-Ok-clause-steps : goal.returns-in-Ok-clause-steps
returns-in-Ok-clause-steps c =
    λ begin found works adds.
    let working = c.args.working.now in
    subst (λ (stepped : Stepped). Steps working c.args.job begin c.keep_basis.new.manager.search stepped) (sym c.at_pivots.ensures)
    (stop-pivots working begin c.args.job found c.args.manager.now.search adds c.keep_basis.new.manager.search (record { path = Some c.args.job.region; cuts = c.in-Ok.cuts; basis = c.args.basis }) works refl c.in-Ok.ensures.cuts c.in-Ok.ensures.keeps)
