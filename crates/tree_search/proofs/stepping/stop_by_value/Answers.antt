use Rattle.std.specs.Prelude.{◌≡◌, Some}
use Rattle.std.proofs.Common.{refl, sym, ap, subst, ◌∙◌}
use Rattle.node_solve.specs.Places.{live_places, basis_in_relaxation}
use Rattle.search_parts.specs.Lists.{IsBasis}
use Rattle.sound_searches.specs.Sound.{formulation_of}
use Rattle.tree_search.specs.Steps.{kept_basis}
use Rattle.tree_search.specs.declared.stepping.Stepped.{Stepped}
use Rattle.tree_search.specs.private.Stepping.{Steps}
use Rattle.tree_search.proofs.JobLemmas.{IsWorkedBy, worked-by}
use Rattle.tree_search.proofs.KeepLemmas.{job-after, added-model}
use Rattle.tree_search.proofs.PlacedLemmas.{point-back}
use Rattle.tree_search.proofs.PointLemmas.{there}
use Rattle.tree_search.proofs.StopLemmas.{stop-value}
use Rattle.tree_search.proofs.stepping.stop_by_value.Goals as goal

pub keep_basis-requires-clause-job : goal.keep_basis-requires-clause-job
keep_basis-requires-clause-job c =
    let (begin, (found, (works, adds))) = c.requires.works in
    job-after begin found.items c.args.manager.now.search adds c.args.job works.held

pub keep_basis-requires-clause-basis : goal.keep_basis-requires-clause-basis
keep_basis-requires-clause-basis c =
    let working = c.args.working.now in
    let S = c.args.manager.now.search in
    let (begin, (found, (works, adds))) = c.requires.works in
    let by = subst (IsWorkedBy working.ways) (added-model begin found.items S adds) (worked-by S working.ways c.requires.ready.ways) in
    let back = point-back working.ways working.first.now working.pivots begin by c.args.job found.items S adds c.args.point c.args.mult c.args.basis found refl works.worked_is in
    let own : c.in-Ok.own ≡ basis_in_relaxation (live_places 200 0 S.cuts) c.args.basis = c.in-Ok.ensures in
    subst (IsBasis (formulation_of S)) (sym (ap (kept_basis S) own ∙ back))
    (there working begin c.args.job c.args.point c.args.mult c.args.basis found works S adds c.show_manager.ensures.sound c.show_manager.ensures.numbered c.show_manager.ensures.lawful c.requires.rays c.requires.ready)

pub returns-in-Ok-keep_basis-clause-steps : goal.returns-in-Ok-keep_basis-clause-steps
returns-in-Ok-keep_basis-clause-steps c =
    λ begin found works adds.
    let working = c.args.working.now in
    let S = c.args.manager.now.search in
    let by = subst (IsWorkedBy working.ways) (added-model begin found.items S adds) (worked-by S working.ways c.requires.ready.ways) in
    let back = point-back working.ways working.first.now working.pivots begin by c.args.job found.items S adds c.args.point c.args.mult c.args.basis found refl works.worked_is in
    let own : c.in-Ok.own ≡ basis_in_relaxation (live_places 200 0 S.cuts) c.args.basis = c.in-Ok.ensures in
    subst (λ (stepped : Stepped). Steps working c.args.job begin c.keep_basis.new.manager.search stepped) (sym c.at_step.ensures)
    (stop-value working begin c.args.job found S adds c.keep_basis.new.manager.search c.requires.rays c.args.point c.args.mult c.args.basis
    (record { path = Some c.args.job.region; cuts = c.in-Ok-keep_basis.cuts; basis = c.in-Ok.own; step = c.args.step })
    works c.requires.value refl c.in-Ok-keep_basis.ensures.cuts own (ap (kept_basis S) own ∙ back) c.in-Ok-keep_basis.ensures.keeps)
