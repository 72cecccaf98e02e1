use Rattle.std.proofs.Common.{ap, sym, subst, ◌∙◌}
use Rattle.cover_cuts.specs.Cuts.{IsPoolOf}
use Rattle.tree_search.specs.Steps.{worked_model}
use Rattle.tree_search.proofs.PlacedLemmas.{next-region, next-first, next-pool, next-works}
use Rattle.tree_search.proofs.stepping.work_on.Goals as goal

pub work-requires-clause-narrow : goal.work-requires-clause-narrow
work-requires-clause-narrow c =
    let S = c.args.manager.now.search in
    (next-region c.args.working.now S c.show_manager.ensures.sound c.requires.ready c.args.job.now c.requires.held c.model.result.now (c.model.ensures ∙ sym (ap (λ w. worked_model w S.model) c.in-Own.is))).narrow

pub work-requires-clause-path : goal.work-requires-clause-path
work-requires-clause-path c =
    let S = c.args.manager.now.search in
    (next-region c.args.working.now S c.show_manager.ensures.sound c.requires.ready c.args.job.now c.requires.held c.model.result.now (c.model.ensures ∙ sym (ap (λ w. worked_model w S.model) c.in-Own.is))).names

pub work-requires-clause-some : goal.work-requires-clause-some
work-requires-clause-some c =
    let S = c.args.manager.now.search in
    (next-region c.args.working.now S c.show_manager.ensures.sound c.requires.ready c.args.job.now c.requires.held c.model.result.now (c.model.ensures ∙ sym (ap (λ w. worked_model w S.model) c.in-Own.is))).some

pub work-requires-clause-first : goal.work-requires-clause-first
work-requires-clause-first c =
    let S = c.args.manager.now.search in
    next-first c.args.working.now S c.show_manager.ensures.sound c.requires.ready c.args.job.now c.requires.held c.model.result.now (c.model.ensures ∙ sym (ap (λ w. worked_model w S.model) c.in-Own.is))

pub work-requires-clause-pool : goal.work-requires-clause-pool
work-requires-clause-pool c =
    let S = c.args.manager.now.search in
    subst (IsPoolOf c.model.result.now) (sym c.pool.ensures.pool)
    (next-pool c.args.working.now S c.show_manager.ensures.sound c.requires.ready c.args.job.now c.requires.held c.model.result.now (c.model.ensures ∙ sym (ap (λ w. worked_model w S.model) c.in-Own.is)))

pub returns-in-Own : goal.returns-in-Own
returns-in-Own c =
    let S = c.args.manager.now.search in
    next-works c.args.working.now S c.show_manager.ensures.sound c.requires.ready c.args.job.now c.requires.held c.model.result.now (c.model.ensures ∙ sym (ap (λ w. worked_model w S.model) c.in-Own.is)) c.pool.result.now c.pool.ensures.pool c.work.result c.work.ensures.worked

pub work-requires-in-Rays-clause-narrow : goal.work-requires-in-Rays-clause-narrow
work-requires-in-Rays-clause-narrow c =
    let S = c.args.manager.now.search in
    (next-region c.args.working.now S c.show_manager.ensures.sound c.requires.ready c.args.job.now c.requires.held c.in-Rays.model.now (sym (ap (λ w. worked_model w S.model) c.in-Rays.is))).narrow

pub work-requires-in-Rays-clause-path : goal.work-requires-in-Rays-clause-path
work-requires-in-Rays-clause-path c =
    let S = c.args.manager.now.search in
    (next-region c.args.working.now S c.show_manager.ensures.sound c.requires.ready c.args.job.now c.requires.held c.in-Rays.model.now (sym (ap (λ w. worked_model w S.model) c.in-Rays.is))).names

pub work-requires-in-Rays-clause-some : goal.work-requires-in-Rays-clause-some
work-requires-in-Rays-clause-some c =
    let S = c.args.manager.now.search in
    (next-region c.args.working.now S c.show_manager.ensures.sound c.requires.ready c.args.job.now c.requires.held c.in-Rays.model.now (sym (ap (λ w. worked_model w S.model) c.in-Rays.is))).some

pub work-requires-in-Rays-clause-first : goal.work-requires-in-Rays-clause-first
work-requires-in-Rays-clause-first c =
    let S = c.args.manager.now.search in
    next-first c.args.working.now S c.show_manager.ensures.sound c.requires.ready c.args.job.now c.requires.held c.in-Rays.model.now (sym (ap (λ w. worked_model w S.model) c.in-Rays.is))

pub work-requires-in-Rays-clause-pool : goal.work-requires-in-Rays-clause-pool
work-requires-in-Rays-clause-pool c =
    let S = c.args.manager.now.search in
    subst (IsPoolOf c.in-Rays.model.now) (sym c.pool-in-Rays.ensures.pool)
    (next-pool c.args.working.now S c.show_manager.ensures.sound c.requires.ready c.args.job.now c.requires.held c.in-Rays.model.now (sym (ap (λ w. worked_model w S.model) c.in-Rays.is)))

pub returns-in-Rays : goal.returns-in-Rays
returns-in-Rays c =
    let S = c.args.manager.now.search in
    next-works c.args.working.now S c.show_manager.ensures.sound c.requires.ready c.args.job.now c.requires.held c.in-Rays.model.now (sym (ap (λ w. worked_model w S.model) c.in-Rays.is)) c.pool-in-Rays.result.now c.pool-in-Rays.ensures.pool c.work-in-Rays.result c.work-in-Rays.ensures.worked
