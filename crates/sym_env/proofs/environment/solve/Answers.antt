use Rattle.std.specs.Prelude.{Some, IfSome}
use Rattle.std.proofs.Common.{ap, subst, sym, ◌∙◌}
use Rattle.kept_env.specs.Env.{PlainEnv, IsHeld, pool_in, with_answer}
use Rattle.tree_search.specs.Enough.{IsEnough}
use Rattle.tree_search.specs.Truth.{HasEnded}
use Rattle.sym_env.proofs.TruthLemmas.{solves-env, solves-held}
use Rattle.sym_env.proofs.environment.solve.Goals as goal

pub give-requires : goal.give-requires
give-requires c =
    let S = c.in-Some.search in
    let T = c.solve_search-search.result.search in
    let found = c.solve_search-search.result in
    subst (IsHeld (Some T)) (sym c.held_by-held.ensures) (solves-held S.model c.args.limits.now c.requires.gap S found.answer found.ray T c.solve_search-search.ensures.solves c.solve_search-search.ensures.ray)

pub returns-clause-solves : goal.returns-clause-solves
returns-clause-solves c =
    let T = c.solve_search-search.result.search in
    let found = c.solve_search-search.result in
    solves-env c.args.limits.now c.args.env.now c.give.new.self c.in-Some.search T found.answer found.ray (sym c.take.ensures.taken ∙ c.in-Some.is) c.solve_search-search.ensures.solves c.solve_search-search.ensures.ray
    (c.give.ensures ∙ ap (with_answer T) c.held_by-held.ensures)

pub returns-clause-complete : goal.returns-clause-complete
returns-clause-complete c =
    let l = c.args.limits.now in
    let S = c.in-Some.search in
    subst (λ o. IfSome o (λ S. IsEnough S.model (pool_in c.give.new.self.search) l → HasEnded c.solve_search-search.result.answer)) (sym (sym c.take.ensures.taken ∙ c.in-Some.is))
    (λ enough. c.solve_search-search.ensures.complete (subst (λ (E : PlainEnv). IsEnough S.model (pool_in E.search) l) c.give.ensures enough))
