use Rattle.std.specs.Prelude.{Some, IfSome}
use Rattle.std.proofs.Common.{ap, subst, sym, ◌∙◌}
use Rattle.sound_searches.specs.Calls.{search_with_limit}
use Rattle.kept_env.specs.Env.{PlainEnv, IsHeld, pool_in, with_answer}
use Rattle.tree_search.specs.Enough.{IsKeptEnough}
use Rattle.tree_search.specs.Truth.{HasEnded}
use Rattle.sym_env.proofs.WarmLemmas.{warms-env, warms-held}
use Rattle.sym_env.proofs.environment.warm_solve.Goals as goal

pub give-requires : goal.give-requires
give-requires c =
    let S = c.in-Some.search in
    let T = c.warm_search-search.result.search in
    let l = c.args.limits.now in
    let found = c.warm_search-search.result in
    subst (IsHeld (Some T)) (sym c.held_by-held.ensures) (warms-held l (search_with_limit S l.tree) found.answer T c.requires.gap found.ray c.warm_search-search.ensures.warms c.warm_search-search.ensures.model c.warm_search-search.ensures.ray)

pub returns-clause-warms : goal.returns-clause-warms
returns-clause-warms c =
    let T = c.warm_search-search.result.search in
    let found = c.warm_search-search.result in
    warms-env c.args.limits.now c.args.env.now c.give.new.self c.in-Some.search T found.answer found.ray (sym c.take.ensures.taken ∙ c.in-Some.is) c.warm_search-search.ensures.warms c.warm_search-search.ensures.model c.warm_search-search.ensures.extends c.warm_search-search.ensures.ray
    (c.give.ensures ∙ ap (with_answer T) c.held_by-held.ensures)

pub returns-clause-complete : goal.returns-clause-complete
returns-clause-complete c =
    let l = c.args.limits.now in
    let S = c.in-Some.search in
    subst (λ o. IfSome o (λ S. IsKeptEnough S (pool_in c.give.new.self.search) l → HasEnded c.warm_search-search.result.answer)) (sym (sym c.take.ensures.taken ∙ c.in-Some.is))
    (λ enough. c.warm_search-search.ensures.complete (subst (λ (E : PlainEnv). IsKeptEnough S (pool_in E.search) l) c.give.ensures enough))
