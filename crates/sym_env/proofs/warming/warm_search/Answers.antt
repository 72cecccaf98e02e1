use Rattle.std.proofs.Common.{ap, subst, ◌∙◌}
use Rattle.lp_model.specs.Lawful.{IsLawful}
use Rattle.sound_searches.specs.Sound.{PlainSearch, IsSound}
use Rattle.tree_search.specs.Extends.{Extends}
use Rattle.tree_search.specs.Enough.{IsEnoughFrom}
use Rattle.tree_search.specs.Solves.{HasRayFor}
use Rattle.tree_search.specs.Truth.{HasEnded}
use Rattle.tree_search.specs.Warm.{Warms}
use Rattle.sym_env.proofs.EnoughLemmas.{from-kept}
use Rattle.sym_env.proofs.TruthLemmas.{Laws, true-kept}
use Rattle.sym_env.proofs.warming.warm_search.Goals as goal

-- the search with the limit: c.set_limit.ensures
pub returns-clause-warms : goal.returns-clause-warms
returns-clause-warms c = subst (λ S. Warms c.args.limits.now S c.warm_limited.result.answer c.warm_limited.result.search) c.set_limit.ensures c.warm_limited.ensures.warms

pub returns-clause-model : goal.returns-clause-model
returns-clause-model c = c.warm_limited.ensures.model ∙ ap (λ (S : PlainSearch). S.model) c.set_limit.ensures

pub returns-clause-extends : goal.returns-clause-extends
returns-clause-extends c = subst (λ (S : PlainSearch). Extends S.tree.root c.warm_limited.result.search.tree.root) c.set_limit.ensures c.warm_limited.ensures.extends

pub returns-clause-ray : goal.returns-clause-ray
returns-clause-ray c = subst (λ (S : PlainSearch). HasRayFor S.model c.args.limits.now.pivots c.warm_limited.result.answer c.warm_limited.result.ray) c.set_limit.ensures c.warm_limited.ensures.ray

pub returns-clause-complete : goal.returns-clause-complete
returns-clause-complete c = λ enough.
    let l = c.args.limits.now in
    subst (λ S. IsEnoughFrom S c.warm_limited.result.search.cuts l.nodes l.pivots → HasEnded c.warm_limited.result.answer) c.set_limit.ensures c.warm_limited.ensures.complete (from-kept l c.args.search c.warm_limited.result.search.cuts enough)

pub returns-clause-true_answer : goal.returns-clause-true_answer
returns-clause-true_answer c =
    let S = c.args.search in
    let l = c.args.limits.now in
    let laws : Laws = record { empty = c.empty_law.ensures; cap = c.cap_law.ensures; left = c.left_law.ensures; bound = c.stop_bound_law.ensures } in
    true-kept laws l S c.warm_limited.result.answer c.warm_limited.result.search (subst IsLawful c.model.ensures c.cols-lawful.ensures.lawful) (subst IsSound c.set_limit.ensures c.points-sound.ensures.sound)
    (subst (λ T. Warms l T c.warm_limited.result.answer c.warm_limited.result.search) c.set_limit.ensures c.warm_limited.ensures.warms)
