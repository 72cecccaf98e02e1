use Rattle.std.specs.Prelude.{◌≡◌}
use Rattle.std.proofs.Common.{ap, subst, ◌∙◌}
use Rattle.lp_model.specs.Program.{Program}
use Rattle.sound_searches.specs.Sound.{PlainSearch}
use Rattle.tree_search.specs.Enough.{IsEnough}
use Rattle.tree_search.specs.Solves.{HasRayFor}
use Rattle.tree_search.specs.Truth.{HasEnded}
use Rattle.sym_env.proofs.solving.solve_again.Goals as goal

pub returns-in-Ok-clause-ray : goal.returns-in-Ok-clause-ray
returns-in-Ok-clause-ray c =
    let same : c.restart.new.self.model ≡ c.args.search.model = c.in-Ok.ensures.fresh.model ∙ ap (λ (S : PlainSearch). S.model) c.set_limit.ensures in
    subst (λ (M : Program). HasRayFor M c.args.limits.now.pivots c.solve_fresh.result.answer c.solve_fresh.result.ray) same c.solve_fresh.ensures.ray

pub returns-in-Ok-clause-complete : goal.returns-in-Ok-clause-complete
returns-in-Ok-clause-complete c =
    let same : c.restart.new.self.model ≡ c.args.search.model = c.in-Ok.ensures.fresh.model ∙ ap (λ (S : PlainSearch). S.model) c.set_limit.ensures in
    subst (λ (M : Program). IsEnough M c.solve_fresh.result.search.cuts c.args.limits.now → HasEnded c.solve_fresh.result.answer) same c.solve_fresh.ensures.complete
