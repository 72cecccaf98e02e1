use Rattle.std.specs.Prelude.{IsSome}
use Rattle.std.proofs.Common.{refl, sym, ap, subst, ◌∙◌}
use Rattle.lp_model.specs.Program.{Program}
use Rattle.kept_env.specs.Env.{PlainEnv}
use Rattle.tree_search.specs.Within.{IsGapLimit}
use Rattle.front_env.specs.FrontEnvs.{program_in}
use Rattle.front_env.proofs.Solving.{IsWarmedTo, warmed_to, gone_to}
use Rattle.front_env.proofs.resuming.go_on.Goals as goal

pub warm_solve-requires-clause-gap : goal.warm_solve-requires-clause-gap
warm_solve-requires-clause-gap c = subst IsGapLimit (sym c.requires.plain) tt

pub returns-clause-end : goal.returns-clause-end
returns-clause-end c =
    let l = c.args.limits.now in
    let env = c.restore.new.self in
    let loaded = subst (λ (e : PlainEnv). IsSome e.search) (sym c.restore.ensures) refl in
    let model = ap (λ (e : PlainEnv). program_in e.search) c.restore.ensures ∙ c.in-Some.ensures in
    let warmed = warmed_to l c.requires.plain env.search env c.warm_solve.new.env c.in-Ok.answer loaded c.in-Ok.ensures.warms c.in-Ok.ensures.true_answer c.search-search.ensures.sound in
    gone_to l (program_in c.args.env.now.search) c.warm_solve.new.env c.in-Ok.answer c.gone_on.result
    (subst (λ (P : Program). IsWarmedTo l P c.in-Ok.answer c.warm_solve.new.env) model warmed) c.gone_on.ensures
