use Rattle.std.specs.Prelude.{IfOk, IsSome}
use Rattle.std.proofs.Common.{sym, subst}
use Rattle.front_solver.specs.Truth.{IsCertifiedAs}
use Rattle.front_env.specs.FrontEnvs.{PlainFrontEnv, program_of}
use Rattle.front_env.proofs.Claims.{certified_if}
use Rattle.front_env.proofs.front_env.FrontEnvSolver.certificate.Goals as goal

pub returns : goal.returns
returns c =
    let i = c.self.inside in
    subst (λ (e : PlainFrontEnv). IfOk c.certificate.result (λ cert. IsCertifiedAs (program_of e) e.shown cert)) c.self.view_is
    (certified_if c.certificate.result c.in-Some.search.now i.env i.shown (sym c.in-Some.ensures.search) c.self.invariant.shown (subst (λ (e : PlainFrontEnv). IsSome e.shown) (sym c.self.view_is) c.requires) c.certificate.ensures.exact
    c.certificate.ensures.certificate c.certificate.ensures.accepted c.verdict_law.ensures c.accepted_law.ensures)
