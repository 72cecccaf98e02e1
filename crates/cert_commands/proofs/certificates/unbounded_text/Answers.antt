use Rattle.std.specs.Prelude.{ℕ, Vec, true, Ok, IfOk}
use Rattle.std.specs.Option.{option_copied}
use Rattle.std.specs.declared.alloc.Global.{Global}
use Rattle.std.proofs.Common.{sym, subst}
use Rattle.lp_model.specs.Program.{Program}
use Rattle.model_points.specs.Answers.{IsFeasibilityAnswer}
use Rattle.model_points.specs.Rays.{IsRayJudged}
use Rattle.search_parts.specs.Points.{IsIncumbent}
use Rattle.tree_cert.proofs.AcceptedLaws.{incumbent-keepable}
use Rattle.cert_commands.specs.Certificates.{IsUnboundedTextBy}
use Rattle.cert_commands.proofs.CertificateLemmas.{of-incumbent, some-incumbent}
use Rattle.cert_commands.proofs.certificates.unbounded_text.Goals as goal

pub unreachable-requires : goal.unreachable-requires
unreachable-requires c =
    let S = c.args.search.now in
    some-incumbent S c.requires.point (subst (λ r. IsIncumbent S.model S.points (option_copied r)) c.in-None.is c.incumbent.ensures)

pub unbounded_text_by-requires-clause-point : goal.unbounded_text_by-requires-clause-point
unbounded_text_by-requires-clause-point c =
    let S = c.args.search.now in
    let at = subst (λ r. IsIncumbent S.model S.points (option_copied r)) c.in-Some.is c.incumbent.ensures in
    subst (λ (N : Program). IsFeasibilityAnswer N c.in-Some.point.now (Ok true)) (sym c.model.ensures) ((incumbent-keepable S c.in-Some.point.now at.0 c.points-sound.ensures.sound at.1).feasible)

pub unbounded_text_by-requires-clause-ray : goal.unbounded_text_by-requires-clause-ray
unbounded_text_by-requires-clause-ray c = subst (λ (N : Program). IsRayJudged N c.args.ray.now (Ok true)) (sym c.model.ensures) c.requires.ray

pub returns : goal.returns
returns c =
    let S = c.args.search.now in
    let at = subst (λ r. IsIncumbent S.model S.points (option_copied r)) c.in-Some.is c.incumbent.ensures in
    of-incumbent (λ (v : Vec ℕ Global). v.items) S c.in-Some.point.now c.args.ray.now c.unbounded_text_by.result at
    (subst (λ (N : Program). IfOk c.unbounded_text_by.result (λ (text : Vec ℕ Global). IsUnboundedTextBy N c.in-Some.point.now c.args.ray.now text.items)) c.model.ensures c.unbounded_text_by.ensures)
