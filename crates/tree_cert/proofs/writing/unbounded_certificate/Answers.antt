use Rattle.std.proofs.Common.{sym, subst}
use Rattle.cert_text.specs.declared.cert.Cert.{Cert}
use Rattle.cert_text.specs.declared.cert.Claim.TheVariants.{Unbounded}
use Rattle.cert_text.specs.Whole.{IsCertificate}
use Rattle.cert_check.specs.declared.verdict.Verdict.TheVariants.{Accepted}
use Rattle.cert_check.specs.Verdict.{IsVerdict}
use Rattle.tree_cert.proofs.AcceptedLaws.{unbounded-whole, unbounded-accepted}
use Rattle.tree_cert.proofs.writing.unbounded_certificate.Goals as goal

pub nonzero_numbers-requires : goal.nonzero_numbers-requires
nonzero_numbers-requires c = c.requires.point.0.shape

pub nonzero_numbers-requires-2 : goal.nonzero_numbers-requires-2
nonzero_numbers-requires-2 c = c.requires.ray.0.shape

pub returns-clause-exact : goal.returns-clause-exact
returns-clause-exact c = (λ i. record { claim = Unbounded; point = c.in-Ok.ensures i; ray = c.in-Ok-nonzero_numbers.ensures i; cuts = c.new-cuts.ensures i; nodes = c.new-nodes.ensures i })

pub returns-clause-certificate : goal.returns-clause-certificate
returns-clause-certificate c = subst IsCertificate (sym (returns-clause-exact c)) (unbounded-whole c.args.model.now c.args.point.now c.args.ray.now)

pub returns-clause-accepted : goal.returns-clause-accepted
returns-clause-accepted c =
    let M = c.args.model.now in
    subst (λ (cert : Cert). IsVerdict M cert (Accepted Unbounded)) (sym (returns-clause-exact c))
    (unbounded-accepted M c.args.point.now c.args.ray.now c.rows-lawful.ensures.lawful c.requires.point c.requires.ray)
