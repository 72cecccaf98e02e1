use Rattle.std.specs.Prelude.{Result, Ok, Err, IfOk}
use Rattle.std.proofs.Common.{subst}
use Rattle.lp_model.specs.Lawful.{IsLawful}
use Rattle.cert_text.specs.declared.cert.Cert.{Cert}
use Rattle.cert_text.specs.Whole.{IsCertificate}
use Rattle.cert_check.specs.Verdict.{IsVerdict}
use Rattle.cert_check.specs.declared.verdict.Verdict.TheVariants.{Accepted}
use Rattle.tree_cert.specs.Certificates.{IsCertificateWithin}
use Rattle.tree_cert.specs.private.Parts.{HasPartsOf}
use Rattle.tree_cert.proofs.AcceptedLaws.{within_parts, is_certificate_within, is_accepted_within}
use Rattle.tree_cert.proofs.writing.certificate_within.Goals as goal

if_more : {E : Type 0} (P Q : Cert → Type 0) (r : Result Cert E) → ((cert : Cert) → P cert → Q cert) → IfOk r P → IfOk r Q
if_more P Q (Ok cert) w h = w cert h
if_more P Q (Err e) w h = tt

pub returns-clause-exact : goal.returns-clause-exact
returns-clause-exact c =
    let S = c.args.search.now in
    let g = c.args.gap.now in
    if_more (HasPartsOf S c.claim_within.result) (IsCertificateWithin S g) c.certificate_of.result (λ cert of. within_parts S g c.requires.within c.claim_within.result cert of c.claim_within.ensures) c.certificate_of.ensures

pub returns-clause-certificate : goal.returns-clause-certificate
returns-clause-certificate c =
    let S = c.args.search.now in
    let g = c.args.gap.now in
    if_more (IsCertificateWithin S g) IsCertificate c.certificate_of.result (λ cert of. is_certificate_within S g cert c.points-sound.ensures.sound c.requires.gap c.requires.within of) (returns-clause-exact c)

pub returns-clause-accepted : goal.returns-clause-accepted
returns-clause-accepted c =
    let S = c.args.search.now in
    let g = c.args.gap.now in
    if_more (IsCertificateWithin S g) (λ cert. IsVerdict S.model cert (Accepted cert.claim)) c.certificate_of.result
    (λ cert of. is_accepted_within S g cert c.points-sound.ensures.sound c.requires.gap c.requires.within of (subst IsLawful c.model.ensures c.rows-lawful.ensures.lawful)) (returns-clause-exact c)
