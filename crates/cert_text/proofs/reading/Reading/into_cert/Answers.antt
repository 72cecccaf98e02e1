use Rattle.std.proofs.Common.{subst, sym}
use Rattle.cert_text.specs.Whole.{IsCertificate}
use Rattle.cert_text.proofs.KeptLemmas.{certificate}
use Rattle.cert_text.proofs.reading.Reading.into_cert.Goals as goal

pub returns-clause-certificate : goal.returns-clause-certificate
returns-clause-certificate c = subst IsCertificate (sym c.parts.ensures) (certificate c.args.self c.requires.ended c.requires.kept)
