use Rattle.front_text.specs.Text.{stated_front_cert}
use Rattle.front_text.specs.Whole.{IsFrontCertificate}
use Rattle.front_text.specs.Reading.{held_front}
use Rattle.front_text.proofs.KeptLemmas.{if_is, certificate}
use Rattle.front_text.proofs.front_reading.FrontReading.into_cert.Goals as goal

pub returns-clause-certificate : goal.returns-clause-certificate
returns-clause-certificate c = if_is c.parts.result IsFrontCertificate (stated_front_cert (held_front c.args.self)) (certificate c.args.self c.requires.ended c.requires.kept) c.parts.ensures
