use Rattle.cert_commands.proofs.CauseLemmas.{certificates-lawful}
use Rattle.cert_commands.proofs.laws.certificates_law.Goals as goal

pub returns : goal.returns
returns c = certificates-lawful
