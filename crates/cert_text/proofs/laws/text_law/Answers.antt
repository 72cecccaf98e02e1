use Rattle.cert_text.proofs.TextLaws.{means_one}
use Rattle.cert_text.proofs.laws.text_law.Goals as goal

pub returns : goal.returns
returns c = means_one
