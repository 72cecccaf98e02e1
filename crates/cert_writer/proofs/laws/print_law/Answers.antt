use Rattle.cert_writer.proofs.KeptLaws.{print_again}
use Rattle.cert_writer.proofs.laws.print_law.Goals as goal

pub returns : goal.returns
returns c = print_again
