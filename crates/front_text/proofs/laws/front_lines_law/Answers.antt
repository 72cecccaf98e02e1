use Rattle.front_text.proofs.StatementLemmas.{spelled_out}
use Rattle.front_text.proofs.laws.front_lines_law.Goals as goal

pub returns : goal.returns
returns c = spelled_out
