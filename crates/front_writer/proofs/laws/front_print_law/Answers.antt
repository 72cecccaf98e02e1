use Rattle.front_writer.proofs.PrintedLaws.{print_again}
use Rattle.front_writer.proofs.laws.front_print_law.Goals as goal

pub returns : goal.returns
returns c = print_again c.front_lines_law.ensures
