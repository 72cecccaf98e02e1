use Rattle.sym_shell.proofs.RunLemmas as run
use Rattle.sym_shell.proofs.laws.told_law.Goals as goal

pub returns : goal.returns
returns c = run.told_law
