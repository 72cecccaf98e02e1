use Rattle.tree_search.proofs.EnoughMet.{enough-new, enough-kept, moves-met}
use Rattle.tree_search.proofs.laws.enough_met_law.Goals as goal

pub returns-clause-new : goal.returns-clause-new
returns-clause-new c = enough-new

pub returns-clause-kept : goal.returns-clause-kept
returns-clause-kept c = enough-kept

pub returns-clause-moves : goal.returns-clause-moves
returns-clause-moves c = moves-met
