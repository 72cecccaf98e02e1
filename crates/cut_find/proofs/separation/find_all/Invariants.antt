use Rattle.cut_find.specs.Separation.{FindsBelow}
use Rattle.cut_find.proofs.separation.find_all.Given as goal

abbrev pub invariant-loop-row : goal.invariant-loop-row
invariant-loop-row l = FindsBelow l.model l.numbers l.max l.row l.found.items
