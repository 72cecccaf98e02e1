use Rattle.front_check.specs.private.Parts.{parts_by_outcomes}
use Rattle.front_check.proofs.NodeSteps.{CutsFrom}
use Rattle.front_check.proofs.checking.judge_all_cuts.Given as goal

abbrev pub invariant-loop-index : goal.invariant-loop-index
invariant-loop-index l = CutsFrom (parts_by_outcomes l.bare l.outcomes) l.trees l.index
