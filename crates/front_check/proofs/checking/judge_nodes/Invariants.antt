use Rattle.front_check.specs.private.Parts.{parts_by_outcomes}
use Rattle.front_check.proofs.NodeSteps.{PassFrom, FailFrom}
use Rattle.front_check.proofs.checking.judge_nodes.Given as goal

abbrev pub invariant-loop-index : goal.invariant-loop-index
invariant-loop-index l = record {
  pass : PassFrom (parts_by_outcomes l.bare l.outcomes) l.trees l.index;
  fail : FailFrom (parts_by_outcomes l.bare l.outcomes) l.trees l.index l.before;
}
