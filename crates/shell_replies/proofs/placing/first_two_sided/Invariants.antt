use Rattle.std.proofs.Common.{All, take}
use Rattle.shell_replies.specs.private.Placing.{HasOneNumberAt}
use Rattle.shell_replies.proofs.placing.first_two_sided.Given as goal

abbrev pub invariant-loop-index : goal.invariant-loop-index
invariant-loop-index l = All (HasOneNumberAt l.rows) (take l.index l.sides)
