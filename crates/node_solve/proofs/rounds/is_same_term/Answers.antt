use Rattle.std.proofs.Common.{ap}
use Rattle.node_solve.proofs.TaskLemmas.{is_not, term_is}
use Rattle.node_solve.proofs.rounds.is_same_term.Goals as goal

pub returns-then-first-second : goal.returns-then-first-second
returns-then-first-second c = is_not (λ e. c.if-first-second.true (ap (λ t. t.0.0) e))

pub returns : goal.returns
returns c = (
  (λ t. term_is c.args.first.now c.args.second.now c.if-first-second.false (c.is_equal.ensures.0 t)),
  (λ e. c.is_equal.ensures.1 (ap (λ t. t.1) e)),
)
