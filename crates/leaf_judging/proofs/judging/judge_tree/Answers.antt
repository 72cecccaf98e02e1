use Rattle.leaf_judging.proofs.judging.judge_tree.Goals as goal

pub returns-in-Ok-judge_again-clause-count : goal.returns-in-Ok-judge_again-clause-count
returns-in-Ok-judge_again-clause-count g c = c.in-Ok-judge_again.ensures.count

pub returns-in-Ok-judge_again-clause-states : goal.returns-in-Ok-judge_again-clause-states
returns-in-Ok-judge_again-clause-states g c = c.in-Ok-judge_again.ensures.states c.args.pool.now c.in-Ok.ensures.numbers

pub returns-in-Ok-judge_again-clause-queue : goal.returns-in-Ok-judge_again-clause-queue
returns-in-Ok-judge_again-clause-queue g c = c.in-Ok-judge_again.ensures.queue c.args.pool.now c.in-Ok.ensures.numbers
