use Rattle.std.proofs.lemmas.Result.{IfOk-weaker}
use Rattle.front_check.proofs.checking.judge_nodes_at.Goals as goal

pub judge_tree-verdict-requires-clause-cuts : goal.judge_tree-verdict-requires-clause-cuts
judge_tree-verdict-requires-clause-cuts c = c.requires.cuts c.in-Ok.part c.in-Ok.ensures

pub returns : goal.returns
returns c = IfOk-weaker c.judge_tree-verdict.result _ _ (λ v h. record { part = c.in-Ok.part; is = c.in-Ok.ensures; verdict = h }) c.judge_tree-verdict.ensures
