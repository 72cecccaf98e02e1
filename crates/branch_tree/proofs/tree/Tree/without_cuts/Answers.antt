use Rattle.std.proofs.Common.{◌≡◌, IfOk, subst}
use Rattle.branch_tree.specs.Numbered.{NumberedTree}
use Rattle.branch_tree.proofs.RelistedTrees.{cuts-relisted}
use Rattle.branch_tree.proofs.tree.Tree.without_cuts.Goals as goal

-- where the loan of the counted cuts points is of no account
pub returns : goal.returns
returns c = subst (λ (T : NumberedTree). IfOk c.relisted-left.result (λ t. t ≡ T)) (cuts-relisted (record { ref_ptr = (0, 0); now = c.in-Ok.counted }) c.args.gone.now c.in-Ok.ensures.cuts c.args.self) c.relisted-left.ensures
