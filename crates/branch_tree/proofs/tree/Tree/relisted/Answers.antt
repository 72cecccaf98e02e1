use Rattle.std.proofs.Common.{ap, ◌∙◌}
use Rattle.branch_tree.specs.private.Relisted.{tree_left_by}
use Rattle.branch_tree.proofs.HeldLemmas.{held, seen}
use Rattle.branch_tree.proofs.RelistLemmas.{means-relisted}
use Rattle.branch_tree.proofs.tree.Tree.relisted.Goals as goal

pub invariant_of-result : goal.invariant_of-result
invariant_of-result c =
    let e = c.in-Ok.ensures in
    held _ _ (means-relisted c.args.gone.now c.self.inside c.self.invariant c.relist.new.self e.all e.table e.live e.len e.keys)

pub returns : goal.returns
returns c =
    let e = c.in-Ok.ensures in
    seen _ _ (means-relisted c.args.gone.now c.self.inside c.self.invariant c.relist.new.self e.all e.table e.live e.len e.keys) ∙ ap (tree_left_by c.args.gone.now) c.self.view_is
