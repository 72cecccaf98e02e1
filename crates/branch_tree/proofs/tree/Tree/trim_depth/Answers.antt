use Rattle.std.proofs.Common.{◌∙◌}
use Rattle.branch_tree.proofs.TrimHeld.{is-trim}
use Rattle.branch_tree.proofs.tree.Tree.trim_depth.Goals as goal

pub returns : goal.returns
returns c = c.collapse_chosen.ensures ∙ is-trim c.args.self.now c.args.depth
