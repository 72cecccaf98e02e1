use Rattle.std.proofs.Common.{◌∙◌, sym, subst, ap, arith, length}
use Rattle.std.specs.Prelude.{List, All}
use Rattle.std.proofs.lemmas.List.Elements.{All-weaker}
use Rattle.lp_model.specs.declared.types.Derivation.{Derivation}
use Rattle.branch_tree.specs.Preorder.{HasNodeBound}
use Rattle.branch_tree.specs.declared.node.NodeData.{NodeData}
use Rattle.search_file.specs.Saved.{stated_formulation, IsRestorableNode}
use Rattle.search_file.specs.private.Saved.{IsPoolFrom}
use Rattle.search_file.proofs.TreeLemmas.{node-bound}
use Rattle.search_file.proofs.restoring.parts_of.Goals as goal

pub pool_of-requires : goal.pool_of-requires
pool_of-requires c = let e = ap length c.as_slice.ensures in omega (arith, e, c.requires.few_cuts)

pub tree_of-requires-clause-whole : goal.tree_of-requires-clause-whole
tree_of-requires-clause-whole c = let (t, is) = c.requires.tree in (t, is ∙ sym c.as_slice-2.ensures)

pub tree_of-requires-clause-bounds : goal.tree_of-requires-clause-bounds
tree_of-requires-clause-bounds c =
    let F = stated_formulation c.args.stated.now in
    subst (λ (ns : List NodeData). All HasNodeBound ns) (sym c.as_slice-2.ensures) (All-weaker (IsRestorableNode F) HasNodeBound (node-bound F) c.args.stated.now.nodes c.requires.nodes)

pub returns-clause-pool : goal.returns-clause-pool
returns-clause-pool c = subst (λ (ds : List Derivation). IsPoolFrom c.args.stated.now.model ds c.in-Ok.pool) c.as_slice.ensures c.in-Ok.ensures

pub returns-clause-tree : goal.returns-clause-tree
returns-clause-tree c t is = c.in-Ok-tree_of.ensures t (is ∙ sym c.as_slice-2.ensures)
