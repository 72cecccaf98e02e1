use Rattle.std.proofs.Common.{[], sym, subst}
use Rattle.std.proofs.lemmas.Result.{IfOk-weaker}
use Rattle.branch_tree.specs.Tree.{HasNarrowSplits}
use Rattle.branch_tree.specs.Leaves.{region_leaves}
use Rattle.branch_tree.specs.Visits.{Visits}
use Rattle.branch_tree.specs.Numbered.{NumberedTree}
use Rattle.branch_tree.specs.Held.{plain_of}
use Rattle.branch_tree.proofs.tree.Tree.visit_leaves.Goals as goal

pub visit_below-requires : goal.visit_below-requires
visit_below-requires g c =
    (c.self.inside.still_open, (plain_of c.self.inside, (c.self.invariant.nodes, subst (λ (T : NumberedTree). HasNarrowSplits T.root) (sym c.self.view_is) c.requires)))

pub returns-clause-visits : goal.returns-clause-visits
returns-clause-visits g c =
    IfOk-weaker c.visit_below.result _ _
    (λ _ visits. subst (λ (T : NumberedTree). Visits g.V.LeafVisitor.step (region_leaves [] T.root) c.args.visitor.now c.visit_below.new.visitor) c.self.view_is
    (visits c.self.inside.still_open (plain_of c.self.inside) c.self.invariant.nodes (subst (λ (T : NumberedTree). HasNarrowSplits T.root) (sym c.self.view_is) c.requires)))
    c.visit_below.ensures
