use Rattle.std.proofs.Common.{◌≡◌, ◌≤◌, ◌++◌, ◌∷◌, [], sym, ap, ◌∙◌, arith, length}
use Rattle.std.proofs.lemmas.List.{nil_from_length}
use Rattle.slab.specs.Slab.{slab_len}
use Rattle.lp_model.specs.Regions.{Path}
use Rattle.tight_regions.specs.Tight.{path_of_trail}
use Rattle.branch_tree.specs.Tree.{node_count}
use Rattle.branch_tree.specs.Table.{node_at}
use Rattle.branch_tree.specs.private.Paths.{due_below, VisitsNode}
use Rattle.branch_tree.proofs.TrailPaths.{path-long, narrow-region}
use Rattle.branch_tree.proofs.VisitingLemmas.{visited-none, visited-all, node-coming, narrow-coming, visit-step, visit-smaller}
use Rattle.branch_tree.proofs.visiting.visit_below.Goals as goal

pub loop-next-init : goal.loop-next-init
loop-next-init g c = record {
  trail = c.in_ok-trail.ensures.trail;
  visited = λ opens T of narrow.
      visited-none g.V.LeafVisitor.step c.args.table.now c.args.root opens T (path_of_trail c.in_ok-trail.trail) c.push.new.self.items c.args.visitor.now of narrow c.in_ok-trail.ensures.root (c.in-Ok.ensures.items ∙ ap (λ l. l ++ record { id = c.args.root; above = 0 } ∷ []) c.new-due.ensures.items);
}

pub unreachable-requires : goal.unreachable-requires
unreachable-requires g c =
    let r = c.requires in
    let h = c.loop-next.invariant.visited r.0 r.1.0 r.1.1.0 r.1.1.1 in
    let found = node-coming g.V.LeafVisitor.step (node_at c.args.table.now) (path_of_trail c.loop-next.trail) c.loop-next.due.items c.pop.new.self.items c.in-Some.next c.args.visitor.now c.loop-next.visitor r.1.0 h c.in-Some.ensures.items in
    let none = c.in_default-get.ensures in
    cc

pub visit_node-requires : goal.visit_node-requires
visit_node-requires g c =
    let r = c.requires in
    let h = c.loop-next.invariant.visited r.0 r.1.0 r.1.1.0 r.1.1.1 in
    let n = c.in-Some-get.node.now in
    narrow-region c.region.result.now (path_of_trail c.enter.new.trail) n.kind c.region.ensures.narrow
    (narrow-coming g.V.LeafVisitor.step (node_at c.args.table.now) (path_of_trail c.loop-next.trail) c.loop-next.due.items c.pop.new.self.items c.in-Some.next c.args.visitor.now c.loop-next.visitor r.1.0 h c.in-Some.ensures.items n (sym c.in-Some-get.ensures) (path_of_trail c.enter.new.trail) c.in-Ok-enter.ensures.path)

pub loop-next-preserved : goal.loop-next-preserved
loop-next-preserved g c =
    let at : Path = path_of_trail c.enter.new.trail in
    record {
      trail = c.enter.ensures.trail;
      visited = λ opens T of narrow.
          let h = c.loop-next.invariant.visited opens T of narrow in
          let n = c.in-Some-get.node.now in
          let due_is : c.visit_node.new.due.items ≡ due_below (length at) n.kind c.pop.new.self.items =
          c.in-Ok-visit_node.ensures.due ∙ ap (λ depth. due_below depth n.kind c.pop.new.self.items) (c.depth-depth.ensures ∙ sym (path-long c.enter.new.trail c.enter.ensures.trail)) in
          let made : VisitsNode g.V.LeafVisitor.step at n.id n.kind c.loop-next.visitor c.visit_node.new.visitor = c.in-Ok-visit_node.ensures.visits at c.region.ensures.bounds in
          (visit-step g.V.LeafVisitor.step (node_at c.args.table.now) (path_of_trail c.loop-next.trail) c.loop-next.due.items c.pop.new.self.items c.in-Some.next c.args.visitor.now c.loop-next.visitor T h c.in-Some.ensures.items n (sym c.in-Some-get.ensures) at c.in-Ok-enter.ensures.path c.visit_node.new.due.items c.visit_node.new.visitor due_is made).after;
    }

pub loop-next-smaller : goal.loop-next-smaller
loop-next-smaller g c =
    let at : Path = path_of_trail c.enter.new.trail in
    let r = c.requires in
    let T = r.1.0 in
    let h = c.loop-next.invariant.visited r.0 T r.1.1.0 r.1.1.1 in
    let n = c.in-Some-get.node.now in
    let due_is : c.visit_node.new.due.items ≡ due_below (length at) n.kind c.pop.new.self.items =
    c.in-Ok-visit_node.ensures.due ∙ ap (λ depth. due_below depth n.kind c.pop.new.self.items) (c.depth-depth.ensures ∙ sym (path-long c.enter.new.trail c.enter.ensures.trail)) in
    let made : VisitsNode g.V.LeafVisitor.step at n.id n.kind c.loop-next.visitor c.visit_node.new.visitor = c.in-Ok-visit_node.ensures.visits at c.region.ensures.bounds in
    let few : node_count T ≤ slab_len c.args.table.now.nodes = omega (arith, r.1.1.0.stored) in
    visit-smaller g.V.LeafVisitor.step (node_at c.args.table.now) (path_of_trail c.loop-next.trail) c.loop-next.due.items c.pop.new.self.items c.in-Some.next c.args.visitor.now c.loop-next.visitor T h c.in-Some.ensures.items n (sym c.in-Some-get.ensures) at c.in-Ok-enter.ensures.path c.visit_node.new.due.items c.visit_node.new.visitor (slab_len c.args.table.now.nodes) few
    (visit-step g.V.LeafVisitor.step (node_at c.args.table.now) (path_of_trail c.loop-next.trail) c.loop-next.due.items c.pop.new.self.items c.in-Some.next c.args.visitor.now c.loop-next.visitor T h c.in-Some.ensures.items n (sym c.in-Some-get.ensures) at c.in-Ok-enter.ensures.path c.visit_node.new.due.items c.visit_node.new.visitor due_is made)

pub returns : goal.returns
returns g c = λ opens T of narrow.
    visited-all g.V.LeafVisitor.step (node_at c.args.table.now) (path_of_trail c.loop-next.trail) c.loop-next.due.items c.args.visitor.now c.loop-next.visitor T (c.loop-next.invariant.visited opens T of narrow) (nil_from_length c.loop-next.due.items (sym c.loop-next.due.ok.0 ∙ c.in_default-pop.ensures.cases.0))
