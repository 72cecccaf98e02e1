use Rattle.std.proofs.Common.{ap, sym, subst, ◌∙◌, arith}
use Rattle.std.specs.Prelude.{Ok, None, ◌≡◌}
use Rattle.front_text.specs.Text.{front_code_in, after_line}
use Rattle.front_text.specs.Reading.{held_front, IsNarrowFrontStatement}
use Rattle.front_text.proofs.KeptLemmas.{handed_on, both_handed_on, all_handed_on, unchanged, point_noted, tree_noted, tree_kept, cut_noted, node_noted, node_kept, node_due, end_kept}
use Rattle.front_text.proofs.front_reading.FrontReading.note.Goals as goal

pub returns-in-Point-clause-stated : goal.returns-in-Point-clause-stated
returns-in-Point-clause-stated c =
    let old = c.args.self.now in
    all_handed_on c.add_point.result
    (λ outcomes waiting parts.
    point_noted old c.add_point.new.self parts.0 parts.6 c.in-Point.point outcomes waiting parts.1 parts.2 parts.3 parts.4
    ∙ ap (λ s. after_line (held_front old) (Ok s)) (sym c.in-Point.is))
    c.add_point.ensures.outcomes c.add_point.ensures.waiting c.add_point.ensures.parts

pub returns-in-Point-clause-kept : goal.returns-in-Point-clause-kept
returns-in-Point-clause-kept c =
    handed_on c.add_point.result (λ parts. unchanged parts.1 parts.4 parts.2 parts.6 parts.5 c.requires.kept) c.add_point.ensures.parts

pub returns-in-Tree-clause-stated : goal.returns-in-Tree-clause-stated
returns-in-Tree-clause-stated c =
    let old = c.args.self.now in
    all_handed_on c.begin_tree.result
    (λ trees last parts.
    tree_noted old c.begin_tree.new.self parts.0 parts.3 c.in-Tree.of parts.1 parts.2 trees last.0 last.1 last.2
    ∙ ap (λ s. after_line (held_front old) (Ok s)) (sym c.in-Tree.is))
    c.begin_tree.ensures.trees c.begin_tree.ensures.last c.begin_tree.ensures.parts

pub returns-in-Tree-clause-kept : goal.returns-in-Tree-clause-kept
returns-in-Tree-clause-kept c =
    let old = c.args.self.now in
    all_handed_on c.begin_tree.result
    (λ trees last parts.
    tree_kept old c.begin_tree.new.self c.in-Tree.of (subst (λ s. front_code_in (held_front old) (Ok s) ≡ None) c.in-Tree.is c.requires.clean) c.requires.kept trees last.2 parts.3)
    c.begin_tree.ensures.trees c.begin_tree.ensures.last c.begin_tree.ensures.parts

pub returns-in-Cut-clause-stated : goal.returns-in-Cut-clause-stated
returns-in-Cut-clause-stated c =
    let old = c.args.self.now in
    handed_on c.push.result (λ pushed. cut_noted old c.in-Cut.cut c.push.new.self pushed ∙ ap (λ s. after_line (held_front old) (Ok s)) (sym c.in-Cut.is)) c.push.ensures.pushed

pub returns-in-Cut-clause-kept : goal.returns-in-Cut-clause-kept
returns-in-Cut-clause-kept c = handed_on c.push.result (λ pushed. c.requires.kept) c.push.ensures.pushed

pub add_node-requires-clause-due : goal.add_node-requires-clause-due
add_node-requires-clause-due c =
    let old = c.args.self.now in
    let some = (node_due old c.in-Node.node (subst (λ s. front_code_in (held_front old) (Ok s) ≡ None) c.in-Node.is c.requires.clean)).1 in
    let counted = old.counted in
    omega (arith, some, counted)

pub returns-in-Node-clause-stated : goal.returns-in-Node-clause-stated
returns-in-Node-clause-stated c =
    let old = c.args.self.now in
    both_handed_on c.add_node.result
    (λ nodes parts.
    node_noted old c.add_node.new.self parts.0 parts.6 c.in-Node.node parts.1 parts.2 parts.3 parts.4 parts.5 nodes
    ∙ ap (λ s. after_line (held_front old) (Ok s)) (sym c.in-Node.is))
    c.add_node.ensures.nodes c.add_node.ensures.parts

pub returns-in-Node-clause-kept : goal.returns-in-Node-clause-kept
returns-in-Node-clause-kept c =
    let old = c.args.self.now in
    both_handed_on c.add_node.result
    (λ nodes parts.
    node_kept old c.add_node.new.self c.in-Node.node
    (subst (λ s. front_code_in (held_front old) (Ok s) ≡ None) c.in-Node.is c.requires.clean)
    (subst IsNarrowFrontStatement c.in-Node.is c.requires.narrow) c.requires.kept
    nodes parts.3 parts.6)
    c.add_node.ensures.nodes c.add_node.ensures.parts

pub returns-in-End-clause-kept : goal.returns-in-End-clause-kept
returns-in-End-clause-kept c =
    let old = c.args.self.now in
    end_kept old (subst (λ s. front_code_in (held_front old) (Ok s) ≡ None) c.in-End.is c.requires.clean) c.requires.kept
