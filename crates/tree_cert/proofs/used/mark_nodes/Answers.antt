use Rattle.std.proofs.Common.{◌≡◌, length, take, sym, ap, subst, ◌∙◌, arith}
use Rattle.std.specs.Prelude.{All}
use Rattle.std.proofs.lemmas.List.{take_all}
use Rattle.kept_cuts.proofs.KeptLemmas.{take-next}
use Rattle.tree_cert.specs.Cuts.{node_mults, IsOfFirst}
use Rattle.tree_cert.specs.private.Marked.{marks_of, marks_in, NodeNamesFirst}
use Rattle.tree_cert.proofs.UsedLaws.{nodes-push, nodes-length}
use Rattle.tree_cert.proofs.used.mark_nodes.Goals as goal

pub mark_all-requires : goal.mark_all-requires
mark_all-requires c =
    let nodes = c.args.nodes.now in
    let i = c.loop-node.node-index in
    let n = c.node-item.result in
    let size : length c.loop-node.marks ≡ length c.args.marks.now = ap length c.loop-node.invariant ∙ nodes-length c.args.marks.now (take i nodes) in
    let own : NodeNamesFirst (length c.args.marks.now) n = subst (NodeNamesFirst (length c.args.marks.now)) (sym c.node-item.is) (c.requires i n c.loop-node-test.true) in
    subst (λ k. All (IsOfFirst k) c.node_mults.result.now) (sym size) (subst (All (IsOfFirst (length c.args.marks.now))) (sym c.node_mults.ensures) own)

pub loop-node-preserved : goal.loop-node-preserved
loop-node-preserved c =
    let nodes = c.args.nodes.now in
    let i = c.loop-node.node-index in
    let n = c.node-item.result in
    c.mark_all.ensures
    ∙ ap (marks_of c.loop-node.marks) c.node_mults.ensures
    ∙ ap (λ marks. marks_of marks (node_mults n)) c.loop-node.invariant
    ∙ sym (nodes-push c.args.marks.now (take i nodes) n)
    ∙ ap (marks_in c.args.marks.now) (sym (take-next nodes i n c.loop-node-test.true c.node-item.is))

pub returns : goal.returns
returns c = c.loop-node.invariant ∙ ap (marks_in c.args.marks.now) (take_all c.loop-node.node-index c.args.nodes.now (omega (arith, c.loop-node-test.false)))
