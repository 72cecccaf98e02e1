use Rattle.std.proofs.Common.{length, sym, subst, ap, arith, ◌∙◌}
use Rattle.leaf_dual.specs.Dual.{HavePlaces}
use Rattle.cert_check.specs.Walk.{AreNodesPlaced}
use Rattle.cert_check.proofs.ClaimVerdicts.{tree_there, head_rejected, head_wide, head_accepted, head-cuts, rows-are, rows-places, tree-walked, tree_verdict}
use Rattle.cert_check.proofs.checking.check.Goals as goal

pub returns-in-Breaks-clause-verdict : goal.returns-in-Breaks-clause-verdict
returns-in-Breaks-clause-verdict c =
    let cert = c.args.cert.now in
    head_rejected c.args.model.now cert c.requires.certificate c.in-Breaks.why
    (c.in-Breaks.ensures cert.point cert.ray cert.cuts c.requires.buffer.point c.requires.buffer.ray c.requires.buffer.cuts)

pub returns-in-NoRoom-clause-verdict : goal.returns-in-NoRoom-clause-verdict
returns-in-NoRoom-clause-verdict c =
    let cert = c.args.cert.now in
    head_wide c.args.model.now cert c.requires.certificate c.in-NoRoom.step
    (c.in-NoRoom.ensures cert.point cert.ray cert.cuts c.requires.buffer.point c.requires.buffer.ray c.requires.buffer.cuts)

pub check_nodes-requires-clause-places : goal.check_nodes-requires-clause-places
check_nodes-requires-clause-places c =
    subst HavePlaces (sym c.standing_rows-cuts.ensures) (rows-places c.args.model.now c.args.cert.now.cuts c.args.buf.now.cuts c.requires.buffer.cuts c.requires.buffer.few)

pub check_nodes-requires-clause-tree : goal.check_nodes-requires-clause-tree
check_nodes-requires-clause-tree c =
    let M = c.args.model.now in
    let cert = c.args.cert.now in
    let t = tree_there cert.claim cert.nodes (sym c.has_tree.ensures ∙ c.if-has_tree.true) c.requires.certificate.tree in
    let judged = c.in-Passes.ensures cert.point cert.ray cert.cuts c.requires.buffer.point c.requires.buffer.ray c.requires.buffer.cuts in
    let rows = c.standing_rows-cuts.ensures ∙ rows-are M cert.cuts c.args.buf.now.cuts c.requires.buffer.cuts (head-cuts M cert.claim cert.point cert.ray cert.cuts judged) in
    (t.tree, tree-walked M cert c.requires.certificate t c.deref.result.now c.standing_rows-cuts.result.now rows (subst (λ ps. AreNodesPlaced M (length cert.cuts) cert.nodes ps) (sym c.deref.ensures.value) c.requires.buffer.nodes))

pub returns-then-has_tree-clause-verdict : goal.returns-then-has_tree-clause-verdict
returns-then-has_tree-clause-verdict c =
    let M = c.args.model.now in
    let cert = c.args.cert.now in
    let some = sym c.has_tree.ensures ∙ c.if-has_tree.true in
    let t = tree_there cert.claim cert.nodes some c.requires.certificate.tree in
    let judged = c.in-Passes.ensures cert.point cert.ray cert.cuts c.requires.buffer.point c.requires.buffer.ray c.requires.buffer.cuts in
    let rows = c.standing_rows-cuts.ensures ∙ rows-are M cert.cuts c.args.buf.now.cuts c.requires.buffer.cuts (head-cuts M cert.claim cert.point cert.ray cert.cuts judged) in
    tree_verdict M cert c.requires.certificate some judged t c.check_nodes.result c.standing_rows-cuts.result.now rows
    (c.check_nodes.ensures.verdict t.tree (tree-walked M cert c.requires.certificate t c.deref.result.now c.standing_rows-cuts.result.now rows (subst (λ ps. AreNodesPlaced M (length cert.cuts) cert.nodes ps) (sym c.deref.ensures.value) c.requires.buffer.nodes)))

pub returns-else-has_tree-clause-verdict : goal.returns-else-has_tree-clause-verdict
returns-else-has_tree-clause-verdict c =
    let cert = c.args.cert.now in
    head_accepted c.args.model.now cert c.requires.certificate (sym c.has_tree.ensures ∙ c.if-has_tree.false)
    (c.in-Passes.ensures cert.point cert.ray cert.cuts c.requires.buffer.point c.requires.buffer.ray c.requires.buffer.cuts)

pub returns-in-Breaks-clause-buffer : goal.returns-in-Breaks-clause-buffer
returns-in-Breaks-clause-buffer c = c.requires.buffer

pub returns-in-NoRoom-clause-buffer : goal.returns-in-NoRoom-clause-buffer
returns-in-NoRoom-clause-buffer c = c.requires.buffer

pub check_nodes-requires-clause-trail : goal.check_nodes-requires-clause-trail
check_nodes-requires-clause-trail c = c.requires.buffer.trail

pub check_nodes-requires-clause-room : goal.check_nodes-requires-clause-room
check_nodes-requires-clause-room c =
    let nodes = c.requires.buffer.nodes.0 in
    let room = c.requires.buffer.room in
    let same = ap length c.deref.ensures.value in
    omega (arith, nodes, room, same)

pub returns-then-has_tree-clause-buffer : goal.returns-then-has_tree-clause-buffer
returns-then-has_tree-clause-buffer c =
    let b = c.requires.buffer in
    record {
      cuts = b.cuts;
      few = b.few;
      nodes = b.nodes;
      trail = c.check_nodes.ensures.trail;
      room = let same = c.check_nodes.ensures.room in let room = b.room in omega (arith, same, room);
      point = b.point;
      ray = b.ray;
    }

pub returns-else-has_tree-clause-buffer : goal.returns-else-has_tree-clause-buffer
returns-else-has_tree-clause-buffer c = c.requires.buffer
