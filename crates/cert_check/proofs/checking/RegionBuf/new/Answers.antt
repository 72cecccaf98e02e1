use Rattle.std.proofs.Common.{◌≤◌, ap, subst, length, arith}
use Rattle.std.proofs.lemmas.Result.{IfOk-at_ok, IfOk-weaker}
use Rattle.cert_check.specs.Cuts.{AreCutsFound}
use Rattle.tight_regions.specs.Tight.{IsTrail, room}
use Rattle.cert_check.specs.Walk.{AreNodesPlaced, IsPointOf, IsBufferOf}
use Rattle.cert_check.specs.declared.checking.RegionBuf.{RegionBuf}
use Rattle.cert_check.proofs.checking.RegionBuf.new.Goals as goal

pub returns : goal.returns
returns c =
    let M = c.args.model.now in
    let cert = c.args.cert.now in
    let named = c.as_slice-named.result.now in
    let stated = c.as_slice-stated.result.now in
    let few : length cert.cuts ≤ 4294967296 = let same = ap length c.as_slice-named.ensures in omega (arith, same, c.if-count-gt-MOST_CUTS.false) in
    IfOk-weaker c.buffer_of.result _ (IsBufferOf M cert)
    (λ (buf : RegionBuf) is.
    let nodes : AreNodesPlaced M (length named) stated buf.nodes.items = IfOk-at_ok (λ all. AreNodesPlaced M (length named) stated all.items) is.1 c.placed_nodes-nodes.ensures in
    record {
      cuts = subst (λ cs. AreCutsFound M cs buf.cuts) c.as_slice-named.ensures (IfOk-at_ok (AreCutsFound M named) is.0 c.cut_rows-cuts.ensures);
      few = few;
      nodes = subst (λ ns. AreNodesPlaced M (length cert.cuts) ns buf.nodes.items) c.as_slice-stated.ensures (subst (λ cs. AreNodesPlaced M (length cs) stated buf.nodes.items) c.as_slice-named.ensures nodes);
      trail = IfOk-at_ok IsTrail is.2 c.new-trail.ensures.trail;
      room = subst (λ ns. length ns ≤ room buf.trail) c.as_slice-stated.ensures (IfOk-at_ok (λ t. length stated ≤ room t) is.2 c.new-trail.ensures.room);
      point = subst (λ ns. IsPointOf M ns buf.point) c.as_slice.ensures (IfOk-at_ok (IsPointOf M c.as_slice.result.now) is.3 c.point-found.ensures);
      ray = subst (λ ns. IsPointOf M ns buf.ray) c.as_slice-2.ensures (IfOk-at_ok (IsPointOf M c.as_slice-2.result.now) is.4 c.point-ray.ensures);
    })
    c.buffer_of.ensures
