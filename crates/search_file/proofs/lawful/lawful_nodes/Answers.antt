use Rattle.std.proofs.Common.{◌≡◌, ◌++◌, ◌<◌, ◌≤◌, ◌+◌, arith, subst, sym, ◌∙◌, drop}
use Rattle.search_file.specs.private.Lawful.{lawful_behind}
use Rattle.search_file.proofs.LawfulLemmas.{put-next, out-next, put-few, trees_out-few, behind-end}
use Rattle.search_file.proofs.lawful.lawful_nodes.Goals as goal
use Rattle.search_file.proofs.lawful.lawful_nodes.Goals.{then-out-eq0+in-Ok, else-out-eq0}

pub loop-node-preserved : goal.loop-node-preserved
loop-node-preserved c =
    let M = c.args.model.now in
    let nodes = c.args.nodes.now in
    let i = c.loop-node.node-index in
    let n = c.node-item.result in
    let all = lawful_behind M 0 nodes in
    elim c.if-out-eq0.branch [
      | then-out-eq0+in-Ok w ↦
          let zero : c.loop-node.out ≡ 0 = let h = w.if-out-eq0.true in omega (arith, h) in
          let out = w.in-Ok.gone in
          record {
            behind = (λ j. w.kept-is j ++ lawful_behind M (w.out-is j) (drop (i + 1) nodes))
                ∙ put-next M all nodes c.loop-node.kept i n c.loop-node-test.true c.node-item.is out w.put.new.kept
                (subst (λ k. c.loop-node.kept ++ lawful_behind M k (drop i nodes) ≡ all) zero c.loop-node.invariant.behind) w.in-Ok.ensures;
            few = subst (λ k. k ≤ i + 1 + 1) (sym w.out-is) (put-few M n c.loop-node.kept w.put.new.kept out i w.in-Ok.ensures);
          }
      | else-out-eq0 w ↦
          let some : 0 < c.loop-node.out = let h = w.if-out-eq0.false in omega (arith, h) in
          let out = w.out-is ∙ w.trees_out-out.ensures in
          record {
            behind = (λ j. w.kept-is j ++ lawful_behind M (out j) (drop (i + 1) nodes))
                ∙ out-next M all nodes c.loop-node.kept i n c.loop-node-test.true c.node-item.is c.loop-node.out some c.loop-node.invariant.behind;
            few = subst (λ k. k ≤ i + 1 + 1) (sym out) (trees_out-few M c.loop-node.out n i c.loop-node.invariant.few);
          }
    ]

pub returns : goal.returns
returns c =
    behind-end c.args.model.now (lawful_behind c.args.model.now 0 c.args.nodes.now) c.args.nodes.now c.loop-node.kept c.loop-node.out c.loop-node.node-index (omega (arith, c.loop-node-test.false)) c.loop-node.invariant.behind
