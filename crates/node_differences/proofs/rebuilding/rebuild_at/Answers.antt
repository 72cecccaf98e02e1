use Rattle.std.proofs.Common.{◌≡◌, ◌<◌, List, length, get_or, set, ap, sym, ◌∙◌, arith}
use Rattle.std.proofs.lemmas.List.{length-set}
use Rattle.branch_tree.specs.Preorder.{SplitData}
use Rattle.branch_tree.specs.declared.node.NodeData.{NodeData}
use Rattle.node_differences.specs.Told.{node_lists, with_lists, due_behind}
use Rattle.node_differences.specs.Above.{node_at_place, lists_due}
use Rattle.node_differences.proofs.RebuildLemmas.{node-read, rebuild-put}
use Rattle.node_differences.proofs.rebuilding.rebuild_at.Goals as goal

pub returns-in-Ok-put_split : goal.returns-in-Ok-put_split
returns-in-Ok-put_split c = λ was r.
    let now : List NodeData = c.args.nodes.now in
    let place = c.args.place in
    let above = c.next_split-above in
    let l : SplitData = record { mult = c.in-Ok.lists.0; basis = c.in-Ok.lists.1 } in
    let new : List NodeData = set now place c.set_lists.new.node in
    let read = node-read now place c.index-nodes-place.result c.requires c.index-nodes-place.is in
    let made : new ≡ set now place (with_lists l (node_at_place now place)) = ap (set now place) (c.set_lists.ensures ∙ ap (with_lists l) (sym c.index-nodes-place.is ∙ read)) in
    let node = get_or new place c.index-nodes-place-2.result in
    let is = ap (λ d. get_or new place d) c.index-nodes-place-2.is in
    let below : place < length new = let same = length-set now place c.set_lists.new.node in omega (arith, same, c.requires) in
    let put : lists_due new c.put_split.new.due.items ≡ due_behind (node_lists node) (lists_due new above.new.due.items) node =
    c.in-Ok-put_split.ensures.lists new (sym (node-read new place node below is)) in
    rebuild-put was now c.args.due.now.items place c.requires r above.result l new above.new.due.items c.put_split.new.due.items (above.ensures.next now) (above.ensures.rest now) (above.ensures.kept place r.below) c.in-Ok.ensures made node is put (c.in-Ok-put_split.ensures.kept (above.ensures.kept place r.below))

pub lists_of-requires : goal.lists_of-requires
lists_of-requires c = c.requires

pub returns-in-Err-Memory : goal.returns-in-Err-Memory
returns-in-Err-Memory c = λ was r. tt

pub returns-in-Err : goal.returns-in-Err
returns-in-Err c = λ was r. tt
