use Rattle.serde_json.specs.View.{view}
use Rattle.warm_writer.proofs.TreeLoop.{value-here, due-here}
use Rattle.warm_writer.proofs.tree.value_at.Goals as goal

pub returns-in-Ok-put_split-clause-value : goal.returns-in-Ok-put_split-clause-value
returns-in-Ok-put_split-clause-value c =
    let nodes = c.args.nodes.now in
    value-here nodes c.args.due.now.items c.args.place c.index-nodes-place.result c.requires c.index-nodes-place.is c.next_split-split.result _ (view c.in-Ok.value) (c.next_split-split.ensures.next nodes) c.split_above-above.ensures c.in-Ok.ensures

pub returns-in-Ok-put_split-clause-due : goal.returns-in-Ok-put_split-clause-due
returns-in-Ok-put_split-clause-due c =
    let nodes = c.args.nodes.now in
    due-here nodes c.args.due.now.items c.args.place c.index-nodes-place.result c.requires c.index-nodes-place.is c.next_split-split.new.due.items c.put_split.new.due.items (c.next_split-split.ensures.rest nodes) (c.in-Ok-put_split.ensures.lists nodes)
