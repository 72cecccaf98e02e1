use Rattle.std.proofs.Common.{codes}
use Rattle.warm_file.specs.Faults.{fault, at_key, at_item}
use Rattle.warm_file.proofs.reading.idle_change.Goals as goal

pub returns : goal.returns
returns c =
    let in_mult = at_item c.args.change (fault 13) in
    let under_mult = at_key (codes "mult") in_mult in
    c.at_key-2.ensures (at_item c.args.node under_mult)
    (c.at_item-in_node.ensures under_mult (c.at_key.ensures in_mult (c.at_item-in_mult.ensures (fault 13) c.bad.ensures)))
