use Rattle.std.proofs.Common.{◌∙◌}
use Rattle.branch_tree.proofs.HeldLemmas.{held, seen}
use Rattle.branch_tree.proofs.CopyLemmas.{means-copied}
use Rattle.branch_tree.proofs.tree.Tree.copy.Goals as goal

pub invariant_of-result : goal.invariant_of-result
invariant_of-result c =
    let s = c.in-Ok.ensures in
    let l = c.in-Ok-reserve.ensures in
    held _ _ (means-copied c.self.inside c.self.invariant c.in-Ok.table s.slots s.keys s.len s.capacity c.reserve.new.self l.due l.cut l.due_room l.cut_room)

pub returns : goal.returns
returns c =
    let s = c.in-Ok.ensures in
    let l = c.in-Ok-reserve.ensures in
    seen _ _ (means-copied c.self.inside c.self.invariant c.in-Ok.table s.slots s.keys s.len s.capacity c.reserve.new.self l.due l.cut l.due_room l.cut_room) ∙ c.self.view_is
