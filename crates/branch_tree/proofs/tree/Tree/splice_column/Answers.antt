use Rattle.std.proofs.Common.{ap, ◌∙◌}
use Rattle.branch_tree.specs.Held.{plain_of}
use Rattle.branch_tree.specs.private.Splicing.{spliced_tree}
use Rattle.branch_tree.proofs.HeldLemmas.{held, seen}
use Rattle.branch_tree.proofs.SpliceHeld.{is-ready, means-splice}
use Rattle.branch_tree.proofs.tree.Tree.splice_column.Goals as goal

pub splice_all-requires : goal.splice_all-requires
splice_all-requires c = (plain_of c.self.inside, is-ready c.self.inside c.self.invariant)

pub invariant_of-self : goal.invariant_of-self
invariant_of-self c =
    let i = c.self.inside in
    let of = c.splice_all.ensures.tree (plain_of i) (is-ready i c.self.invariant) in
    held _ _ (means-splice i c.self.invariant c.args.col c.splice_all.new.table c.sweep.new.self c.splice_all.new.root c.splice_all.new.opens of c.splice_all.ensures.keys c.sweep.ensures.table c.sweep.ensures.same c.sweep.ensures.live c.sweep.ensures.below c.sweep.ensures.nodes c.sweep.ensures.fewer c.sweep.ensures.capacity c.splice_all.new.lists c.splice_all.ensures.due c.splice_all.ensures.cut c.splice_all.ensures.due_room c.splice_all.ensures.cut_room c.len.result c.len.ensures)

pub returns : goal.returns
returns c =
    let i = c.self.inside in
    let of = c.splice_all.ensures.tree (plain_of i) (is-ready i c.self.invariant) in
    seen _ _ (means-splice i c.self.invariant c.args.col c.splice_all.new.table c.sweep.new.self c.splice_all.new.root c.splice_all.new.opens of c.splice_all.ensures.keys c.sweep.ensures.table c.sweep.ensures.same c.sweep.ensures.live c.sweep.ensures.below c.sweep.ensures.nodes c.sweep.ensures.fewer c.sweep.ensures.capacity c.splice_all.new.lists c.splice_all.ensures.due c.splice_all.ensures.cut c.splice_all.ensures.due_room c.splice_all.ensures.cut_room c.len.result c.len.ensures) ∙ ap (spliced_tree c.args.col) c.self.view_is
