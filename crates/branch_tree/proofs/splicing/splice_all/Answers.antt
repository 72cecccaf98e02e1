use Rattle.std.proofs.Common.{◌∷◌, refl, sym, ap, ◌∙◌}
use Rattle.std.proofs.lemmas.List.{nil_from_length}
use Rattle.branch_tree.specs.private.Splicing.{spliced}
use Rattle.branch_tree.specs.private.Spliced.{due_ids}
use Rattle.branch_tree.proofs.SpliceWalk.{due_ids-push, splicing-begins, splicing-same, splicing-ends}
use Rattle.branch_tree.proofs.splicing.splice_all.Goals as goal

pub loop-due-init : goal.loop-due-init
loop-due-init c = record {
  keys = refl;
  due_room = c.push_reserved.ensures.capacity;
  cut_room = refl;
  walk = λ T ready.
      splicing-begins c.args.table.now c.args.root.now c.args.opens.now c.args.lists.now (record { due = c.push_reserved.new.self; cut = c.args.lists.now.cut }) c.args.col T ready c.push_reserved.ensures.capacity refl
      (ap due_ids c.push_reserved.ensures.items ∙ due_ids-push c.args.lists.now.due.items _ ∙ ap (λ (l : _). c.args.root.now ∷ due_ids l) ready.due);
}

pub splice_next-requires : goal.splice_next-requires
splice_next-requires c = (
  spliced c.args.col c.requires.0,
  splicing-same c.loop-due.table c.loop-due.root c.loop-due.opens (due_ids c.loop-due.lists.due.items) _ c.loop-due.lists (record { due = c.pop.new.self; cut = c.loop-due.lists.cut }) c.args.col (spliced c.args.col c.requires.0) (c.loop-due.invariant.walk c.requires.0 c.requires.1) (ap due_ids c.in-Some.ensures.items ∙ due_ids-push c.pop.new.self.items c.in-Some.due) c.pop.ensures.capacity refl,
)

pub loop-due-preserved : goal.loop-due-preserved
loop-due-preserved c = record {
  keys = c.splice_next.ensures.keys ∙ c.loop-due.invariant.keys;
  due_room = c.splice_next.ensures.due ∙ c.pop.ensures.capacity ∙ c.loop-due.invariant.due_room;
  cut_room = c.splice_next.ensures.cut ∙ c.loop-due.invariant.cut_room;
  walk = λ T ready.
      c.splice_next.ensures.walk (spliced c.args.col T)
      (splicing-same c.loop-due.table c.loop-due.root c.loop-due.opens (due_ids c.loop-due.lists.due.items) _ c.loop-due.lists (record { due = c.pop.new.self; cut = c.loop-due.lists.cut }) c.args.col (spliced c.args.col T) (c.loop-due.invariant.walk T ready) (ap due_ids c.in-Some.ensures.items ∙ due_ids-push c.pop.new.self.items c.in-Some.due) c.pop.ensures.capacity refl);
}

pub returns-clause-tree : goal.returns-clause-tree
returns-clause-tree c = λ T ready.
    splicing-ends c.loop-due.table c.loop-due.root c.loop-due.opens (due_ids c.loop-due.lists.due.items) c.loop-due.lists c.args.col (spliced c.args.col T) (c.loop-due.invariant.walk T ready) (ap due_ids (nil_from_length c.loop-due.lists.due.items (sym c.loop-due.lists.due.ok.0 ∙ c.in_default.ensures.cases.0)))
