use Rattle.std.proofs.Common.{◌∙◌, vec_capacity, refl, sym, arith}
use Rattle.std.proofs.lemmas.List.{nil_from_length}
use Rattle.branch_tree.proofs.TrimLemmas.{trim-none, trim-smaller, trim-all, trim-last, trim-below, trim-room, trim-fits, trim-can, trim-chosen}
use Rattle.branch_tree.proofs.trimming.collapse_all.Goals as goal

pub loop-next-init : goal.loop-next-init
loop-next-init c = record {
  below = c.requires.tree.1.below;
  cut = c.requires.tree.1.cut;
  cut_room = refl;
  due_room = c.push_reserved.ensures.capacity;
  so_far = λ T h. trim-none c.args.table.now c.args.root.now c.args.opens.now c.args.lists.now c.args.chosen c.args.depth c.args.last T h c.push_reserved.new.self.items c.push_reserved.ensures.items;
}

pub overflow_add-given : goal.overflow_add-given
overflow_add-given c =
    let can = c.requires.tree.1 in
    let h = c.loop-next.invariant.so_far c.requires.tree.0 can in
    omega (arith, trim-fits _ _ _ _ _ _ _ _ _ h c.in-Some.next c.pop.new.self.items c.in-Some.ensures.items c.in-Some-get.node.now (sym c.in-Some-get.ensures) (sym c.is_chosen.ensures ∙ c.if-is_chosen.true) can.ids)

pub collapse_at-requires : goal.collapse_at-requires
collapse_at-requires c =
    let can = c.requires.tree.1 in
    let inv = c.loop-next.invariant in
    let h = inv.so_far c.requires.tree.0 can in
    record {
      tree = (h.tree, trim-can _ _ _ _ _ _ _ _ _ h c.in-Some.next c.pop.new.self.items c.in-Some.ensures.items c.in-Some-get.node.now (sym c.in-Some-get.ensures) (sym c.is_chosen.ensures ∙ c.if-is_chosen.true) _ _ inv.cut (omega (arith, inv.cut_room, can.cut_room)) inv.below can.few);
    }

pub loop-next-preserved-then-is_chosen : goal.loop-next-preserved-then-is_chosen
loop-next-preserved-then-is_chosen c =
    let inv = c.loop-next.invariant in
    record {
      below = c.collapse_at.ensures.below;
      cut = c.collapse_at.ensures.empty;
      cut_room = c.collapse_at.ensures.room ∙ inv.cut_room;
      due_room = c.pop.ensures.capacity ∙ inv.due_room;
      so_far = λ T can.
          let h = inv.so_far T can in
          let is = sym c.is_chosen.ensures ∙ c.if-is_chosen.true in
          let ready = trim-can _ _ _ _ _ _ _ _ _ h c.in-Some.next c.pop.new.self.items c.in-Some.ensures.items c.in-Some-get.node.now (sym c.in-Some-get.ensures) is c.loop-next.lists.cut.items (vec_capacity c.loop-next.lists.cut) inv.cut (omega (arith, inv.cut_room, can.cut_room)) inv.below can.few in
          (trim-chosen _ _ _ _ _ _ _ _ _ h c.in-Some.next c.pop.new.self.items c.in-Some.ensures.items c.in-Some-get.node.now (sym c.in-Some-get.ensures) is c.collapse_at.new.table c.collapse_at.new.root c.collapse_at.new.opens (c.collapse_at.ensures.tree h.tree ready) (c.collapse_at.ensures.stays h.tree ready)).so_far;
    }

pub put_children-requires : goal.put_children-requires
put_children-requires c = λ split.
    let can = c.requires.tree.1 in
    let inv = c.loop-next.invariant in
    let h = inv.so_far c.requires.tree.0 can in
    let room = trim-room _ _ _ _ _ _ _ _ _ h c.in-Some.next c.pop.new.self.items c.in-Some.ensures.items c.in-Some-get.node.now (sym c.in-Some-get.ensures) split in
    omega (arith, room, can.due_room, inv.due_room, c.pop.ensures.capacity, c.pop.new.self.ok.0)

pub loop-next-preserved : goal.loop-next-preserved
loop-next-preserved c =
    let inv = c.loop-next.invariant in
    record {
      below = inv.below;
      cut = inv.cut;
      cut_room = inv.cut_room;
      due_room = c.put_children.ensures.room ∙ c.pop.ensures.capacity ∙ inv.due_room;
      so_far = λ T can.
          (trim-below _ _ _ _ _ _ _ _ _ (inv.so_far T can) c.in-Some.next c.pop.new.self.items c.in-Some.ensures.items c.in-Some-get.node.now (sym c.in-Some-get.ensures) (sym c.is_chosen.ensures ∙ c.if-is_chosen.false) c.put_children.new.due.items c.put_children.ensures.due).so_far;
    }

pub loop-next-smaller-then-is_chosen : goal.loop-next-smaller-then-is_chosen
loop-next-smaller-then-is_chosen c =
    let can = c.requires.tree.1 in
    let inv = c.loop-next.invariant in
    let h = inv.so_far c.requires.tree.0 can in
    let is = sym c.is_chosen.ensures ∙ c.if-is_chosen.true in
    let ready = trim-can _ _ _ _ _ _ _ _ _ h c.in-Some.next c.pop.new.self.items c.in-Some.ensures.items c.in-Some-get.node.now (sym c.in-Some-get.ensures) is c.loop-next.lists.cut.items (vec_capacity c.loop-next.lists.cut) inv.cut (omega (arith, inv.cut_room, can.cut_room)) inv.below can.few in
    let next = trim-chosen _ _ _ _ _ _ _ _ _ h c.in-Some.next c.pop.new.self.items c.in-Some.ensures.items c.in-Some-get.node.now (sym c.in-Some-get.ensures) is c.collapse_at.new.table c.collapse_at.new.root c.collapse_at.new.opens (c.collapse_at.ensures.tree h.tree ready) (c.collapse_at.ensures.stays h.tree ready) in
    trim-smaller _ _ _ _ _ _ _ c.loop-next.lists.due.items _ h _ _ _ c.pop.new.self.items _ next _ can.nodes.stored

pub loop-next-smaller : goal.loop-next-smaller
loop-next-smaller c =
    let can = c.requires.tree.1 in
    let inv = c.loop-next.invariant in
    let h = inv.so_far c.requires.tree.0 can in
    let next = trim-below _ _ _ _ _ _ _ _ _ h c.in-Some.next c.pop.new.self.items c.in-Some.ensures.items c.in-Some-get.node.now (sym c.in-Some-get.ensures) (sym c.is_chosen.ensures ∙ c.if-is_chosen.false) c.put_children.new.due.items c.put_children.ensures.due in
    trim-smaller _ _ _ _ _ _ _ c.loop-next.lists.due.items _ h _ _ _ c.put_children.new.due.items _ next _ can.nodes.stored

pub returns-clause-tree : goal.returns-clause-tree
returns-clause-tree c = λ T can. trim-all _ _ _ _ _ _ _ _ _ (c.loop-next.invariant.so_far T can) (nil_from_length c.loop-next.lists.due.items (sym c.loop-next.lists.due.ok.0 ∙ c.in_default.ensures.cases.0))

pub returns-clause-last : goal.returns-clause-last
returns-clause-last c = λ T can. trim-last _ _ _ _ _ _ _ _ _ (c.loop-next.invariant.so_far T can) (nil_from_length c.loop-next.lists.due.items (sym c.loop-next.lists.due.ok.0 ∙ c.in_default.ensures.cases.0))
