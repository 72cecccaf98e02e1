use Rattle.std.proofs.Common.{◌≡◌, ◌<◌, ◌+◌, ◌∷◌, ◌++◌, [], length, vec_capacity, refl, subst, get_or, sym, ap, ◌∙◌, arith}
use Rattle.std.proofs.lemmas.List.{nil_from_length, length_push}
use Rattle.branch_tree.specs.declared.node.LeafState.TheVariants.{IsOpen}
use Rattle.branch_tree.specs.Table.{node_at}
use Rattle.branch_tree.proofs.StateWalkLemmas.{due_at, GivesStates, gives-first, next-split, split-room, next-leaf, next-there, next-found, gives-few, gives-all}
use Rattle.branch_tree.proofs.states.give_states.Goals as goal

pub loop-at-init : goal.loop-at-init
loop-at-init c = record {
  table = c.requires.tree.1.nodes.table;
  keys = refl;
  stored = refl;
  live = λ l. l;
  room = c.push_reserved.ensures.capacity;
  gives = λ T h. gives-first c.args.table.now c.args.root c.args.due.now.items c.push_reserved.new.self.items (vec_capacity c.args.due.now) T c.args.states.now h c.push_reserved.ensures.items;
}

pub push_reserved-requires-in-Some-children_of-2 : goal.push_reserved-requires-in-Some-children_of-2
push_reserved-requires-in-Some-children_of-2 c =
    let T = c.requires.tree.0 in
    let h = c.loop-at.invariant.gives T c.requires.tree.1 in
    let room = split-room T c.args.states.now (node_at c.loop-at.table) c.loop-at.due.items c.pop.new.self.items c.loop-at.next c.loop-at.opens c.in-Some.at c.in-Some.ensures.items h (c.in-Some-children_of.left, c.in-Some-children_of.right) (sym c.in-Some-children_of.ensures) in
    omega (arith, room, c.requires.tree.1.roomy, c.push_reserved-in-Some-children_of.ensures.len, c.push_reserved-in-Some-children_of.ensures.capacity, c.pop.ensures.capacity, c.loop-at.invariant.room, c.pop.new.self.ok.0)

pub loop-at-smaller-in-Some-children_of : goal.loop-at-smaller-in-Some-children_of
loop-at-smaller-in-Some-children_of c =
    let T = c.requires.tree.0 in
    let h = c.loop-at.invariant.gives T c.requires.tree.1 in
    let there = next-there T c.args.states.now (node_at c.loop-at.table) c.loop-at.due.items c.pop.new.self.items c.loop-at.next c.loop-at.opens c.in-Some.at c.in-Some.ensures.items h in
    let was : length c.loop-at.due.items ≡ length c.pop.new.self.items + 1 = ap length c.in-Some.ensures.items ∙ length_push c.pop.new.self.items c.in-Some.at in
    let one : length c.push_reserved-in-Some-children_of.new.self.items ≡ length c.pop.new.self.items + 1 = ap length c.push_reserved-in-Some-children_of.ensures.items ∙ length_push c.pop.new.self.items (due_at c.in-Some-children_of.right) in
    let two : length c.push_reserved-in-Some-children_of-2.new.self.items ≡ length c.push_reserved-in-Some-children_of.new.self.items + 1 = ap length c.push_reserved-in-Some-children_of-2.ensures.items ∙ length_push c.push_reserved-in-Some-children_of.new.self.items (due_at c.in-Some-children_of.left) in
    omega (arith, there, was, one, two)

pub loop-at-preserved-in-Some-children_of : goal.loop-at-preserved-in-Some-children_of
loop-at-preserved-in-Some-children_of c = record {
  table = c.loop-at.invariant.table;
  keys = c.loop-at.invariant.keys;
  stored = c.loop-at.invariant.stored;
  live = c.loop-at.invariant.live;
  room = c.push_reserved-in-Some-children_of-2.ensures.capacity ∙ c.push_reserved-in-Some-children_of.ensures.capacity ∙ c.pop.ensures.capacity ∙ c.loop-at.invariant.room;
  gives = λ T takes.
      next-split T c.args.states.now (node_at c.loop-at.table) c.loop-at.due.items c.pop.new.self.items c.loop-at.next c.loop-at.opens c.in-Some.at c.in-Some.ensures.items (c.loop-at.invariant.gives T takes) (c.in-Some-children_of.left, c.in-Some-children_of.right) (sym c.in-Some-children_of.ensures)
      c.push_reserved-in-Some-children_of-2.new.self.items (c.push_reserved-in-Some-children_of-2.ensures.items ∙ ap (λ l. l ++ due_at c.in-Some-children_of.left ∷ []) c.push_reserved-in-Some-children_of.ensures.items);
}

pub bounds-states-next : goal.bounds-states-next
bounds-states-next c =
    let T = c.requires.tree.0 in
    omega (arith, next-there T c.args.states.now (node_at c.loop-at.table) c.loop-at.due.items c.pop.new.self.items c.loop-at.next c.loop-at.opens c.in-Some.at c.in-Some.ensures.items (c.loop-at.invariant.gives T c.requires.tree.1))

pub set_state-requires-clause-there : goal.set_state-requires-clause-there
set_state-requires-clause-there c =
    let T = c.requires.tree.0 in
    next-found T c.args.states.now (node_at c.loop-at.table) c.loop-at.due.items c.pop.new.self.items c.loop-at.next c.loop-at.opens c.in-Some.at c.in-Some.ensures.items (c.loop-at.invariant.gives T c.requires.tree.1)

pub overflow_add-opens : goal.overflow_add-opens
overflow_add-opens c =
    let T = c.requires.tree.0 in
    let within : c.loop-at.next < length c.args.states.now = (omega (arith, next-there T c.args.states.now (node_at c.loop-at.table) c.loop-at.due.items c.pop.new.self.items c.loop-at.next c.loop-at.opens c.in-Some.at c.in-Some.ensures.items (c.loop-at.invariant.gives T c.requires.tree.1))) in
    let more = next-leaf T c.args.states.now (node_at c.loop-at.table) c.loop-at.due.items c.pop.new.self.items c.loop-at.next c.loop-at.opens c.in-Some.at c.in-Some.ensures.items (c.loop-at.invariant.gives T c.requires.tree.1) (sym c.children_of.ensures ∙ c.in-None.is)
    (node_at c.set_state.new.self) (get_or c.args.states.now c.loop-at.next IsOpen) refl c.set_state.ensures.put within in
    omega (arith, gives-few T c.args.states.now (node_at c.set_state.new.self) c.pop.new.self.items (c.loop-at.next + 1) _ more, c.is_open-opens.ensures, c.requires.tree.1.fits)

pub overflow_add-next : goal.overflow_add-next
overflow_add-next c =
    let T = c.requires.tree.0 in
    let there = next-there T c.args.states.now (node_at c.loop-at.table) c.loop-at.due.items c.pop.new.self.items c.loop-at.next c.loop-at.opens c.in-Some.at c.in-Some.ensures.items (c.loop-at.invariant.gives T c.requires.tree.1) in
    omega (arith, there)

pub loop-at-smaller : goal.loop-at-smaller
loop-at-smaller c =
    let T = c.requires.tree.0 in
    let h = c.loop-at.invariant.gives T c.requires.tree.1 in
    let there = next-there T c.args.states.now (node_at c.loop-at.table) c.loop-at.due.items c.pop.new.self.items c.loop-at.next c.loop-at.opens c.in-Some.at c.in-Some.ensures.items h in
    let was : length c.loop-at.due.items ≡ length c.pop.new.self.items + 1 = ap length c.in-Some.ensures.items ∙ length_push c.pop.new.self.items c.in-Some.at in
    omega (arith, there, was)

pub loop-at-preserved : goal.loop-at-preserved
loop-at-preserved c = record {
  table = c.set_state.ensures.table;
  keys = c.set_state.ensures.keys ∙ c.loop-at.invariant.keys;
  stored = c.set_state.ensures.len ∙ c.loop-at.invariant.stored;
  live = λ l. c.set_state.ensures.live (c.loop-at.invariant.live l);
  room = c.pop.ensures.capacity ∙ c.loop-at.invariant.room;
  gives = λ T takes.
      let within : c.loop-at.next < length c.args.states.now = (omega (arith, next-there T c.args.states.now (node_at c.loop-at.table) c.loop-at.due.items c.pop.new.self.items c.loop-at.next c.loop-at.opens c.in-Some.at c.in-Some.ensures.items (c.loop-at.invariant.gives T takes))) in
      let more = next-leaf T c.args.states.now (node_at c.loop-at.table) c.loop-at.due.items c.pop.new.self.items c.loop-at.next c.loop-at.opens c.in-Some.at c.in-Some.ensures.items (c.loop-at.invariant.gives T takes) (sym c.children_of.ensures ∙ c.in-None.is)
      (node_at c.set_state.new.self) (get_or c.args.states.now c.loop-at.next IsOpen) refl c.set_state.ensures.put within in
      subst (λ o. GivesStates T c.args.states.now (node_at c.set_state.new.self) c.pop.new.self.items (c.loop-at.next + 1) (c.loop-at.opens + o)) (sym c.is_open-opens.ensures) more;
}

pub returns-clause-tree : goal.returns-clause-tree
returns-clause-tree c = λ T takes.
    gives-all c.args.table.now c.loop-at.table c.args.root (vec_capacity c.args.due.now) c.args.due.now.items c.loop-at.due.items T c.args.states.now c.loop-at.next c.loop-at.opens takes (c.loop-at.invariant.gives T takes) (nil_from_length c.loop-at.due.items (sym c.loop-at.due.ok.0 ∙ c.in_default.ensures.cases.0))
    c.loop-at.invariant.table c.loop-at.invariant.stored c.loop-at.invariant.keys
