use Rattle.std.proofs.Common.{◌+◌, [], ◌∷◌, ◌++◌, None, Some, sym, ap, subst, ◌∙◌, arith}
use Rattle.std.proofs.lemmas.List.{nil_from_length}
use Rattle.branch_tree.specs.declared.stored.TreeNode.{TreeNode}
use Rattle.branch_tree.specs.Table.{node_at, AreBelow}
use Rattle.branch_tree.specs.private.Table.{PutsNode}
use Rattle.branch_tree.proofs.BuildingLemmas.{Builds, builds-first, way-there, id-within, next-bound, next-opens, builds-step, builds-all}
use Rattle.branch_tree.proofs.building.build.Goals as goal

pub loop-next-init : goal.loop-next-init
loop-next-init c = λ T planned.
    builds-first T c.args.table.now c.push.new.self.items c.args.planned.items planned c.args.table.now.keys.ok.0 (c.in-Ok.ensures.items ∙ ap (λ l. l ++ None ∷ []) c.new-ways.ensures.items)

pub unreachable-requires : goal.unreachable-requires
unreachable-requires c =
    way-there c.requires.0 c.loop-next.table c.loop-next.ways.items c.loop-next.rest.items c.pop.new.self.items c.in-Some.next c.loop-next.id c.loop-next.opens c.in-Some.ensures.items (c.loop-next.invariant c.requires.0 c.requires.1) (sym c.loop-next.ways.ok.0 ∙ c.in_default-pop-2.ensures.cases.0)

pub put_ways-requires : goal.put_ways-requires
put_ways-requires c =
    next-bound c.requires.0 c.loop-next.table c.loop-next.ways.items c.loop-next.rest.items c.pop.new.self.items c.in-Some.next c.loop-next.id c.loop-next.opens c.in-Some.ensures.items (c.loop-next.invariant c.requires.0 c.requires.1)

pub overflow_add-opens : goal.overflow_add-opens
overflow_add-opens c =
    omega (arith, c.is_open_leaf-opens.ensures, c.requires.1.few, next-opens c.requires.0 c.loop-next.table c.loop-next.ways.items c.loop-next.rest.items c.pop.new.self.items c.in-Some.next c.loop-next.id c.loop-next.opens c.in-Some.ensures.items (c.loop-next.invariant c.requires.0 c.requires.1))

pub built_node-requires : goal.built_node-requires
built_node-requires c =
    omega (arith, c.requires.1.few, id-within c.requires.0 c.loop-next.table c.loop-next.ways.items c.loop-next.rest.items c.pop.new.self.items c.in-Some.next c.loop-next.id c.loop-next.opens c.in-Some.ensures.items (c.loop-next.invariant c.requires.0 c.requires.1))

pub insert-requires-clause-nodes : goal.insert-requires-clause-nodes
insert-requires-clause-nodes c =
    let h = c.loop-next.invariant c.requires.0 c.requires.1 in
    omega (arith, h.stored, h.room, id-within c.requires.0 c.loop-next.table c.loop-next.ways.items c.loop-next.rest.items c.pop.new.self.items c.in-Some.next c.loop-next.id c.loop-next.opens c.in-Some.ensures.items h)

pub insert-requires-clause-keys : goal.insert-requires-clause-keys
insert-requires-clause-keys c =
    let h = c.loop-next.invariant c.requires.0 c.requires.1 in
    omega (arith, h.long, h.spare, id-within c.requires.0 c.loop-next.table c.loop-next.ways.items c.loop-next.rest.items c.pop.new.self.items c.in-Some.next c.loop-next.id c.loop-next.opens c.in-Some.ensures.items h)

pub loop-next-preserved : goal.loop-next-preserved
loop-next-preserved c = λ T planned.
    let h = c.loop-next.invariant T planned in
    let put = subst (λ (n : TreeNode). PutsNode (node_at c.loop-next.table) n.id (Some n) (node_at c.insert.new.self)) c.built_node.ensures c.insert.ensures.put in
    let below = subst (λ (n : TreeNode). AreBelow (n.id + 1) c.insert.new.self.keys.items) c.built_node.ensures c.insert.ensures.below in
    subst (λ o. Builds T c.insert.new.self c.put_ways.new.ways.items c.pop.new.self.items (c.loop-next.id + 1) (c.loop-next.opens + o)) (sym c.is_open_leaf-opens.ensures)
    (builds-step T c.loop-next.table c.loop-next.ways.items c.loop-next.rest.items c.pop.new.self.items c.in-Some.next c.loop-next.id c.loop-next.opens c.in-Some.ensures.items h c.insert.new.self c.pop-in-Some.new.self.items c.put_ways.new.ways.items c.in-Some-pop.up c.in-Some-pop.ensures.items c.in-Ok-put_ways.ensures
    put c.insert.ensures.table below c.insert.ensures.live c.insert.ensures.len c.insert.ensures.room c.insert.ensures.keys c.insert.ensures.capacity)

pub returns : goal.returns
returns c = λ T planned.
    builds-all T c.loop-next.table c.loop-next.ways.items c.loop-next.rest.items c.loop-next.id c.loop-next.opens (c.loop-next.invariant T planned) (nil_from_length c.loop-next.rest.items (sym c.loop-next.rest.ok.0 ∙ c.in_default-pop.ensures.cases.0))
