use Rattle.std.proofs.Common.{◌<◌, ◌++◌, ◌∷◌, [], length, sym, ap, ◌∙◌, arith}
use Rattle.lp_model.specs.declared.types.BoundChange.{BoundChange}
use Rattle.branch_tree.specs.Table.{node_at}
use Rattle.branch_tree.proofs.UpwardLemmas.{gathered-none, gathered-next, gathered-fewer, gathered-more, gathered-all}
use Rattle.branch_tree.proofs.upward.gather.Goals as goal

pub loop-up-init : goal.loop-up-init
loop-up-init c = λ changes leads. gathered-none (node_at c.args.table.now) c.new-turns.result.items c.args.from changes c.new-turns.ensures.items leads

pub unreachable-requires : goal.unreachable-requires
unreachable-requires c =
    let h = c.loop-up.invariant c.requires.way.0 c.requires.way.1.0 in
    let found = (gathered-next (node_at c.args.table.now) c.loop-up.turns.items c.loop-up.up c.in-Some.way c.requires.way.0 c.in-Some.is h).found in
    let none = c.in_default-get.ensures in
    cc

pub loop-up-smaller : goal.loop-up-smaller
loop-up-smaller c =
    let h = c.loop-up.invariant c.requires.way.0 c.requires.way.1.0 in
    let fewer : length c.loop-up.turns.items < length c.requires.way.0 = gathered-fewer (node_at c.args.table.now) c.loop-up.turns.items c.loop-up.up c.in-Some.way c.requires.way.0 c.in-Some.is h in
    omega (arith, fewer, c.requires.way.1.1, c.in-Ok.ensures.len)

pub loop-up-preserved : goal.loop-up-preserved
loop-up-preserved c = λ changes leads.
    gathered-more (node_at c.args.table.now) c.loop-up.turns.items c.loop-up.up c.in-Some.way changes c.in-Some.is (c.loop-up.invariant changes leads) c.in-Some-get.node.now (sym c.in-Some-get.ensures) c.push.new.self.items
    (c.in-Ok.ensures.ok ∙ ap (λ (change : BoundChange). c.loop-up.turns.items ++ record { change = change } ∷ []) c.change.ensures)

pub returns : goal.returns
returns c = λ changes leads. gathered-all (node_at c.args.table.now) c.loop-up.turns.items c.loop-up.up changes c.in_default.is (c.loop-up.invariant changes leads)
