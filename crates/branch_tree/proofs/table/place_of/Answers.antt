use Rattle.std.proofs.Common.{arith}
use Rattle.branch_tree.proofs.TableLemmas.{below-before, above-after, from-own}
use Rattle.branch_tree.proofs.table.place_of.Goals as goal

pub loop-low-preserved-then-keys-middle : goal.loop-low-preserved-then-keys-middle
loop-low-preserved-then-keys-middle c = record {
  order = omega arith;
  within = c.loop-low.invariant.within;
  before = below-before c.args.keys.now c.requires _ (omega (arith, c.loop-low.invariant.within)) c.args.id _ c.if-keys-middle.true;
  after = c.loop-low.invariant.after;
}

pub loop-low-preserved : goal.loop-low-preserved
loop-low-preserved c = record {
  order = omega arith;
  within = omega (arith, c.loop-low.invariant.within);
  before = c.loop-low.invariant.before;
  after = above-after c.args.keys.now c.requires _ (omega (arith, c.loop-low.invariant.within)) c.args.id _ c.if-keys-middle.false;
}

pub loop-low-init : goal.loop-low-init
loop-low-init c = record {
  order = omega (arith, c.least_place-low.ensures.few, c.least_place-low.ensures.within, c.min-high.ensures);
  within = omega (arith, c.min-high.ensures);
  before = c.least_place-low.ensures.before;
  after = λ k d le within. from-own c.args.keys.now c.requires c.args.id k d (omega (arith, le, within, c.min-high.ensures)) within;
}
