use Rattle.std.proofs.Common.{arith}
use Rattle.whole_sums.proofs.ReadLemmas.{denominator_again}
use Rattle.leaf_dual.proofs.leaf.Leaf.whole_number.Goals as goal

pub slice_bounds-row_places-end : goal.slice_bounds-row_places-end
slice_bounds-row_places-end c = let m = c.min.ensures in omega (arith, m)

pub write_rows-requires : goal.write_rows-requires
write_rows-requires c = denominator_again c.common_denominator-denominator.result c.common_denominator-denominator.ensures

pub returns-then-not-write_rows : goal.returns-then-not-write_rows
returns-then-not-write_rows c = tt

pub slice_bounds-cut_places-end : goal.slice_bounds-cut_places-end
slice_bounds-cut_places-end c = let m = c.min-known.ensures in omega (arith, m)

pub write_cuts-requires : goal.write_cuts-requires
write_cuts-requires c = denominator_again c.common_denominator-denominator.result c.common_denominator-denominator.ensures

pub returns-then-not-write_cuts : goal.returns-then-not-write_cuts
returns-then-not-write_cuts c = tt

pub write_nexts-requires : goal.write_nexts-requires
write_nexts-requires c = let m = c.min-known.ensures in omega (arith, m)

pub write_costs_left-costs_known-requires : goal.write_costs_left-costs_known-requires
write_costs_left-costs_known-requires c = record {
  denominator = denominator_again c.common_denominator-denominator.result c.common_denominator-denominator.ensures;
  rows = c.write_rows.ensures c.if-not-write_rows.false;
  cuts = c.write_cuts.ensures c.if-not-write_cuts.false;
  next = c.write_nexts.ensures;
  left = λ j below. absurd (omega (arith, below));
  named = λ j below. absurd (omega (arith, below));
}

pub number-requires-clause-whole : goal.number-requires-clause-whole
number-requires-clause-whole c = record {
  denominator = denominator_again c.common_denominator-denominator.result c.common_denominator-denominator.ensures;
  rows = c.write_rows.ensures c.if-not-write_rows.false;
  cuts = c.write_cuts.ensures c.if-not-write_cuts.false;
  next = c.write_nexts.ensures;
  left = c.write_costs_left-costs_known.ensures;
  named = c.mark_named.ensures;
}

pub number-requires-clause-narrow : goal.number-requires-clause-narrow
number-requires-clause-narrow c = c.requires

pub returns : goal.returns
returns c = c.number.ensures
