use Rattle.std.proofs.Common.{refl, sym, arith}
use Rattle.whole_sums.proofs.ReadLemmas.{denominator_again}
use Rattle.leaf_totals.proofs.keeping.walk_leaf.Goals as goal

pub walk_in_fractions-requires-clause-narrow : goal.walk_in_fractions-requires-clause-narrow
walk_in_fractions-requires-clause-narrow g c = c.requires.narrow

pub walk_in_fractions-requires-clause-places : goal.walk_in_fractions-requires-clause-places
walk_in_fractions-requires-clause-places g c = c.requires.places

pub walk_in_fractions-requires-clause-few : goal.walk_in_fractions-requires-clause-few
walk_in_fractions-requires-clause-few g c = c.requires.few

pub walk_in_fractions-requires-clause-kept : goal.walk_in_fractions-requires-clause-kept
walk_in_fractions-requires-clause-kept g c = c.requires.kept

pub walk_in_fractions-requires-clause-room : goal.walk_in_fractions-requires-clause-room
walk_in_fractions-requires-clause-room g c = c.requires.room

pub walk_in_fractions-requires-then-not-write_cuts-clause-narrow : goal.walk_in_fractions-requires-then-not-write_cuts-clause-narrow
walk_in_fractions-requires-then-not-write_cuts-clause-narrow g c = c.requires.narrow

pub walk_in_fractions-requires-then-not-write_cuts-clause-places : goal.walk_in_fractions-requires-then-not-write_cuts-clause-places
walk_in_fractions-requires-then-not-write_cuts-clause-places g c = c.requires.places

pub walk_in_fractions-requires-then-not-write_cuts-clause-few : goal.walk_in_fractions-requires-then-not-write_cuts-clause-few
walk_in_fractions-requires-then-not-write_cuts-clause-few g c = c.requires.few

pub walk_in_fractions-requires-then-not-write_cuts-clause-kept : goal.walk_in_fractions-requires-then-not-write_cuts-clause-kept
walk_in_fractions-requires-then-not-write_cuts-clause-kept g c = c.requires.kept

pub walk_in_fractions-requires-then-not-write_cuts-clause-room : goal.walk_in_fractions-requires-then-not-write_cuts-clause-room
walk_in_fractions-requires-then-not-write_cuts-clause-room g c = c.requires.room

pub returns-then-not-write_rows-clause-walk : goal.returns-then-not-write_rows-clause-walk
returns-then-not-write_rows-clause-walk g c = c.walk_in_fractions.ensures.walk

pub returns-then-not-write_rows-clause-kept : goal.returns-then-not-write_rows-clause-kept
returns-then-not-write_rows-clause-kept g c = c.walk_in_fractions.ensures.kept

pub returns-then-not-write_rows-clause-room : goal.returns-then-not-write_rows-clause-room
returns-then-not-write_rows-clause-room g c = c.walk_in_fractions.ensures.room

pub returns-then-not-write_rows-clause-rises : goal.returns-then-not-write_rows-clause-rises
returns-then-not-write_rows-clause-rises g c = c.walk_in_fractions.ensures.rises

pub returns-then-not-write_rows-clause-steps : goal.returns-then-not-write_rows-clause-steps
returns-then-not-write_rows-clause-steps g c = c.walk_in_fractions.ensures.steps

pub returns-then-not-write_rows-clause-over : goal.returns-then-not-write_rows-clause-over
returns-then-not-write_rows-clause-over g c = tt

pub returns-then-not-write_cuts-clause-walk : goal.returns-then-not-write_cuts-clause-walk
returns-then-not-write_cuts-clause-walk g c = c.walk_in_fractions-then-not-write_cuts.ensures.walk

pub returns-then-not-write_cuts-clause-kept : goal.returns-then-not-write_cuts-clause-kept
returns-then-not-write_cuts-clause-kept g c = c.walk_in_fractions-then-not-write_cuts.ensures.kept

pub returns-then-not-write_cuts-clause-room : goal.returns-then-not-write_cuts-clause-room
returns-then-not-write_cuts-clause-room g c = c.walk_in_fractions-then-not-write_cuts.ensures.room

pub returns-then-not-write_cuts-clause-rises : goal.returns-then-not-write_cuts-clause-rises
returns-then-not-write_cuts-clause-rises g c = c.walk_in_fractions-then-not-write_cuts.ensures.rises

pub returns-then-not-write_cuts-clause-steps : goal.returns-then-not-write_cuts-clause-steps
returns-then-not-write_cuts-clause-steps g c = c.walk_in_fractions-then-not-write_cuts.ensures.steps

pub returns-then-not-write_cuts-clause-over : goal.returns-then-not-write_cuts-clause-over
returns-then-not-write_cuts-clause-over g c = tt

pub walk-requires-clause-narrow : goal.walk-requires-clause-narrow
walk-requires-clause-narrow g c = c.requires.narrow

pub walk-requires-clause-places : goal.walk-requires-clause-places
walk-requires-clause-places g c = c.requires.places

pub walk-requires-clause-few : goal.walk-requires-clause-few
walk-requires-clause-few g c = c.requires.few

pub walk-requires-clause-kept : goal.walk-requires-clause-kept
walk-requires-clause-kept g c = c.requires.kept

pub walk-requires-clause-room : goal.walk-requires-clause-room
walk-requires-clause-room g c = c.requires.room

pub has_short_terms-requires-clause-narrow : goal.has_short_terms-requires-clause-narrow
has_short_terms-requires-clause-narrow g c = c.requires.narrow

pub has_short_terms-requires-clause-places : goal.has_short_terms-requires-clause-places
has_short_terms-requires-clause-places g c = c.requires.places

pub returns-then-has_short_terms-clause-walk : goal.returns-then-has_short_terms-clause-walk
returns-then-has_short_terms-clause-walk g c = c.in-None.ensures.walk

pub returns-then-has_short_terms-clause-kept : goal.returns-then-has_short_terms-clause-kept
returns-then-has_short_terms-clause-kept g c = c.walk.ensures.kept

pub returns-then-has_short_terms-clause-room : goal.returns-then-has_short_terms-clause-room
returns-then-has_short_terms-clause-room g c = c.walk.ensures.room

pub returns-then-has_short_terms-clause-rises : goal.returns-then-has_short_terms-clause-rises
returns-then-has_short_terms-clause-rises g c = c.walk.ensures.rises

pub returns-then-has_short_terms-clause-steps : goal.returns-then-has_short_terms-clause-steps
returns-then-has_short_terms-clause-steps g c = c.walk.ensures.steps

pub returns-in-Some-clause-walk : goal.returns-in-Some-clause-walk
returns-in-Some-clause-walk g c = c.in-Some.ensures.walk

pub returns-in-Some-clause-kept : goal.returns-in-Some-clause-kept
returns-in-Some-clause-kept g c = c.walk.ensures.kept

pub returns-in-Some-clause-room : goal.returns-in-Some-clause-room
returns-in-Some-clause-room g c = c.walk.ensures.room

pub returns-in-Some-clause-rises : goal.returns-in-Some-clause-rises
returns-in-Some-clause-rises g c = c.walk.ensures.rises

pub returns-in-Some-clause-steps : goal.returns-in-Some-clause-steps
returns-in-Some-clause-steps g c = c.walk.ensures.steps

pub returns-in-Some-clause-over : goal.returns-in-Some-clause-over
returns-in-Some-clause-over g c = tt

pub returns-else-has_short_terms-clause-walk : goal.returns-else-has_short_terms-clause-walk
returns-else-has_short_terms-clause-walk g c = c.in-None.ensures.walk

pub returns-else-has_short_terms-clause-kept : goal.returns-else-has_short_terms-clause-kept
returns-else-has_short_terms-clause-kept g c = c.walk.ensures.kept

pub returns-else-has_short_terms-clause-room : goal.returns-else-has_short_terms-clause-room
returns-else-has_short_terms-clause-room g c = c.walk.ensures.room

pub returns-else-has_short_terms-clause-rises : goal.returns-else-has_short_terms-clause-rises
returns-else-has_short_terms-clause-rises g c = c.walk.ensures.rises

pub returns-else-has_short_terms-clause-steps : goal.returns-else-has_short_terms-clause-steps
returns-else-has_short_terms-clause-steps g c = c.walk.ensures.steps

pub returns-else-has_short_terms-clause-over : goal.returns-else-has_short_terms-clause-over
returns-else-has_short_terms-clause-over g c = tt

pub returns-else-seeks_short-clause-walk : goal.returns-else-seeks_short-clause-walk
returns-else-seeks_short-clause-walk g c = c.in-None.ensures.walk

pub returns-else-seeks_short-clause-kept : goal.returns-else-seeks_short-clause-kept
returns-else-seeks_short-clause-kept g c = c.walk.ensures.kept

pub returns-else-seeks_short-clause-room : goal.returns-else-seeks_short-clause-room
returns-else-seeks_short-clause-room g c = c.walk.ensures.room

pub returns-else-seeks_short-clause-rises : goal.returns-else-seeks_short-clause-rises
returns-else-seeks_short-clause-rises g c = c.walk.ensures.rises

pub returns-else-seeks_short-clause-steps : goal.returns-else-seeks_short-clause-steps
returns-else-seeks_short-clause-steps g c = c.walk.ensures.steps

pub returns-else-seeks_short-clause-over : goal.returns-else-seeks_short-clause-over
returns-else-seeks_short-clause-over g c = tt

pub slice_bounds-row_places-end : goal.slice_bounds-row_places-end
slice_bounds-row_places-end g c = let m = c.min.ensures in omega (arith, m)

pub slice_bounds-cut_places-end : goal.slice_bounds-cut_places-end
slice_bounds-cut_places-end g c = let m = c.min-known.ensures in omega (arith, m)

pub slice_bounds-write_nexts-end : goal.slice_bounds-write_nexts-end
slice_bounds-write_nexts-end g c = refl

pub slice_bounds-plain-end : goal.slice_bounds-plain-end
slice_bounds-plain-end g c = sym c.write_nexts.auto.next

pub slice_bounds-write_costs_left-end : goal.slice_bounds-write_costs_left-end
slice_bounds-write_costs_left-end g c = refl

pub slice_bounds-mark_named-end : goal.slice_bounds-mark_named-end
slice_bounds-mark_named-end g c = refl

pub slice_bounds-whole-end : goal.slice_bounds-whole-end
slice_bounds-whole-end g c = sym c.write_nexts.auto.next

pub slice_bounds-whole-end-2 : goal.slice_bounds-whole-end-2
slice_bounds-whole-end-2 g c = sym c.write_costs_left-costs_known.auto.lefts

pub slice_bounds-whole-end-3 : goal.slice_bounds-whole-end-3
slice_bounds-whole-end-3 g c = sym c.mark_named.auto.named

pub write_rows-requires : goal.write_rows-requires
write_rows-requires g c = denominator_again c.common_denominator-denominator.result c.common_denominator-denominator.ensures

pub write_cuts-requires : goal.write_cuts-requires
write_cuts-requires g c = denominator_again c.common_denominator-denominator.result c.common_denominator-denominator.ensures

pub write_nexts-requires : goal.write_nexts-requires
write_nexts-requires g c = let m = c.min-known.ensures in omega (arith, m)

pub write_costs_left-costs_known-requires : goal.write_costs_left-costs_known-requires
write_costs_left-costs_known-requires g c = record {
  denominator = denominator_again c.common_denominator-denominator.result c.common_denominator-denominator.ensures;
  rows = c.write_rows.ensures c.if-not-write_rows.false;
  cuts = c.write_cuts.ensures c.if-not-write_cuts.false;
  next = c.write_nexts.ensures;
  left = λ j below. absurd (omega (arith, below));
  named = λ j below. absurd (omega (arith, below));
}

pub walk-requires-clause-whole : goal.walk-requires-clause-whole
walk-requires-clause-whole g c = record {
  denominator = denominator_again c.common_denominator-denominator.result c.common_denominator-denominator.ensures;
  rows = c.write_rows.ensures c.if-not-write_rows.false;
  cuts = c.write_cuts.ensures c.if-not-write_cuts.false;
  next = c.write_nexts.ensures;
  left = c.write_costs_left-costs_known.ensures;
  named = c.mark_named.ensures;
}

pub has_short_terms-requires-clause-whole : goal.has_short_terms-requires-clause-whole
has_short_terms-requires-clause-whole g c = record {
  denominator = denominator_again c.common_denominator-denominator.result c.common_denominator-denominator.ensures;
  rows = c.write_rows.ensures c.if-not-write_rows.false;
  cuts = c.write_cuts.ensures c.if-not-write_cuts.false;
  next = c.write_nexts.ensures;
  left = c.write_costs_left-costs_known.ensures;
  named = c.mark_named.ensures;
}

pub returns-then-has_short_terms-clause-over : goal.returns-then-has_short_terms-clause-over
returns-then-has_short_terms-clause-over g c = (refl, (denominator_again c.common_denominator-denominator.result c.common_denominator-denominator.ensures, c.has_short_terms.ensures c.if-has_short_terms.true))
