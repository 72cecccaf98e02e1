use Rattle.std.proofs.Common.{◌≡◌, ◌∙◌, sym, ap, subst, arith, length, ◌<ℤ◌, Some, to_z, of_z, w64}
use Rattle.std.specs.Int.{w128}
use Rattle.std.proofs.lemmas.Int.{ints}
use Rattle.frac128.specs.LowestTerms.{quotient_of}
use Rattle.cover_cuts.specs.Covers.{side_limit}
use Rattle.whole_sums.specs.Wholes.{IsShort, IsDenominator}
use Rattle.whole_sums.proofs.ReadLemmas.{short_read, denominator_again, room_read}
use Rattle.cut_find.specs.WholeSides.{IsWholeSide}
use Rattle.cut_find.specs.private.WholeSides.{AreSumsTo}
use Rattle.cut_find.proofs.JudgeLemmas.{whole_of_sums}
use Rattle.cut_find.proofs.candidates.RowSide.whole_side.Goals as goal

pub short_over-requires : goal.short_over-requires
short_over-requires c = denominator_again c.common_denominator-denominator.result c.common_denominator-denominator.ensures

pub mark_columns-requires-clause-denominator : goal.mark_columns-requires-clause-denominator
mark_columns-requires-clause-denominator c = denominator_again c.common_denominator-denominator.result c.common_denominator-denominator.ensures

pub sums-requires-clause-denominator : goal.sums-requires-clause-denominator
sums-requires-clause-denominator c = denominator_again c.common_denominator-denominator.result c.common_denominator-denominator.ensures

pub returns-clause-side : goal.returns-clause-side
returns-clause-side c =
    let self = c.args.self.now in
    let M = self.model.now in
    let d = c.common_denominator-denominator.result in
    let is : IsDenominator d = c.common_denominator-denominator.ensures in
    let d_is : to_z w64 (of_z w64 d) ≡ d = short_read d is.short in
    let over = c.in-Some.over in
    let over_short : IsShort over = c.in-Some.ensures.short in
    let over_is : to_z w64 (of_z w64 over) ≡ over = short_read over over_short in
    let sums = c.in-Some-sums.sums in
    let all : AreSumsTo M self.row.0 self.side d (length M.cols) sums = subst (λ e. AreSumsTo M self.row.0 self.side e (length M.cols) sums) d_is c.in-Some-sums.ensures in
    let within = all.base_within in
    let room = all.room in
    let base_is : to_z w128 (of_z w128 sums.base) ≡ sums.base = room_read sums.base (omega (arith, within, room)) in
    let limit : side_limit M self.row.0 self.side ≡ Some (quotient_of over d) = c.requires.limit ∙ ap Some (c.in-Some.ensures.value ∙ ap (quotient_of over) d_is) in
    let from = c.from.ensures in
    let test = c.if-from-sums.false in
    let met : ¬ (over <ℤ sums.base) = λ h. omega (arith, ints, h, test, from, base_is, over_short) in
    subst (IsWholeSide M self.row.0 self.side) (λ t. record { denominator = sym d_is t; limit = sym over_is t; base = sym base_is t }) (whole_of_sums M self.row.0 self.side d over sums is over_short limit all met)
