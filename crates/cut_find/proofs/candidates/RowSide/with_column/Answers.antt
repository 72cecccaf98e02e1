use Rattle.std.proofs.Common.{◌≡◌, ◌∙◌, sym, ap, arith, ◌+◌, ◌≤◌, ◌^◌, ◌+ℤ◌, ◌*ℤ◌, unsigned_abs, Some, to_z, of_z, w64}
use Rattle.std.specs.Int.{w128}
use Rattle.frac128.specs.Rational.{int}
use Rattle.frac128.specs.LowestTerms.{quotient_of}
use Rattle.lp_model.specs.Program.{lower, upper}
use Rattle.lp_model.specs.Sides.{needed_side}
use Rattle.cover_cuts.specs.Covers.{side_coefficient}
use Rattle.whole_sums.specs.Wholes.{IsShort, HasMargin}
use Rattle.whole_sums.proofs.ReadLemmas.{short_read, short_again, product_made, product_read, sum_read}
use Rattle.cut_find.proofs.SizeLemmas.{sums_more}
use Rattle.cut_find.proofs.candidates.RowSide.with_column.Goals as goal

pub bound_number-requires : goal.bound_number-requires
bound_number-requires c = c.requires.within

pub product-product-requires-clause-first : goal.product-product-requires-clause-first
product-product-requires-clause-first c = short_again c.args.weight c.requires.short

pub product-product-requires-clause-second : goal.product-product-requires-clause-second
product-product-requires-clause-second c = short_again c.in-Some.bound c.in-Some.ensures.short

pub returns : goal.returns
returns c =
    let self = c.args.self.now in
    let M = self.model.now in
    let j = c.args.col in
    let d = c.args.denominator in
    let w = c.args.weight in
    let f = c.in-Some.bound in
    let w_short : IsShort w = c.requires.short in
    let f_short : IsShort f = c.in-Some.ensures.short in
    let w_is : to_z w64 (of_z w64 w) ≡ w = short_read w w_short in
    let f_is : to_z w64 (of_z w64 f) ≡ f = short_read f f_short in
    let bound : needed_side (side_coefficient M self.row.0 self.side j) (lower M j) (upper M j) ≡ Some (int f) =
    ap (λ q. needed_side q (lower M j) (upper M j)) (c.requires.weight ∙ ap (λ n. quotient_of n d) (sym w_is)) ∙ c.in-Some.ensures.bound d c.requires.denominator.positive in
    let made : c.product-product.result ≡ w *ℤ f = product_made c.product-product.result w f w_short f_short c.product-product.ensures in
    let product_is : to_z w128 (of_z w128 c.product-product.result) ≡ w *ℤ f = product_read c.product-product.result w f w_short f_short made in
    let sums = c.args.sums in
    let base_within = c.requires.sums.base_within in
    let room = c.requires.sums.room in
    let base_room : HasMargin sums.base = omega (arith, base_within, room) in
    let total : to_z w128 (of_z w128 (to_z w128 (of_z w128 sums.base) +ℤ to_z w128 (of_z w128 c.product-product.result))) ≡ sums.base +ℤ w *ℤ f = sum_read sums.base w f c.product-product.result base_room w_short f_short c.product-product.ensures in
    let first : c.unsigned_abs.result ≡ unsigned_abs (w *ℤ f) = c.unsigned_abs.ensures.value ∙ ap unsigned_abs product_is in
    let second : c.from.result ≡ unsigned_abs w = c.from.ensures ∙ c.unsigned_abs-2.ensures.value ∙ ap unsigned_abs w_is in
    let size : sums.size + c.unsigned_abs.result + c.from.result ≡ sums.size + unsigned_abs (w *ℤ f) + unsigned_abs w = λ t. sums.size + first t + second t in
    let within : sums.size + c.unsigned_abs.result + c.from.result ≤ 2 ^ 126 = let h = c.if-size-gt-MARGIN.false in omega (arith, h) in
    sums_more M self.row.0 self.side d c.requires.denominator j c.requires.within sums _ c.requires.sums w f w_short f_short c.requires.weight bound total size within
