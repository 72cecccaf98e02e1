use Rattle.std.proofs.Common.{◌≡◌, ◌∙◌, ◌≤◌, ◌^◌, ℤ, ◌+ℤ◌, ◌-ℤ◌, ◌*ℤ◌, unsigned_abs, FitsSigned, sym, ap, subst, arith, to_z, of_z, w64}
use Rattle.std.specs.Int.{w128}
use Rattle.std.proofs.lemmas.Int.{ints}
use mathlib.Core.Path.{subst₂}
use Rattle.table_entries.specs.WholeSteps.{IsShort, whole_number_at}
use Rattle.table_entries.proofs.ReadLemmas.{short_read}
use Rattle.whole_sums.proofs.RoomLemmas.{short_product}
use Rattle.basic_solution.specs.KeptCosts.{IsShortOrMark}
use Rattle.basic_solution.proofs.ReadLemmas.{small_short, shorts_read}
use Rattle.basic_solution.proofs.FollowLemmas.{kept_read, short_kept}
use Rattle.basic_solution.proofs.sided.SidedBasis.value_step.Goals as goal

-- a short number in 128 bits
widened : (r x n : ℤ) → r ≡ x → x ≡ n → IsShort n → to_z w128 (of_z w128 r) ≡ n
widened r x n e is h = omega (arith, ints, e, is, h)

difference_fits : (p n : ℤ) → unsigned_abs p ≤ 2 ^ 124 → IsShort n → FitsSigned w128 (p -ℤ n)
difference_fits p n h short = omega (arith, ints, h, short)

difference_is : (q p n : ℤ) → unsigned_abs p ≤ 2 ^ 124 → IsShort n → q ≡ to_z w128 (of_z w128 (p -ℤ n)) → q +ℤ n ≡ p
difference_is q p n h short is = omega (arith, ints, h, short, is)

pub overflow_sub-product : goal.overflow_sub-product
overflow_sub-product c =
    let left = c.in-Some.left in
    let before = c.args.before in
    let value = whole_number_at c.args.kept.now c.args.row in
    let value_is : to_z w64 (of_z w64 value) ≡ value = kept_read value (c.requires.range c.args.row) in
    let short : IsShort value = subst IsShort value_is (c.is_short.ensures c.if-not-is_short.false) in
    let left_short : IsShort left = small_short left c.in-Some.ensures.small in
    let first = shorts_read c.product.result left before left_short c.requires.before c.product.ensures in
    let second = widened c.from.result _ value c.from.ensures value_is short in
    subst₂ (λ x y. FitsSigned w128 (x -ℤ y)) (sym first) (sym second) (difference_fits (left *ℤ before) value (short_product left before left_short c.requires.before) short)

pub returns : goal.returns
returns c =
    let left = c.in-Some.left in
    let before = c.args.before in
    let stood = c.args.stood in
    let value = whole_number_at c.args.kept.now c.args.row in
    let factor = c.in-Some-short_number.factor in
    let start = c.in-Some-short_number-2.start in
    let value_is : to_z w64 (of_z w64 value) ≡ value = kept_read value (c.requires.range c.args.row) in
    let short : IsShort value = subst IsShort value_is (c.is_short.ensures c.if-not-is_short.false) in
    let left_short : IsShort left = small_short left c.in-Some.ensures.small in
    let stood_short : IsShort stood = small_short stood c.requires.stood in
    let factor_short : IsShort factor = c.in-Some-short_number.ensures.short in
    let start_short : IsShort start = c.in-Some-short_number-2.ensures.short in
    let factor_read : to_z w64 (of_z w64 factor) ≡ factor = short_read factor factor_short in
    let start_read : to_z w64 (of_z w64 start) ≡ start = short_read start start_short in
    let first = shorts_read c.product.result left before left_short c.requires.before c.product.ensures in
    let second = widened c.from.result _ value c.from.ensures value_is short in
    let third = shorts_read c.product-2.result stood before stood_short c.requires.before c.product-2.ensures in
    let difference : factor ≡ to_z w128 (of_z w128 (left *ℤ before -ℤ value)) = c.in-Some-short_number.ensures.value ∙ ap (λ t. to_z w128 (of_z w128 t)) (λ i. first i -ℤ second i) in
    record {
      left = left;
      stands = c.in-Some.ensures.value;
      start_is = start_read ∙ c.in-Some-short_number-2.ensures.value ∙ third;
      start_kept = subst IsShortOrMark (sym start_read) (short_kept start start_short);
      factor_short = subst IsShort (sym factor_read) factor_short;
      leaving_short = short;
      factor_is = ap (λ f. f +ℤ value) factor_read ∙ difference_is factor (left *ℤ before) value (short_product left before left_short c.requires.before) short difference;
    }
