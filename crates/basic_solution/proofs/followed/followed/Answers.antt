use Rattle.std.proofs.Common.{◌≡◌, ◌∙◌, ◌≤◌, ◌^◌, ℤ, ◌+ℤ◌, ◌*ℤ◌, unsigned_abs, FitsSigned, sym, ap, subst, arith, to_z, of_z, w64}
use Rattle.std.specs.Int.{w128}
use Rattle.std.proofs.lemmas.Int.{ints}
use mathlib.Core.Path.{subst₂}
use Rattle.table_entries.specs.WholeSteps.{IsShort}
use Rattle.table_entries.proofs.ReadLemmas.{short_read}
use Rattle.whole_sums.proofs.RoomLemmas.{short_product}
use Rattle.basic_solution.proofs.ReadLemmas.{shorts_read}
use Rattle.basic_solution.proofs.followed.followed.Goals as goal

sum_fits : (x y : ℤ) → unsigned_abs x ≤ 2 ^ 124 → unsigned_abs y ≤ 2 ^ 124 → FitsSigned w128 (x +ℤ y)
sum_fits x y h k = omega (arith, ints, h, k)

sum_read : (x y : ℤ) → unsigned_abs x ≤ 2 ^ 124 → unsigned_abs y ≤ 2 ^ 124 → to_z w128 (of_z w128 (x +ℤ y)) ≡ x +ℤ y
sum_read x y h k = omega (arith, ints, h, k)

pub overflow_add-total : goal.overflow_add-total
overflow_add-total c =
    let number = c.args.number in
    let after = c.args.after in
    let factor = c.args.factor in
    let entry = c.args.entry in
    let number_is : to_z w64 (of_z w64 number) ≡ number = omega (arith, ints) in
    let short : IsShort number = subst IsShort number_is (c.is_short.ensures c.if-not-is_short.false) in
    let first = shorts_read c.product.result number after short c.requires.after c.product.ensures in
    let second = shorts_read c.product-2.result factor entry c.requires.factor c.requires.entry c.product-2.ensures in
    subst₂ (λ x y. FitsSigned w128 (x +ℤ y)) (sym first) (sym second)
    (sum_fits (number *ℤ after) (factor *ℤ entry) (short_product number after short c.requires.after) (short_product factor entry c.requires.factor c.requires.entry))

pub returns-in-Some-clause-value : goal.returns-in-Some-clause-value
returns-in-Some-clause-value c = λ small.
    let number = c.args.number in
    let after = c.args.after in
    let factor = c.args.factor in
    let entry = c.args.entry in
    let quotient = c.in-Some.quotient in
    let number_is : to_z w64 (of_z w64 number) ≡ number = omega (arith, ints) in
    let short : IsShort number = subst IsShort number_is (c.is_short.ensures c.if-not-is_short.false) in
    let first = shorts_read c.product.result number after short c.requires.after c.product.ensures in
    let second = shorts_read c.product-2.result factor entry c.requires.factor c.requires.entry c.product-2.ensures in
    let quotient_is : to_z w64 (of_z w64 quotient) ≡ quotient = short_read quotient c.in-Some.ensures.short in
    let before_is : to_z w64 (of_z w64 c.args.before) ≡ c.args.before = omega (arith, ints) in
    let total_is = ap (λ t. to_z w128 (of_z w128 t)) (λ i. first i +ℤ second i)
    ∙ sum_read (number *ℤ after) (factor *ℤ entry) (short_product number after short c.requires.after) (short_product factor entry c.requires.factor c.requires.entry) in
    (short, (λ i. quotient_is i *ℤ sym before_is i) ∙ c.in-Some.ensures.product ∙ total_is)
