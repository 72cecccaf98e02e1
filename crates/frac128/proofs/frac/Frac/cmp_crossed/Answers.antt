use Rattle.std.proofs.Common.{arith, pos, ap, ◌∙◌, unsigned_abs}
use Rattle.std.specs.Prelude.{◌<ℤ◌, ◌≤ℤ◌}
use Rattle.std.specs.Int.{w128}
use Rattle.std.proofs.lemmas.Int.{to_z-of_z, ints}
use Rattle.frac128.proofs.ReadLemmas.{narrow_fits}
use Rattle.frac128.proofs.Terms.{fields_of}
use Rattle.frac128.proofs.OrderTerms.{cmp_neither_negative, cmp_both_negative, cmp_first_negative, cmp_second_negative}
use Rattle.frac128.proofs.frac.Frac.cmp_crossed.Goals as goal

pub returns-in-true-true : goal.returns-in-true-true
returns-in-true-true c =
    let a_fits = narrow_fits c.self.inside.numerator c.self.invariant.numerator_narrow in
    let b_fits = narrow_fits c.self.inside.denominator c.self.invariant.denominator_narrow in
    let c_fits = narrow_fits c.other.inside.numerator c.other.invariant.numerator_narrow in
    let d_fits = narrow_fits c.other.inside.denominator c.other.invariant.denominator_narrow in
    let self_sign : c.self.inside.numerator <ℤ pos 0 = omega (arith, ints) in
    let other_sign : c.other.inside.numerator <ℤ pos 0 = omega (arith, ints) in
    c.compare_products.ensures ∙ cmp_both_negative c.args.self.now c.args.other.now c.self.inside.numerator c.self.inside.denominator c.other.inside.numerator c.other.inside.denominator (fields_of _ _ _ c.self.view_is c.self.invariant) (fields_of _ _ _ c.other.view_is c.other.invariant)
    _ _ _ _ (c.unsigned_abs-left.ensures.value ∙ ap unsigned_abs (to_z-of_z w128 c.self.inside.numerator a_fits)) (c.unsigned_abs-left_divisor.ensures.value ∙ ap unsigned_abs (to_z-of_z w128 c.self.inside.denominator b_fits)) (c.unsigned_abs-right.ensures.value ∙ ap unsigned_abs (to_z-of_z w128 c.other.inside.numerator c_fits)) (c.unsigned_abs-right_divisor.ensures.value ∙ ap unsigned_abs (to_z-of_z w128 c.other.inside.denominator d_fits)) self_sign other_sign

pub returns-in-true-false : goal.returns-in-true-false
returns-in-true-false c =
    let a_fits = narrow_fits c.self.inside.numerator c.self.invariant.numerator_narrow in
    let c_fits = narrow_fits c.other.inside.numerator c.other.invariant.numerator_narrow in
    let self_sign : c.self.inside.numerator <ℤ pos 0 = omega (arith, ints) in
    let other_sign : pos 0 ≤ℤ c.other.inside.numerator = omega (arith, ints) in
    cmp_first_negative c.args.self.now c.args.other.now c.self.inside.numerator c.self.inside.denominator c.other.inside.numerator c.other.inside.denominator (fields_of _ _ _ c.self.view_is c.self.invariant) (fields_of _ _ _ c.other.view_is c.other.invariant)
    self_sign other_sign

pub returns-in-false-true : goal.returns-in-false-true
returns-in-false-true c =
    let a_fits = narrow_fits c.self.inside.numerator c.self.invariant.numerator_narrow in
    let c_fits = narrow_fits c.other.inside.numerator c.other.invariant.numerator_narrow in
    let self_sign : pos 0 ≤ℤ c.self.inside.numerator = omega (arith, ints) in
    let other_sign : c.other.inside.numerator <ℤ pos 0 = omega (arith, ints) in
    cmp_second_negative c.args.self.now c.args.other.now c.self.inside.numerator c.self.inside.denominator c.other.inside.numerator c.other.inside.denominator (fields_of _ _ _ c.self.view_is c.self.invariant) (fields_of _ _ _ c.other.view_is c.other.invariant)
    self_sign other_sign

pub returns-in-false-false : goal.returns-in-false-false
returns-in-false-false c =
    let a_fits = narrow_fits c.self.inside.numerator c.self.invariant.numerator_narrow in
    let b_fits = narrow_fits c.self.inside.denominator c.self.invariant.denominator_narrow in
    let c_fits = narrow_fits c.other.inside.numerator c.other.invariant.numerator_narrow in
    let d_fits = narrow_fits c.other.inside.denominator c.other.invariant.denominator_narrow in
    let self_sign : pos 0 ≤ℤ c.self.inside.numerator = omega (arith, ints) in
    let other_sign : pos 0 ≤ℤ c.other.inside.numerator = omega (arith, ints) in
    c.compare_products-in-false-false.ensures ∙ cmp_neither_negative c.args.self.now c.args.other.now c.self.inside.numerator c.self.inside.denominator c.other.inside.numerator c.other.inside.denominator (fields_of _ _ _ c.self.view_is c.self.invariant) (fields_of _ _ _ c.other.view_is c.other.invariant)
    _ _ _ _ (c.unsigned_abs-left.ensures.value ∙ ap unsigned_abs (to_z-of_z w128 c.self.inside.numerator a_fits)) (c.unsigned_abs-left_divisor.ensures.value ∙ ap unsigned_abs (to_z-of_z w128 c.self.inside.denominator b_fits)) (c.unsigned_abs-right.ensures.value ∙ ap unsigned_abs (to_z-of_z w128 c.other.inside.numerator c_fits)) (c.unsigned_abs-right_divisor.ensures.value ∙ ap unsigned_abs (to_z-of_z w128 c.other.inside.denominator d_fits)) self_sign other_sign
