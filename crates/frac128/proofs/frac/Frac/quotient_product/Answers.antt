use Rattle.std.proofs.Common.{rules, sym, subst, pos, ◌≡◌, ◌∙◌, unsigned_abs, to_z, of_z}
use Rattle.std.specs.Prelude.{◌*ℤ◌, int_div}
use Rattle.std.specs.Int.{w128}
use Rattle.std.proofs.lemmas.Int.{to_z-of_z}
use Rattle.frac128.specs.Gcd.{gcd}
use mathlib.Core.Path.{subst₂}
use Rattle.frac128.specs.Range.{IsNarrow}
use Rattle.frac128.specs.LowestTerms.{IsLowestTerms, quotient_of}
use Rattle.frac128.proofs.ReadLemmas.{narrow_read}
use Rattle.frac128.proofs.ProductTerms.{numerator_wide, denominator_wide, product_in_lowest, product_fits}
use Rattle.frac128.proofs.frac.Frac.quotient_product.Goals as goal

pub returns-in-Err : goal.returns-in-Err
returns-in-Err c =
    let a_read = narrow_read c.self.inside.numerator c.self.invariant.numerator_narrow in
    let b_read = narrow_read c.self.inside.denominator c.self.invariant.denominator_narrow in
    let c_read = narrow_read c.other.inside.numerator c.other.invariant.numerator_narrow in
    let d_read = narrow_read c.other.inside.denominator c.other.invariant.denominator_narrow in
    let A_read : to_z w128 (of_z w128 c.without_shared-left_numerator.result.0) ≡ c.without_shared-left_numerator.result.0 = to_z-of_z w128 c.without_shared-left_numerator.result.0 (search rules) in
    let C_read : to_z w128 (of_z w128 c.without_shared-right_numerator.result.0) ≡ c.without_shared-right_numerator.result.0 = to_z-of_z w128 c.without_shared-right_numerator.result.0 (search rules) in
    numerator_wide _ _ _ _ _ _ c.without_shared-left_numerator.result.0 c.without_shared-right_numerator.result.1 c.without_shared-right_numerator.result.0 c.without_shared-left_numerator.result.1 c.self.view_is c.other.view_is c.self.invariant c.other.invariant
    (c.without_shared-left_numerator.ensures.number ∙ (λ i. int_div (a_read i) (pos (gcd (unsigned_abs (a_read i)) (unsigned_abs (d_read i)))))) (c.without_shared-right_numerator.ensures.number ∙ (λ i. int_div (c_read i) (pos (gcd (unsigned_abs (c_read i)) (unsigned_abs (b_read i)))))) (subst (λ t. ¬ (IsNarrow t)) (λ i. A_read i *ℤ C_read i) c.in-Err.ensures)

pub returns-in-Err-product : goal.returns-in-Err-product
returns-in-Err-product c =
    let a_read = narrow_read c.self.inside.numerator c.self.invariant.numerator_narrow in
    let b_read = narrow_read c.self.inside.denominator c.self.invariant.denominator_narrow in
    let c_read = narrow_read c.other.inside.numerator c.other.invariant.numerator_narrow in
    let d_read = narrow_read c.other.inside.denominator c.other.invariant.denominator_narrow in
    let B_read : to_z w128 (of_z w128 c.without_shared-right_numerator.result.1) ≡ c.without_shared-right_numerator.result.1 = to_z-of_z w128 c.without_shared-right_numerator.result.1 (search rules) in
    let D_read : to_z w128 (of_z w128 c.without_shared-left_numerator.result.1) ≡ c.without_shared-left_numerator.result.1 = to_z-of_z w128 c.without_shared-left_numerator.result.1 (search rules) in
    denominator_wide _ _ _ _ _ _ c.without_shared-left_numerator.result.0 c.without_shared-right_numerator.result.1 c.without_shared-right_numerator.result.0 c.without_shared-left_numerator.result.1 c.self.view_is c.other.view_is c.self.invariant c.other.invariant
    (c.without_shared-right_numerator.ensures.denominator ∙ (λ i. int_div (b_read i) (pos (gcd (unsigned_abs (c_read i)) (unsigned_abs (b_read i)))))) (c.without_shared-left_numerator.ensures.denominator ∙ (λ i. int_div (d_read i) (pos (gcd (unsigned_abs (a_read i)) (unsigned_abs (d_read i)))))) (subst (λ t. ¬ (IsNarrow t)) (λ i. B_read i *ℤ D_read i) c.in-Err-product.ensures)

pub invariant_of-result : goal.invariant_of-result
invariant_of-result c =
    let a_read = narrow_read c.self.inside.numerator c.self.invariant.numerator_narrow in
    let b_read = narrow_read c.self.inside.denominator c.self.invariant.denominator_narrow in
    let c_read = narrow_read c.other.inside.numerator c.other.invariant.numerator_narrow in
    let d_read = narrow_read c.other.inside.denominator c.other.invariant.denominator_narrow in
    let A_read : to_z w128 (of_z w128 c.without_shared-left_numerator.result.0) ≡ c.without_shared-left_numerator.result.0 = to_z-of_z w128 c.without_shared-left_numerator.result.0 (search rules) in
    let C_read : to_z w128 (of_z w128 c.without_shared-right_numerator.result.0) ≡ c.without_shared-right_numerator.result.0 = to_z-of_z w128 c.without_shared-right_numerator.result.0 (search rules) in
    let B_read : to_z w128 (of_z w128 c.without_shared-right_numerator.result.1) ≡ c.without_shared-right_numerator.result.1 = to_z-of_z w128 c.without_shared-right_numerator.result.1 (search rules) in
    let D_read : to_z w128 (of_z w128 c.without_shared-left_numerator.result.1) ≡ c.without_shared-left_numerator.result.1 = to_z-of_z w128 c.without_shared-left_numerator.result.1 (search rules) in
    let N_read : to_z w128 (of_z w128 c.in-Ok.numerator) ≡ c.in-Ok.numerator = to_z-of_z w128 c.in-Ok.numerator (search rules) in
    let M_read : to_z w128 (of_z w128 c.in-Ok-product.denominator) ≡ c.in-Ok-product.denominator = to_z-of_z w128 c.in-Ok-product.denominator (search rules) in
    subst₂ IsLowestTerms (sym N_read) (sym M_read) (product_in_lowest _ _ _ _ _ _ _ _ _ _ c.self.view_is c.other.view_is c.self.invariant c.other.invariant _ _
    (c.without_shared-left_numerator.ensures.number ∙ (λ i. int_div (a_read i) (pos (gcd (unsigned_abs (a_read i)) (unsigned_abs (d_read i)))))) (c.without_shared-right_numerator.ensures.number ∙ (λ i. int_div (c_read i) (pos (gcd (unsigned_abs (c_read i)) (unsigned_abs (b_read i))))))
    (c.without_shared-right_numerator.ensures.denominator ∙ (λ i. int_div (b_read i) (pos (gcd (unsigned_abs (c_read i)) (unsigned_abs (b_read i)))))) (c.without_shared-left_numerator.ensures.denominator ∙ (λ i. int_div (d_read i) (pos (gcd (unsigned_abs (a_read i)) (unsigned_abs (d_read i))))))
    (subst (λ t. IsNarrow t × (c.in-Ok.numerator ≡ t)) (λ i. A_read i *ℤ C_read i) c.in-Ok.ensures) (subst (λ t. IsNarrow t × (c.in-Ok-product.denominator ≡ t)) (λ i. B_read i *ℤ D_read i) c.in-Ok-product.ensures))

pub returns : goal.returns
returns c =
    let a_read = narrow_read c.self.inside.numerator c.self.invariant.numerator_narrow in
    let b_read = narrow_read c.self.inside.denominator c.self.invariant.denominator_narrow in
    let c_read = narrow_read c.other.inside.numerator c.other.invariant.numerator_narrow in
    let d_read = narrow_read c.other.inside.denominator c.other.invariant.denominator_narrow in
    let A_read : to_z w128 (of_z w128 c.without_shared-left_numerator.result.0) ≡ c.without_shared-left_numerator.result.0 = to_z-of_z w128 c.without_shared-left_numerator.result.0 (search rules) in
    let C_read : to_z w128 (of_z w128 c.without_shared-right_numerator.result.0) ≡ c.without_shared-right_numerator.result.0 = to_z-of_z w128 c.without_shared-right_numerator.result.0 (search rules) in
    let B_read : to_z w128 (of_z w128 c.without_shared-right_numerator.result.1) ≡ c.without_shared-right_numerator.result.1 = to_z-of_z w128 c.without_shared-right_numerator.result.1 (search rules) in
    let D_read : to_z w128 (of_z w128 c.without_shared-left_numerator.result.1) ≡ c.without_shared-left_numerator.result.1 = to_z-of_z w128 c.without_shared-left_numerator.result.1 (search rules) in
    let N_read : to_z w128 (of_z w128 c.in-Ok.numerator) ≡ c.in-Ok.numerator = to_z-of_z w128 c.in-Ok.numerator (search rules) in
    let M_read : to_z w128 (of_z w128 c.in-Ok-product.denominator) ≡ c.in-Ok-product.denominator = to_z-of_z w128 c.in-Ok-product.denominator (search rules) in
    let here = product_fits _ _ _ _ _ _ _ _ _ _ c.self.view_is c.other.view_is c.self.invariant c.other.invariant _ _
    (c.without_shared-left_numerator.ensures.number ∙ (λ i. int_div (a_read i) (pos (gcd (unsigned_abs (a_read i)) (unsigned_abs (d_read i)))))) (c.without_shared-right_numerator.ensures.number ∙ (λ i. int_div (c_read i) (pos (gcd (unsigned_abs (c_read i)) (unsigned_abs (b_read i))))))
    (c.without_shared-right_numerator.ensures.denominator ∙ (λ i. int_div (b_read i) (pos (gcd (unsigned_abs (c_read i)) (unsigned_abs (b_read i)))))) (c.without_shared-left_numerator.ensures.denominator ∙ (λ i. int_div (d_read i) (pos (gcd (unsigned_abs (a_read i)) (unsigned_abs (d_read i))))))
    (subst (λ t. IsNarrow t × (c.in-Ok.numerator ≡ t)) (λ i. A_read i *ℤ C_read i) c.in-Ok.ensures) (subst (λ t. IsNarrow t × (c.in-Ok-product.denominator ≡ t)) (λ i. B_read i *ℤ D_read i) c.in-Ok-product.ensures) in
    (here.0, (λ i. quotient_of (N_read i) (M_read i)) ∙ here.1)
