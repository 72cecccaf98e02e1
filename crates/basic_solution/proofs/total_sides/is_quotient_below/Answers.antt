use Rattle.std.proofs.Common.{◌≡◌, ◌↔◌, IsTrue, ap₂, subst, ◌∙◌, ◌*ℤ◌, to_z, of_z, w64}
use Rattle.std.specs.Int.{w128}
use Rattle.frac128.specs.Rational.{◌<ℚ◌}
use Rattle.frac128.specs.LowestTerms.{quotient_of}
use Rattle.table_entries.specs.WholeSteps.{IsShort}
use Rattle.basic_solution.proofs.RowTotalLemmas.{below_decided}
use Rattle.basic_solution.proofs.ReadLemmas.{margin_again, shorts_read}
use Rattle.table_entries.proofs.ReadLemmas.{short_read, short_again, positive_again, product_read}
use Rattle.basic_solution.proofs.total_sides.is_quotient_below.Goals as goal

pub returns-in-Some : goal.returns-in-Some
returns-in-Some c =
    let n = c.in-Some.number in
    let n_short : IsShort n = c.in-Some.ensures.short in
    let t_is : to_z w128 (of_z w128 c.args.total) ≡ c.args.total = product_read c.args.total c.requires.total in
    let made : to_z w128 (of_z w128 c.product.result) ≡ n *ℤ c.args.denominator = shorts_read c.product.result n c.args.denominator n_short c.requires.denominator c.product.ensures in
    below_decided c.args.total c.args.denominator n _ _ c.args.bound.now c.requires.positive c.in-Some.ensures.value t_is made

pub returns-in-None : goal.returns-in-None
returns-in-None c =
    let d_is : to_z w64 (of_z w64 c.args.denominator) ≡ c.args.denominator = short_read c.args.denominator c.requires.denominator in
    let t_is : to_z w128 (of_z w128 c.args.total) ≡ c.args.total = product_read c.args.total c.requires.total in
    subst (λ x. IsTrue c.is_below.result ↔ (x <ℚ c.args.bound.now)) (c.quotient.ensures ∙ ap₂ quotient_of t_is d_is) c.is_below.ensures

pub product-requires-clause-first : goal.product-requires-clause-first
product-requires-clause-first c = short_again c.in-Some.number c.in-Some.ensures.short

pub product-requires-clause-second : goal.product-requires-clause-second
product-requires-clause-second c = short_again c.args.denominator c.requires.denominator

pub quotient-requires-clause-total : goal.quotient-requires-clause-total
quotient-requires-clause-total c = margin_again c.args.total c.requires.total

pub quotient-requires-clause-positive : goal.quotient-requires-clause-positive
quotient-requires-clause-positive c = positive_again c.args.denominator c.requires.denominator c.requires.positive

pub quotient-requires-clause-denominator : goal.quotient-requires-clause-denominator
quotient-requires-clause-denominator c = short_again c.args.denominator c.requires.denominator
