use Rattle.std.proofs.Common.{◌≡◌, ◌↔◌, IsTrue, ap₂, subst, to_z, of_z, w64}
use Rattle.std.specs.Int.{w128}
use Rattle.frac128.specs.Rational.{◌<ℚ◌}
use Rattle.frac128.specs.LowestTerms.{quotient_of}
use Rattle.basic_solution.proofs.SideLemmas.{over_decided, over_none}
use Rattle.basic_solution.proofs.ReadLemmas.{margin_again}
use Rattle.table_entries.proofs.ReadLemmas.{short_read, short_again, positive_again, product_read}
use Rattle.basic_solution.proofs.total_sides.is_total_over.Goals as goal

pub returns-in-Some : goal.returns-in-Some
returns-in-Some c =
    let d_is : to_z w64 (of_z w64 c.args.denominator) ≡ c.args.denominator = short_read c.args.denominator c.requires.denominator in
    let t_is : to_z w128 (of_z w128 c.args.total) ≡ c.args.total = product_read c.args.total c.requires.total in
    let call = c.is_quotient_above in
    over_decided c.args.high.now c.in-Some.bound (quotient_of c.args.total c.args.denominator) call.result c.in-Some.is
    (subst (λ x. IsTrue call.result ↔ (c.in-Some.bound <ℚ x)) (ap₂ quotient_of t_is d_is) call.ensures)

pub is_quotient_above-requires-clause-total : goal.is_quotient_above-requires-clause-total
is_quotient_above-requires-clause-total c = margin_again c.args.total c.requires.total

pub is_quotient_above-requires-clause-positive : goal.is_quotient_above-requires-clause-positive
is_quotient_above-requires-clause-positive c = positive_again c.args.denominator c.requires.denominator c.requires.positive

pub is_quotient_above-requires-clause-denominator : goal.is_quotient_above-requires-clause-denominator
is_quotient_above-requires-clause-denominator c = short_again c.args.denominator c.requires.denominator

pub returns-in-None : goal.returns-in-None
returns-in-None c = over_none c.args.high.now (quotient_of c.args.total c.args.denominator) c.in-None.is
