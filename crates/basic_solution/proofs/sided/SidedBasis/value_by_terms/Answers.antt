use Rattle.std.proofs.Common.{refl, subst, pos}
use Rattle.frac128.specs.Rational.{int}
use Rattle.whole_sums.proofs.ReadLemmas.{short_again, positive_again, denominator_again}
use Rattle.basic_solution.specs.Held.{IsSided, table}
use Rattle.basic_solution.proofs.PointLemmas.{value_answer, value_refusal}
use Rattle.basic_solution.proofs.sided.SidedBasis.value_by_terms.Goals as goal

pub whole_sum-requires-clause-positive : goal.whole_sum-requires-clause-positive
whole_sum-requires-clause-positive c = positive_again c.args.denominator c.requires.denominator c.requires.positive

pub whole_sum-requires-clause-denominator : goal.whole_sum-requires-clause-denominator
whole_sum-requires-clause-denominator c = short_again c.args.denominator c.requires.denominator

pub whole_sum-requires-clause-lawful : goal.whole_sum-requires-clause-lawful
whole_sum-requires-clause-lawful c = denominator_again c.args.denominator (record { positive = c.requires.positive; short = c.requires.denominator })

pub returns-in-Some : goal.returns-in-Some
returns-in-Some c = value_answer c.args.self.now (subst IsSided c.self.view_is c.self.invariant) c.args.row (int (pos 0)) c.in-Some.value refl (c.in-Some.ensures.fits, c.in-Some.ensures.value)

pub returns-in-Ok : goal.returns-in-Ok
returns-in-Ok c = value_answer c.args.self.now (subst IsSided c.self.view_is c.self.invariant) c.args.row c.whole.result c.in-Ok.value c.whole.ensures c.in-Ok.ensures

pub returns-in-Err : goal.returns-in-Err
returns-in-Err c =
    let s = c.args.self.now in
    let named = value_refusal s (subst IsSided c.self.view_is c.self.invariant) c.args.row ((table s).basic c.args.row) c.in-Err.variable c.in-Err.variable c.whole.result c.whole.ensures c.requires.row refl refl c.in-Err.ensures in
    c.point_step.ensures named.first
