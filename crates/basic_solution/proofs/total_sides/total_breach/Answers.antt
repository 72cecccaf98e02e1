use Rattle.std.proofs.Common.{◌≡◌, sym, ◌∙◌, ap₂, subst, to_z, of_z, w64}
use Rattle.std.specs.Int.{w128}
use Rattle.std.proofs.lemmas.Bool.{false≢true}
use Rattle.frac128.specs.LowestTerms.{quotient_of}
use Rattle.basic_solution.specs.Breach.{IsBelowSide, IsAboveSide}
use Rattle.basic_solution.proofs.ReadLemmas.{margin_again}
use Rattle.table_entries.proofs.ReadLemmas.{short_read, short_again, positive_again, product_read}
use Rattle.basic_solution.proofs.total_sides.total_breach.Goals as goal

pub returns-then-is_total_under : goal.returns-then-is_total_under
returns-then-is_total_under c =
    let d_is : to_z w64 (of_z w64 c.args.denominator) ≡ c.args.denominator = short_read c.args.denominator c.requires.denominator in
    let t_is : to_z w128 (of_z w128 c.args.total) ≡ c.args.total = product_read c.args.total c.requires.total in
    subst (IsBelowSide c.args.low.now) (ap₂ quotient_of t_is d_is) (c.is_total_under.ensures.0 c.if-is_total_under.true)

pub returns-then-is_total_over : goal.returns-then-is_total_over
returns-then-is_total_over c =
    let d_is : to_z w64 (of_z w64 c.args.denominator) ≡ c.args.denominator = short_read c.args.denominator c.requires.denominator in
    let t_is : to_z w128 (of_z w128 c.args.total) ≡ c.args.total = product_read c.args.total c.requires.total in
    subst (IsAboveSide c.args.high.now) (ap₂ quotient_of t_is d_is) (c.is_total_over.ensures.0 c.if-is_total_over.true)

pub returns-else-is_total_over : goal.returns-else-is_total_over
returns-else-is_total_over c =
    let d_is : to_z w64 (of_z w64 c.args.denominator) ≡ c.args.denominator = short_read c.args.denominator c.requires.denominator in
    let t_is : to_z w128 (of_z w128 c.args.total) ≡ c.args.total = product_read c.args.total c.requires.total in (
      (λ h. false≢true (sym c.if-is_total_under.false ∙ c.is_total_under.ensures.1 (subst (IsBelowSide c.args.low.now) (sym (ap₂ quotient_of t_is d_is)) h))),
      (λ h. false≢true (sym c.if-is_total_over.false ∙ c.is_total_over.ensures.1 (subst (IsAboveSide c.args.high.now) (sym (ap₂ quotient_of t_is d_is)) h))),
    )

pub is_total_under-requires-clause-total : goal.is_total_under-requires-clause-total
is_total_under-requires-clause-total c = margin_again c.args.total c.requires.total

pub is_total_under-requires-clause-positive : goal.is_total_under-requires-clause-positive
is_total_under-requires-clause-positive c = positive_again c.args.denominator c.requires.denominator c.requires.positive

pub is_total_under-requires-clause-denominator : goal.is_total_under-requires-clause-denominator
is_total_under-requires-clause-denominator c = short_again c.args.denominator c.requires.denominator

pub is_total_over-requires-clause-total : goal.is_total_over-requires-clause-total
is_total_over-requires-clause-total c = margin_again c.args.total c.requires.total

pub is_total_over-requires-clause-positive : goal.is_total_over-requires-clause-positive
is_total_over-requires-clause-positive c = positive_again c.args.denominator c.requires.denominator c.requires.positive

pub is_total_over-requires-clause-denominator : goal.is_total_over-requires-clause-denominator
is_total_over-requires-clause-denominator c = short_again c.args.denominator c.requires.denominator
