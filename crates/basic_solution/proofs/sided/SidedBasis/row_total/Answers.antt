use Rattle.std.proofs.Common.{sym, ap, subst, ◌∙◌, ◌≡◌, ◌<◌, ◌≤◌, ◌+◌, ◌*◌, ◌^◌, ◌<ℤ◌, ◌+ℤ◌, ◌*ℤ◌, pos, unsigned_abs, arith, below_more, to_z, of_z, w64}
use Rattle.std.specs.Int.{w128}
use Rattle.frac128.specs.Rational.{int}
use Rattle.checked_sum.specs.Steps.{partial}
use Rattle.checked_sum.proofs.StepLaws.{partial_none}
use Rattle.table_entries.specs.WholeSteps.{IsShort}
use Rattle.whole_sums.specs.Wholes.{IsWholeTerm, HasMargin}
use Rattle.whole_sums.proofs.SumLemmas.{zero_over}
use Rattle.whole_sums.proofs.SumLemmas.{total_more}
use Rattle.basic_solution.specs.Held.{IsSided, state, table, variables}
use Rattle.basic_solution.specs.RowTotals.{IsSmallNumber, HasSmallTerm}
use Rattle.basic_solution.specs.private.RowTotals.{IsRowTotal}
use Rattle.basic_solution.proofs.RowTotalLemmas.{size_more, margin_of, total_of_row}
use Rattle.basic_solution.proofs.ReadLemmas.{small_short_again, total_read, none_within, none_below}
use Rattle.table_entries.proofs.ReadLemmas.{short_read, short_again}
use Rattle.basic_solution.proofs.sided.SidedBasis.row_total.Goals as goal

pub loop-place-init : goal.loop-place-init
loop-place-init c =
    let d_is : to_z w64 (of_z w64 c.args.denominator) ≡ c.args.denominator = short_read c.args.denominator c.requires.denominator in
    record {
      size = none_within;
      value = zero_over _ (subst (λ x. pos 0 <ℤ x) (sym d_is) c.requires.positive) ∙ partial_none (int (pos 0)) ((table c.args.self.now).entry c.args.row) (state c.args.self.now).at;
      terms = λ k below. absurd (none_below k below);
    }

pub with_product-total-requires-clause-total : goal.with_product-total-requires-clause-total
with_product-total-requires-clause-total c =
    let before = c.loop-place.invariant in
    let few = c.columns-place-end.ensures.lawful.few in
    let less = c.loop-place-test.true in
    let same = c.columns-place-end.ensures.value in
    margin_of (to_z w128 c.loop-place.total-bits) c.loop-place.place (omega (arith, few, less, same)) before.size

pub loop-place-preserved : goal.loop-place-preserved
loop-place-preserved c =
    let now = c.args.self.now in
    let a = (table now).entry c.args.row in
    let x = (state now).at in
    let d = c.args.denominator in
    let d' = to_z w64 (of_z w64 d) in
    let k = c.loop-place.place in
    let before = c.loop-place.invariant in
    let total = to_z w128 c.loop-place.total-bits in
    let f = c.in-Some.term.factor in
    let n = c.in-Some.term.number in
    let term : IsWholeTerm d' (a k) (x k) f n = c.in-Some.ensures.term in
    let small : IsSmallNumber n = c.in-Some.ensures.small in
    let d_is : d' ≡ d = short_read c.args.denominator c.requires.denominator in
    let positive : pos 0 <ℤ d' = subst (λ y. pos 0 <ℤ y) (sym d_is) c.requires.positive in
    let d_short : IsShort d' = subst IsShort (sym d_is) c.requires.denominator in
    let few = c.columns-place-end.ensures.lawful.few in
    let less = c.loop-place-test.true in
    let same = c.columns-place-end.ensures.value in
    let margin : HasMargin total = margin_of total k (omega (arith, few, less, same)) before.size in
    let next = total +ℤ f *ℤ n in
    let size : unsigned_abs next ≤ (k + 1) * 2 ^ 93 = size_more total f n k term.factor_short small before.size in
    let next_margin : HasMargin next = margin_of next (k + 1) (omega (arith, few, less, same)) size in
    let next' = to_z w128 (of_z w128 c.with_product-total.result) in
    let next_is : next' ≡ next = total_read c.with_product-total.result total f n term.factor_short term.number_short next_margin c.with_product-total.ensures in
    record {
      size = subst (λ t. unsigned_abs t ≤ (k + 1) * 2 ^ 93) (sym next_is) size;
      value = total_more (int (pos 0)) a x k d' total (record { positive = positive; short = d_short }) margin f n term next' next_is (subst HasMargin (sym next_is) next_margin) before.value;
      terms = below_more (λ j. HasSmallTerm d' (a j) (x j)) k before.terms (f, (n, (term, small)));
    }

pub returns : goal.returns
returns c =
    let s = c.args.self.now in
    let columns = ap (λ s. s.tableau.columns) c.self.view_is in
    let activities = ap (λ s. s.tableau.activities) c.self.view_is in
    let few : variables s < 2 ^ 32 = let w = c.columns-place-end.ensures.lawful.few in omega (arith, w, columns, activities) in
    let d_is : to_z w64 (of_z w64 c.args.denominator) ≡ c.args.denominator = short_read c.args.denominator c.requires.denominator in
    let past = c.loop-place-test.false in
    let within = c.loop-place.auto.place-end in
    let same = c.columns-place-end.ensures.value in
    let all : c.loop-place.place ≡ s.tableau.columns = omega (arith, past, within, same, columns) in
    let total = to_z w128 c.loop-place.total-bits in
    let inv = c.loop-place.invariant in
    let positive : pos 0 <ℤ to_z w64 (of_z w64 c.args.denominator) = subst (λ y. pos 0 <ℤ y) (sym d_is) c.requires.positive in
    let short : IsShort (to_z w64 (of_z w64 c.args.denominator)) = subst IsShort (sym d_is) c.requires.denominator in
    subst (λ d. IsRowTotal s c.args.row d total) d_is
    (total_of_row s (subst IsSided c.self.view_is c.self.invariant) few c.args.row _ positive short
    (λ k q. inv.terms k (subst (λ j. k < j) (sym all) q)) total (subst (λ j. unsigned_abs total ≤ j * 2 ^ 93) all inv.size)
    (inv.value ∙ ap (partial (int (pos 0)) ((table s).entry c.args.row) (state s).at) all))

pub with_product-total-requires-clause-factor : goal.with_product-total-requires-clause-factor
with_product-total-requires-clause-factor c = short_again c.in-Some.term.factor c.in-Some.ensures.term.factor_short

pub with_product-total-requires-clause-number : goal.with_product-total-requires-clause-number
with_product-total-requires-clause-number c = small_short_again c.in-Some.term.number c.in-Some.ensures.small
