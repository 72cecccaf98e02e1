use Rattle.std.proofs.Common.{refl, sym, ap, subst, ◌∙◌, ◌≡◌, ◌<◌, ◌≤◌, ◌+◌, ◌*◌, ◌^◌, ◌<ℤ◌, ◌+ℤ◌, ◌*ℤ◌, ℕ, pos, unsigned_abs, get_or, arith, below_more, to_z, of_z, w64}
use Rattle.std.specs.Int.{w128}
use Rattle.frac128.specs.Rational.{ℚ, int}
use Rattle.frac128.specs.LowestTerms.{quotient_of}
use Rattle.checked_sum.specs.Steps.{partial}
use Rattle.checked_sum.proofs.StepLaws.{partial_none}
use Rattle.table_entries.specs.FlatSteps.{dense_entry}
use Rattle.table_entries.specs.WholeSteps.{IsShort, whole_number_at}
use Rattle.whole_sums.specs.Wholes.{IsWholeTerm, HasMargin}
use Rattle.whole_sums.proofs.SumLemmas.{zero_over, total_more, term_of_factor}
use Rattle.basic_solution.specs.Held.{IsSided, table, variables}
use Rattle.basic_solution.specs.RowTotals.{IsSmallNumber, HasSmallTerm}
use Rattle.basic_solution.specs.Standing.{listed_number}
use Rattle.basic_solution.specs.private.RowTotals.{IsRowTotal}
use Rattle.basic_solution.proofs.RowTotalLemmas.{size_more, margin_of}
use Rattle.basic_solution.proofs.ReadLemmas.{total_read, none_within, none_below}
use Rattle.basic_solution.proofs.StandingLemmas.{standing_total_of}
use Rattle.table_entries.proofs.ReadLemmas.{short_read, short_again}
use Rattle.basic_solution.proofs.sided.SidedBasis.standing_total_by_entries.Goals as goal

pub loop-turn-init : goal.loop-turn-init
loop-turn-init c =
    let now = c.args.self.now in
    let d_is : to_z w64 (of_z w64 c.args.denominator) ≡ c.args.denominator = short_read c.args.denominator c.requires.denominator in
    record {
      size = none_within;
      value = zero_over _ (subst (λ x. pos 0 <ℤ x) (sym d_is) c.requires.positive) ∙ partial_none (int (pos 0)) (λ j. (table now).entry c.args.row (get_or c.args.places.now j 0)) (listed_number now c.args.places.now);
      terms = λ k below. absurd (none_below k below);
    }

pub with_product-total-requires-clause-total : goal.with_product-total-requires-clause-total
with_product-total-requires-clause-total c =
    let few = c.columns-few.ensures.lawful.few in
    let columns = ap (λ s. s.tableau.columns) c.self.view_is in
    let activities = ap (λ s. s.tableau.activities) c.self.view_is in
    let less = c.loop-turn-test.true in
    let most = c.requires.standing.listed.few in
    margin_of (to_z w128 c.loop-turn.total-bits) c.loop-turn.turn (omega (arith, few, less, most, columns, activities)) c.loop-turn.invariant.size

pub with_product-total-requires-clause-number : goal.with_product-total-requires-clause-number
with_product-total-requires-clause-number c = short_again (whole_number_at c.args.numbers.now c.loop-turn.turn) (c.requires.standing.numbered.short c.loop-turn.turn c.loop-turn-test.true)

pub loop-turn-preserved : goal.loop-turn-preserved
loop-turn-preserved c =
    let now = c.args.self.now in
    let row = c.args.row in
    let places = c.args.places.now in
    let numbers = c.args.numbers.now in
    let a : ℕ → ℚ = λ j. (table now).entry row (get_or places j 0) in
    let x : ℕ → ℚ = listed_number now places in
    let d = c.args.denominator in
    let d' = to_z w64 (of_z w64 d) in
    let k = c.loop-turn.turn in
    let less : k < c.args.count = c.loop-turn-test.true in
    let before = c.loop-turn.invariant in
    let total = to_z w128 c.loop-turn.total-bits in
    let f = c.in-Some.factor in
    let n = whole_number_at numbers k in
    let n_short : IsShort n = c.requires.standing.numbered.short k less in
    let small : IsSmallNumber n = subst IsSmallNumber (short_read n n_short) (c.is_small.ensures c.if-not-is_small.false) in
    let f_short : IsShort f = c.in-Some.ensures.short in
    let d_is : d' ≡ d = short_read c.args.denominator c.requires.denominator in
    let positive : pos 0 <ℤ d' = subst (λ y. pos 0 <ℤ y) (sym d_is) c.requires.positive in
    let d_short : IsShort d' = subst IsShort (sym d_is) c.requires.denominator in
    let entry_is : a k ≡ dense_entry c.self.inside.tableau.columns c.self.inside.tableau.entries row (get_or places k 0) =
    subst (λ s. (table s).entry row (get_or places k 0) ≡ dense_entry c.self.inside.tableau.columns c.self.inside.tableau.entries row (get_or places k 0)) c.self.view_is refl in
    let a_is : a k ≡ quotient_of f d' = entry_is ∙ c.in-Some.ensures.value in
    let term : IsWholeTerm d' (a k) (x k) f n = term_of_factor (a k) (x k) f n d' positive f_short n_short a_is (c.requires.standing.numbered.stands k less small) in
    let few = c.columns-few.ensures.lawful.few in
    let columns = ap (λ s. s.tableau.columns) c.self.view_is in
    let activities = ap (λ s. s.tableau.activities) c.self.view_is in
    let most = c.requires.standing.listed.few in
    let margin : HasMargin total = margin_of total k (omega (arith, few, less, most, columns, activities)) before.size in
    let next = total +ℤ f *ℤ n in
    let size : unsigned_abs next ≤ (k + 1) * 2 ^ 93 = size_more total f n k f_short small before.size in
    let next_margin : HasMargin next = margin_of next (k + 1) (omega (arith, few, less, most, columns, activities)) size in
    let next' = to_z w128 (of_z w128 c.with_product-total.result) in
    let next_is : next' ≡ next = total_read c.with_product-total.result total f n f_short n_short next_margin c.with_product-total.ensures in
    record {
      size = subst (λ t. unsigned_abs t ≤ (k + 1) * 2 ^ 93) (sym next_is) size;
      value = total_more (int (pos 0)) a x k d' total (record { positive = positive; short = d_short }) margin f n term next' next_is (subst HasMargin (sym next_is) next_margin) before.value;
      terms = below_more (λ j. HasSmallTerm d' (a j) (x j)) k before.terms (f, (n, (term, small)));
    }

pub returns : goal.returns
returns c =
    let s = c.args.self.now in
    let places = c.args.places.now in
    let columns = ap (λ s. s.tableau.columns) c.self.view_is in
    let activities = ap (λ s. s.tableau.activities) c.self.view_is in
    let few : variables s < 2 ^ 32 = let w = c.columns-few.ensures.lawful.few in omega (arith, w, columns, activities) in
    let d_is : to_z w64 (of_z w64 c.args.denominator) ≡ c.args.denominator = short_read c.args.denominator c.requires.denominator in
    let past = c.loop-turn-test.false in
    let within = c.loop-turn.auto.turn-end in
    let all : c.loop-turn.turn ≡ c.args.count = omega (arith, past, within) in
    let total = to_z w128 c.loop-turn.total-bits in
    let inv = c.loop-turn.invariant in
    let positive : pos 0 <ℤ to_z w64 (of_z w64 c.args.denominator) = subst (λ y. pos 0 <ℤ y) (sym d_is) c.requires.positive in
    let short : IsShort (to_z w64 (of_z w64 c.args.denominator)) = subst IsShort (sym d_is) c.requires.denominator in
    subst (λ d. IsRowTotal s c.args.row d total) d_is
    (standing_total_of s (subst IsSided c.self.view_is c.self.invariant) few c.args.row places c.args.count c.requires.standing.listed _ positive short
    (λ j q. inv.terms j (subst (λ i. j < i) (sym all) q)) total (subst (λ i. unsigned_abs total ≤ i * 2 ^ 93) all inv.size)
    (inv.value ∙ ap (partial (int (pos 0)) (λ j. (table s).entry c.args.row (get_or places j 0)) (listed_number s places)) all))
