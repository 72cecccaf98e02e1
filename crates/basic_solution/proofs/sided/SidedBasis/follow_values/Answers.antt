use Rattle.std.proofs.Common.{◌≡◌, ◌∙◌, ◌<◌, ◌*ℤ◌, ℤ, pos, length, set, IfSome, refl, sym, ap, subst, arith, below_more, to_z, of_z, w64, if◌then◌else◌, ◌==◌}
use Rattle.std.proofs.lemmas.List.{get_or-set_same, get_or-set_other}
use Rattle.frac128.specs.Rational.{int}
use Rattle.table_entries.specs.WholeSteps.{whole_number_at}
use Rattle.table_entries.proofs.ReadLemmas.{short_read, short_again, positive_again}
use Rattle.whole_sums.specs.Wholes.{IsDenominator}
use Rattle.basic_solution.specs.Held.{state, table}
use Rattle.basic_solution.specs.KeptCosts.{IsShortOrMark}
use Rattle.frac128.specs.LowestTerms.{quotient_of}
use Rattle.basic_solution.specs.RowTotals.{IsSmallNumber}
use Rattle.basic_solution.specs.private.Followed.{IsFollowed, IsFollowedValue, number_but}
use Rattle.basic_solution.proofs.ReadLemmas.{none_below, small_read, small_again}
use Rattle.basic_solution.proofs.FollowLemmas.{kept_read, but_kept, set_kept, unknown_values, values_kept}
use Rattle.basic_solution.proofs.sided.SidedBasis.follow_values.Goals as goal

pub loop-at-init : goal.loop-at-init
loop-at-init c = record { done = λ k below. absurd (none_below k below); rest = λ k w. refl; range = c.requires.range }

-- as `follow_costs` has it, with the step's start and factor
pub loop-at-preserved : goal.loop-at-preserved
loop-at-preserved c =
    let inv = c.loop-at.invariant in
    let now = c.args.self.now in
    let at = c.loop-at.at in
    let numbers = c.loop-at.kept in
    let old = c.args.kept.now in
    let row = c.args.row in
    let place = c.args.place in
    let start = c.in-Some-value_step.step.start in
    let before' = to_z w64 (of_z w64 c.args.before) in
    let after' = to_z w64 (of_z w64 c.denominator-after.result) in
    let factor = c.in-Some-value_step.step.factor in
    let n = to_z w64 (of_z w64 c.followed_value.result) in
    let less : at < length old = c.loop-at-test.true in
    let room : at < length numbers = let long = c.loop-at.auto.kept in omega (arith, less, long) in
    let n_is : n ≡ c.followed_value.result = kept_read c.followed_value.result c.followed_value.ensures.kept in
    let factor_is : to_z w64 (of_z w64 factor) ≡ factor = short_read factor c.in-Some-value_step.ensures.factor_short in
    let start_is : to_z w64 (of_z w64 start) ≡ start = kept_read start c.in-Some-value_step.ensures.start_kept in
    let number_is : to_z w64 (of_z w64 c.number_but-number.result) ≡ number_but row start old at =
    ap (λ t. to_z w64 (of_z w64 t)) (c.number_but-number.ensures ∙ ap (λ z. number_but row z numbers at) start_is)
    ∙ kept_read (number_but row start numbers at) (but_kept row start numbers at c.in-Some-value_step.ensures.start_kept inv.range)
    ∙ ap (λ t. if at == row then start else t) (inv.rest at (omega arith)) in
    let here : IsFollowedValue before' after' factor ((table now).entry at place) (number_but row start old at) n =
    subst (λ T. T) (λ i. IsFollowedValue before' after' (factor_is i) ((table now).entry at place) (number_is i) (sym n_is i)) c.followed_value.ensures.value in
    record {
      done = below_more (λ k. IsFollowedValue before' after' factor ((table now).entry k place) (number_but row start old k) (whole_number_at (set numbers at n) k)) at
          (λ k q. subst (λ v. IsFollowedValue before' after' factor ((table now).entry k place) (number_but row start old k) v) (sym (get_or-set_other numbers at k n (pos 0) (λ e. omega (arith, e, q)))) (inv.done k q))
          (subst (λ v. IsFollowedValue before' after' factor ((table now).entry at place) (number_but row start old at) v) (sym (get_or-set_same numbers at n (pos 0) room)) here);
      rest = λ k past. get_or-set_other numbers at k n (pos 0) (λ e. omega (arith, e, past)) ∙ inv.rest k (omega (arith, past));
      range = set_kept numbers at n room (subst IsShortOrMark (sym n_is) c.followed_value.ensures.kept) inv.range;
    }

pub value_step-requires-clause-stood : goal.value_step-requires-clause-stood
value_step-requires-clause-stood c = small_again c.in-Some.stood (subst (λ o. IfSome o (λ n. IsSmallNumber n)) c.in-Some.is c.requires.stood)

pub number_but-number-requires-clause-other : goal.number_but-number-requires-clause-other
number_but-number-requires-clause-other c =
    let start = c.in-Some-value_step.step.start in
    subst IsShortOrMark (sym (kept_read start c.in-Some-value_step.ensures.start_kept)) c.in-Some-value_step.ensures.start_kept

pub followed_value-requires-clause-factor : goal.followed_value-requires-clause-factor
followed_value-requires-clause-factor c = short_again c.in-Some-value_step.step.factor c.in-Some-value_step.ensures.factor_short

pub returns-in_default : goal.returns-in_default
returns-in_default c = λ s side sided some move stood kept.
    unknown_values c.args.self.now (to_z w64 (of_z w64 c.denominator-after.result)) c.forget.new.kept
    (record { positive = positive_again c.denominator-after.result c.denominator-after.ensures.short c.denominator-after.ensures.positive; short = short_again c.denominator-after.result c.denominator-after.ensures.short })
    (c.forget.ensures.size ∙ c.requires.size) c.forget.ensures.unknown

pub returns-in_default-value_step : goal.returns-in_default-value_step
returns-in_default-value_step c = λ s side sided some move stood kept.
    unknown_values c.args.self.now (to_z w64 (of_z w64 c.denominator-after.result)) c.forget-in_default-value_step.new.kept
    (record { positive = positive_again c.denominator-after.result c.denominator-after.ensures.short c.denominator-after.ensures.positive; short = short_again c.denominator-after.result c.denominator-after.ensures.short })
    (c.forget-in_default-value_step.ensures.size ∙ c.requires.size) c.forget-in_default-value_step.ensures.unknown

pub returns : goal.returns
returns c = λ s side sided some move stood_at kept.
    let inv = c.loop-at.invariant in
    let now = c.args.self.now in
    let row = c.args.row in
    let place = c.args.place in
    let old = c.args.kept.now in
    let stood = c.in-Some.stood in
    let step = c.in-Some-value_step.ensures in
    let stood_is : to_z w64 (of_z w64 stood) ≡ stood = small_read stood (subst (λ o. IfSome o (λ n. IsSmallNumber n)) c.in-Some.is c.requires.stood) in
    let d = c.denominator-after.result in
    let d' = to_z w64 (of_z w64 d) in
    let over : IsDenominator d' = record { positive = positive_again d c.denominator-after.ensures.short c.denominator-after.ensures.positive; short = short_again d c.denominator-after.ensures.short } in
    let before_is : to_z w64 (of_z w64 c.args.before) ≡ c.args.before = short_read c.args.before c.requires.before in
    let start_is : c.in-Some-value_step.step.start ≡ stood *ℤ c.args.before = step.start_is ∙ (λ i. stood_is i *ℤ before_is i) in
    let past = c.loop-at-test.false in
    let size = c.requires.size in
    let activities = move.activities in
    values_kept s now sided row side place (subst (λ n. row < n) move.activities c.requires.row) (subst (λ n. place < n) move.columns c.requires.place) some move
    c.args.before d' old c.loop-at.kept kept over stood step.left c.in-Some-value_step.step.factor
    (subst (λ o. IfSome o (λ n. (state s).at place ≡ int n)) c.in-Some.is stood_at) step.stands step.leaving_short
    (step.factor_is ∙ ap (λ b. step.left *ℤ b) before_is)
    (λ k q short. subst (λ T. T)
    (λ i. (e : ℤ) × (((table now).entry k place ≡ quotient_of e d') × IsFollowed (before_is i) d' c.in-Some-value_step.step.factor e (number_but row (start_is i) old k) (whole_number_at c.loop-at.kept k)))
    (inv.done k (omega (arith, past, size, activities, q)) short))
    (c.loop-at.auto.kept ∙ size) inv.range
