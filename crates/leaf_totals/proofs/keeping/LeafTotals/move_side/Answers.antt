use Rattle.std.proofs.Common.{◌≡◌, ◌≢◌, ◌≤◌, ◌+◌, ◌∙◌, ℕ, refl, sym, subst, Ok, Some, None, IfSome, arith}
use Rattle.frac128.specs.Rational.{ℚ, ◌-ℚ◌, ◌*ℚ◌}
use Rattle.lp_model.specs.Sides.{side_number}
use Rattle.whole_sums.proofs.ReadLemmas.{short_read}
use Rattle.kept_totals.specs.Short.{IsShortFraction}
use Rattle.leaf_dual.specs.declared.dual.LagValue.TheVariants.{Num}
use Rattle.leaf_totals.specs.declared.keeping.LeafTotals.{LeafTotals}
use Rattle.leaf_totals.specs.Keeping.{AnswersQuestion, IsSumOfShortTerms}
use Rattle.leaf_totals.specs.Moving.{row_product}
use Rattle.leaf_totals.proofs.MovedLemmas.{side_moved}
use Rattle.leaf_totals.proofs.keeping.LeafTotals.move_side.Goals as goal

pub returns-clause-moved : goal.returns-clause-moved
returns-clause-moved g c = λ i q r moves q_weight r_weight q_side r_side few are.
    let d = c.in-Some.over in
    let short : IsSumOfShortTerms q c.args.self.now d = subst (λ o. IfSome o (IsSumOfShortTerms q c.args.self.now)) c.in-Some.is are.over in
    let old_is = q_side ∙ c.in-Some-before.is in
    let new_is = r_side ∙ c.in-Some-after.is in
    let term = c.in-Some-growth_term.ensures in
    let here : IsShortFraction d (row_product r i) = subst (λ P. P) (λ t. IsShortFraction (short_read d short.denominator.short t) (sym r_weight t *ℚ side_number (sym new_is t))) term.short in
    let by_is = term.growth ∙ (λ t. sym r_weight t *ℚ side_number (sym new_is t) -ℚ sym q_weight t *ℚ side_number (sym old_is t)) in
    let new : LeafTotals = record { totals = c.move_by.new.self; ending = c.args.self.now.ending; over = c.args.self.now.over } in
    let moved = side_moved i d q r c.args.self.now new _ c.in-Some.is short.denominator few moves here by_is (c.move_by.ensures.moved c.if-not-move_by.false) refl refl are in
    (moved.0, (moved.1.0, subst (λ v. AnswersQuestion r (Ok (Num v))) (sym c.value.ensures) moved.1.1))

some_none : (v : ℚ) → Some v ≢ None
some_none v is = cc

same_count : (n : ℕ) → n ≤ n
same_count n = omega arith

no_more : (n k : ℕ) → n ≤ n + k
no_more n k = omega arith

pub returns-in_default-clause-moved : goal.returns-in_default-clause-moved
returns-in_default-clause-moved g c = tt

pub returns-in_default-clause-there : goal.returns-in_default-clause-there
returns-in_default-clause-there g c = tt

pub returns-in_default-clause-room : goal.returns-in_default-clause-room
returns-in_default-clause-room g c = refl

pub returns-in_default-clause-rises : goal.returns-in_default-clause-rises
returns-in_default-clause-rises g c = same_count _

pub returns-in_default-clause-none : goal.returns-in_default-clause-none
returns-in_default-clause-none g c = λ none. refl

pub returns-in_default-clause-steps : goal.returns-in_default-clause-steps
returns-in_default-clause-steps g c = no_more _ _

pub returns-then-not-is_denominator-clause-moved : goal.returns-then-not-is_denominator-clause-moved
returns-then-not-is_denominator-clause-moved g c = tt

pub returns-then-not-is_denominator-clause-there : goal.returns-then-not-is_denominator-clause-there
returns-then-not-is_denominator-clause-there g c = tt

pub returns-then-not-is_denominator-clause-room : goal.returns-then-not-is_denominator-clause-room
returns-then-not-is_denominator-clause-room g c = refl

pub returns-then-not-is_denominator-clause-rises : goal.returns-then-not-is_denominator-clause-rises
returns-then-not-is_denominator-clause-rises g c = same_count _

pub returns-then-not-is_denominator-clause-none : goal.returns-then-not-is_denominator-clause-none
returns-then-not-is_denominator-clause-none g c = λ none. refl

pub returns-then-not-is_denominator-clause-steps : goal.returns-then-not-is_denominator-clause-steps
returns-then-not-is_denominator-clause-steps g c = no_more _ _

pub returns-in_default-before-clause-moved : goal.returns-in_default-before-clause-moved
returns-in_default-before-clause-moved g c = tt

pub returns-in_default-before-clause-there : goal.returns-in_default-before-clause-there
returns-in_default-before-clause-there g c = tt

pub returns-in_default-before-clause-room : goal.returns-in_default-before-clause-room
returns-in_default-before-clause-room g c = refl

pub returns-in_default-before-clause-rises : goal.returns-in_default-before-clause-rises
returns-in_default-before-clause-rises g c = same_count _

pub returns-in_default-before-clause-none : goal.returns-in_default-before-clause-none
returns-in_default-before-clause-none g c = λ none. refl

pub returns-in_default-before-clause-steps : goal.returns-in_default-before-clause-steps
returns-in_default-before-clause-steps g c = no_more _ _

pub returns-in_default-after-clause-moved : goal.returns-in_default-after-clause-moved
returns-in_default-after-clause-moved g c = tt

pub returns-in_default-after-clause-there : goal.returns-in_default-after-clause-there
returns-in_default-after-clause-there g c = tt

pub returns-in_default-after-clause-room : goal.returns-in_default-after-clause-room
returns-in_default-after-clause-room g c = refl

pub returns-in_default-after-clause-rises : goal.returns-in_default-after-clause-rises
returns-in_default-after-clause-rises g c = same_count _

pub returns-in_default-after-clause-none : goal.returns-in_default-after-clause-none
returns-in_default-after-clause-none g c = λ none. refl

pub returns-in_default-after-clause-steps : goal.returns-in_default-after-clause-steps
returns-in_default-after-clause-steps g c = no_more _ _

pub returns-in_default-growth_term-clause-moved : goal.returns-in_default-growth_term-clause-moved
returns-in_default-growth_term-clause-moved g c = tt

pub returns-in_default-growth_term-clause-there : goal.returns-in_default-growth_term-clause-there
returns-in_default-growth_term-clause-there g c = tt

pub returns-in_default-growth_term-clause-room : goal.returns-in_default-growth_term-clause-room
returns-in_default-growth_term-clause-room g c = refl

pub returns-in_default-growth_term-clause-rises : goal.returns-in_default-growth_term-clause-rises
returns-in_default-growth_term-clause-rises g c = same_count _

pub returns-in_default-growth_term-clause-none : goal.returns-in_default-growth_term-clause-none
returns-in_default-growth_term-clause-none g c = λ none. refl

pub returns-in_default-growth_term-clause-steps : goal.returns-in_default-growth_term-clause-steps
returns-in_default-growth_term-clause-steps g c = no_more _ _

none_rises : (s t : ℕ) → t ≡ s → s ≤ t
none_rises s t e = omega (arith, e)

none_steps : (s t k : ℕ) → t ≡ s → t ≤ s + k
none_steps s t k e = omega (arith, e)

all_rise : (s t k : ℕ) → t ≡ s + k → s ≤ t
all_rise s t k e = omega (arith, e)

all_steps : (s t k : ℕ) → t ≡ s + k → t ≤ s + k
all_steps s t k e = omega (arith, e)

pub returns-then-not-move_by-clause-moved : goal.returns-then-not-move_by-clause-moved
returns-then-not-move_by-clause-moved g c = tt

pub returns-then-not-move_by-clause-there : goal.returns-then-not-move_by-clause-there
returns-then-not-move_by-clause-there g c = tt

pub returns-then-not-move_by-clause-room : goal.returns-then-not-move_by-clause-room
returns-then-not-move_by-clause-room g c = c.move_by.ensures.room

pub returns-then-not-move_by-clause-rises : goal.returns-then-not-move_by-clause-rises
returns-then-not-move_by-clause-rises g c = none_rises _ _ (c.move_by.ensures.none c.if-not-move_by.true)

pub returns-then-not-move_by-clause-none : goal.returns-then-not-move_by-clause-none
returns-then-not-move_by-clause-none g c = λ none. c.move_by.ensures.none c.if-not-move_by.true

pub returns-then-not-move_by-clause-steps : goal.returns-then-not-move_by-clause-steps
returns-then-not-move_by-clause-steps g c = none_steps _ _ _ (c.move_by.ensures.none c.if-not-move_by.true)

pub returns-clause-there : goal.returns-clause-there
returns-clause-there g c = λ e. some_none _ (sym c.in-Some-after.is ∙ e)

pub returns-clause-room : goal.returns-clause-room
returns-clause-room g c = c.move_by.ensures.room

pub returns-clause-rises : goal.returns-clause-rises
returns-clause-rises g c = all_rise _ _ _ (c.move_by.ensures.ticks c.if-not-move_by.false)

pub returns-clause-none : goal.returns-clause-none
returns-clause-none g c = λ e. absurd (some_none _ e)

pub returns-clause-steps : goal.returns-clause-steps
returns-clause-steps g c = all_steps _ _ _ (c.move_by.ensures.ticks c.if-not-move_by.false)
