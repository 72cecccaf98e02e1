-- The outcome of a point, with its constants and without them.
use Rattle.std.specs.Prelude.{◌≡◌, ℤ, ◌+ℤ◌, Ok}
use Rattle.std.specs.Int.{w128}
use Rattle.std.proofs.Common.{sym, subst, ◌∙◌, inr, to_z, of_z}
use Rattle.frac128.specs.Rational.{ℚ, int, IsWhole}
use Rattle.frac128.specs.Range.{IsNarrow, Fits, SumFits}
use Rattle.frac128.proofs.Integers.{int-num, int_injective}
use Rattle.frac128.proofs.ReadLemmas.{narrow_read}
use Rattle.frac128.proofs.Whole.{IsNarrow-from_Fits, SumFits-int, IsNarrow-from_SumFits}
use Rattle.lp_model.specs.Program.{Program, Point, IsFeasible}
use Rattle.lp_model.proofs.ModelLaws.{whole_value}
use Rattle.model_points.specs.Answers.{IsValueAnswer}
use Rattle.front_sweeps.specs.Steps.{IsBase}
use Rattle.wcn_driver.specs.Answers.{IsWideOutcome}
use Rattle.wcn_driver.specs.private.Founds.{IsSummedOutcome}

-- ---- a number as it is read

pub narrow_again : (n : ℤ) → IsNarrow n → IsNarrow (to_z w128 (of_z w128 n))
narrow_again n h = subst IsNarrow (sym (narrow_read n h)) h

-- ---- a sum with a constant

module _ (value : ℚ) (constant z : ℤ) (room : Fits value) (narrow : IsNarrow constant) (is : value ≡ int z) where
  pub sum_fits : IsNarrow (z +ℤ constant) → SumFits value (int constant)
  sum_fits sum = subst (λ (t : ℚ). SumFits t (int constant)) (sym is) (SumFits-int z constant (IsNarrow-from_Fits z (subst Fits is room)) narrow sum)

  pub sum_narrow : SumFits value (int constant) → IsNarrow (z +ℤ constant)
  sum_narrow fits = IsNarrow-from_SumFits z constant (subst (λ (t : ℚ). SumFits t (int constant)) is fits)

-- ---- an outcome

module _ (N : Program) (c d : ℤ) (x : Point) (base : IsBase N) (feasible : IsFeasible N x) (first second : ℚ) (first_is : IsValueAnswer N 1 x (Ok first)) (second_is : IsValueAnswer N 2 x (Ok second)) where
  pub first_whole : first ≡ int first.num
  first_whole = int-num first (subst IsWhole (sym first_is.1) (whole_value N 1 x base.first feasible))

  pub second_whole : second ≡ int second.num
  second_whole = int-num second (subst IsWhole (sym second_is.1) (whole_value N 2 x base.second feasible))

  -- where the sums have room it is the outcome
  pub outcome_found : Fits first → Fits second → IsNarrow (first.num +ℤ c) → IsNarrow (second.num +ℤ d) → IsSummedOutcome N c d x (record { f1 = first.num; f2 = second.num })
  outcome_found fits1 fits2 sum1 sum2 = record {
    has = record {
      has = record { first = sym first_is.1 ∙ first_whole; second = sym second_is.1 ∙ second_whole };
      first = fits1.numerator;
      second = fits2.numerator;
      first_sum = sum1;
      second_sum = sum2;
    };
    first = subst (λ (v : ℚ). IsValueAnswer N 1 x (Ok v)) first_whole first_is;
    second = subst (λ (v : ℚ). IsValueAnswer N 2 x (Ok v)) second_whole second_is;
  }

  pub first_wide : ¬ IsNarrow (first.num +ℤ c) → IsWideOutcome N c d x
  first_wide wide = inr (inr (λ o h.
      let same : o.f1 ≡ first.num = int_injective o.f1 first.num (sym h.has.first ∙ sym first_is.1 ∙ first_whole) in
      wide (subst (λ (z : ℤ). IsNarrow (z +ℤ c)) same h.first_sum)))

  pub second_wide : ¬ IsNarrow (second.num +ℤ d) → IsWideOutcome N c d x
  second_wide wide = inr (inr (λ o h.
      let same : o.f2 ≡ second.num = int_injective o.f2 second.num (sym h.has.second ∙ sym second_is.1 ∙ second_whole) in
      wide (subst (λ (z : ℤ). IsNarrow (z +ℤ d)) same h.second_sum)))
