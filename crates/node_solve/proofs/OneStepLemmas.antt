-- What is judged at a last state has one answer: a number, a test and a value, or one first step without room.
use Rattle.std.specs.Prelude.{◌≡◌, ℕ, true, [], ◌∷◌, length, pos, Ok, Err}
use Rattle.std.proofs.Common.{refl, sym, ap, subst, ◌∙◌, inl, inr}
use Rattle.std.proofs.lemmas.Bool.{cases_order}
use Rattle.frac128.specs.Rational.{ℚ, int}
use Rattle.checked_sum.specs.Steps.{IsFirstWide}
use Rattle.checked_sum.proofs.AnswerLaws.{first_wide_unique}
use Rattle.lp_model.specs.Program.{Program, Point, coordinate, constant, cost, value, coefficient, least_value}
use Rattle.lp_model.specs.Regions.{Path}
use Rattle.lp_model.specs.Formulations.{Formulation}
use Rattle.lp_model.specs.declared.types.WideStep.{WideStep}
use Rattle.model_points.specs.Answers.{IsFeasibilityAnswer, IsValueAnswer, IsFirstWideRow, activity_step, value_step}
use Rattle.leaf_dual.specs.Dual.{Multipliers}
use Rattle.leaf_dual.specs.Answers.{IsLagAnswer, IsFarkasAnswer}
use Rattle.leaf_dual.specs.declared.dual.LagValue.{LagValue}
use Rattle.leaf_dual.specs.declared.dual.LagValue.TheVariants.{Num}
use Rattle.leaf_dual.proofs.OneAnswer.{lag_one, farkas_one}
use Rattle.leaf_judging.specs.Closing.{IsRefuted}
use Rattle.search_parts.specs.Points.{IsKeepable}
use Rattle.node_solve.specs.Works.{IsWholeAt, IsWideAtOptimum}
use Rattle.node_solve.proofs.EndLemmas.{ok_not_err, err_is}

-- ---- a point

module _ (M : Program) (x : Point) where
  abbrev WideIn : ℕ → ℕ → Type 0
  WideIn k i = IsFirstWide (int (pos 0)) (λ j. coefficient M i j) (λ j. coordinate x j) (length M.cols) k

  one_row : (i k j l : ℕ) → IsFirstWideRow M x i k → IsFirstWideRow M x j l → activity_step i k ≡ activity_step j l
  one_row i k j l first second =
      elim (cases_order i j) [
        | inl same ↦ (λ t. activity_step (same t) (first_wide_unique (int (pos 0)) (λ c. coefficient M j c) (λ c. coordinate x c) (length M.cols) k l (subst (WideIn k) same first.here) second.here t))
        | inr apart ↦ elim apart [
          | inl before ↦ absurd (first.here.here ((second.before i before).fits k first.here.within))
          | inr past ↦ absurd (second.here.here ((first.before j past).fits l second.here.within))
        ]
      ]

  one_test : (a b : WideStep) → IsFeasibilityAnswer M x (Err a) → IsFeasibilityAnswer M x (Err b) → a ≡ b
  one_test a b (i, (k, (first, is))) (j, (l, (second, also))) = is ∙ one_row i k j l first second ∙ sym also

  test_fits : (e : WideStep) → IsFeasibilityAnswer M x (Ok true) → ¬ IsFeasibilityAnswer M x (Err e)
  test_fits e good (i, (k, (wide, is))) = wide.here.here ((good.1 i wide.within).fits k wide.here.within)

  one_value_step : (a b : WideStep) → IsValueAnswer M 1 x (Err a) → IsValueAnswer M 1 x (Err b) → a ≡ b
  one_value_step a b (k, (first, is)) (l, (second, also)) =
      is ∙ ap value_step (first_wide_unique (constant M 1) (λ j. cost M 1 j) (λ j. coordinate x j) (length M.cols) k l first second) ∙ sym also

  value_fits : (e : WideStep) (v : ℚ) → IsValueAnswer M 1 x (Ok v) → ¬ IsValueAnswer M 1 x (Err e)
  value_fits e v h (k, (wide, is)) = wide.here (h.0 k wide.within)

-- ---- numbers

-- where Farkas multipliers refute the region their number has room
pub refuted_fits : (F : Formulation) (path : Path) (weights : Multipliers) (step : WideStep) → IsRefuted F path weights → ¬ IsFarkasAnswer F path weights (Err step)
refuted_fits F path [] step refuted wide = refuted
refuted_fits F path (m ∷ ms) step (v, (answer, _)) wide = ok_not_err v step (Ok v) refl (farkas_one F path (m ∷ ms) (Ok v) (Err step) answer wide)

pub one_farkas_step : (F : Formulation) (path : Path) (weights : Multipliers) (a b : WideStep) → IsFarkasAnswer F path weights (Err a) → IsFarkasAnswer F path weights (Err b) → a ≡ b
one_farkas_step F path weights a b first second = err_is a b (Err a) refl (farkas_one F path weights (Err a) (Err b) first second)

-- ---- an optimum

module _ (F : Formulation) (path : Path) (x : Point) (mult : Multipliers) where
  abbrev Number : LagValue
  Number = Num (least_value F.model 1 x)

  lag_fits : (step : WideStep) → IsLagAnswer F path mult (Ok Number) → ¬ IsLagAnswer F path mult (Err step)
  lag_fits step number wide = ok_not_err Number step (Ok Number) refl (lag_one F path mult (Ok Number) (Err step) number wide)

  -- where a fractional point has a number, no step lacks room
  pub fractional_fits : (step : WideStep) → IsLagAnswer F path mult (Ok Number) → ¬ IsWholeAt F.model x → ¬ IsWideAtOptimum F path x mult step
  fractional_fits step number not (inl lag) = lag_fits step number lag
  fractional_fits step number not (inr (_, (whole, _))) = not whole

  -- nor where a point can be kept
  pub keepable_fits : (step : WideStep) → IsLagAnswer F path mult (Ok Number) → IsKeepable F.model x → ¬ IsWideAtOptimum F path x mult step
  keepable_fits step number keep (inl lag) = lag_fits step number lag
  keepable_fits step number keep (inr (_, (_, inl test))) = test_fits F.model x step keep.feasible test
  keepable_fits step number keep (inr (_, (_, inr (_, wide)))) = value_fits F.model x step (value F.model 1 x) keep.value wide

  pub one_optimum_step : (a b : WideStep) → IsWideAtOptimum F path x mult a → IsWideAtOptimum F path x mult b → a ≡ b
  one_optimum_step a b (inl lag) (inl also) = err_is a b (Err a) refl (lag_one F path mult (Err a) (Err b) lag also)
  one_optimum_step a b (inl lag) (inr (number, _)) = absurd (lag_fits a number lag)
  one_optimum_step a b (inr (number, _)) (inl lag) = absurd (lag_fits b number lag)
  one_optimum_step a b (inr (_, (_, inl test))) (inr (_, (_, inl also))) = one_test F.model x a b test also
  one_optimum_step a b (inr (_, (_, inl test))) (inr (_, (_, inr (good, _)))) = absurd (test_fits F.model x a good test)
  one_optimum_step a b (inr (_, (_, inr (good, _)))) (inr (_, (_, inl test))) = absurd (test_fits F.model x b good test)
  one_optimum_step a b (inr (_, (_, inr (_, wide)))) (inr (_, (_, inr (_, also)))) = one_value_step F.model x a b wide also
