-- From the loops of the test of a direction to what it answers, and what an answer tells.
use Rattle.std.specs.Prelude.{◌≡◌, ◌↔◌, ℕ, ◌<◌, Bool, true, false, IsTrue, List, length, get_or, pos, None, Result, Ok, Err}
use Rattle.std.proofs.Common.{refl, sym, ap, subst, ◌∙◌, inl, inr, arith}
use Rattle.std.proofs.lemmas.Bool.{cases_order, false≢true}
use Rattle.frac128.specs.Rational.{ℚ, int, ◌*ℚ◌, ◌<ℚ◌}
use Rattle.frac128.specs.RationalRing.{zero-+ℚ}
use Rattle.frac128.specs.Sums.{sum_below}
use Rattle.checked_sum.specs.Steps.{IsFirstWide, partial}
use Rattle.checked_sum.proofs.AnswerLaws.{first_wide_unique}
use Rattle.lp_model.specs.Program.{Program, Point, coordinate, coefficient, cost, lower, upper, is_integer, in_least_form}
use Rattle.lp_model.specs.declared.types.Col.{Col}
use Rattle.lp_model.specs.declared.types.Row.{Row}
use Rattle.lp_model.specs.declared.types.WideStep.{WideStep}
use Rattle.lp_model.proofs.ElementLemmas.{of_element-read, get_or-read}
use Rattle.model_points.specs.Answers.{RowFits, IsActivityAnswer, value_step, activity_step}
use Rattle.model_points.specs.Rays.{GoesOn, ColumnGoesOn, ColumnsGoOn, RowGoesOn, direction_cost, IsRay, DirectionCostFits, IsFirstWideCost, RowIsKept, RowsAreKept, IsFirstPassed, IsFirstWideSum, IsRayJudged}
use Rattle.model_points.specs.Laws.{IsJudgedRightly}
use Rattle.model_points.proofs.AnswerLemmas.{activity_answer}

module _ (M : Program) (d : Point) where
  module _ (cols : List Col) (numbers : List ℚ) (k : ℕ) (col : Col) (number : ℚ) (cols_is : cols ≡ M.cols) (numbers_is : numbers ≡ d)
      (shape : length d ≡ length M.cols) (below : k < length M.cols) (col_is : col ≡ get_or cols k col) (number_is : number ≡ get_or numbers k number) where
    integer_is : col.int ≡ is_integer M k
    integer_is = of_element-read false (λ c. c.int) M.cols cols k col cols_is below col_is

    low_is : col.lo ≡ lower M k
    low_is = of_element-read None (λ c. c.lo) M.cols cols k col cols_is below col_is

    high_is : col.up ≡ upper M k
    high_is = of_element-read None (λ c. c.up) M.cols cols k col cols_is below col_is

    read_is : number ≡ coordinate d k
    read_is = get_or-read (int (pos 0)) d numbers k number numbers_is (let b : k < length d = omega arith in b) number_is

    pub column-goes : (IsTrue col.int → number ≡ int (pos 0)) × GoesOn col.lo col.up number → ColumnGoesOn M d k
    column-goes h = record {
      integer = subst (λ P. P) (λ i. IsTrue (integer_is i) → read_is i ≡ int (pos 0)) h.0;
      bounds = subst (λ P. P) (λ i. GoesOn (low_is i) (high_is i) (read_is i)) h.1;
    }

    pub column-passed : ¬ ((IsTrue col.int → number ≡ int (pos 0)) × GoesOn col.lo col.up number) → ¬ ColumnsGoOn M d
    column-passed h all = h (
      subst (λ P. P) (λ i. IsTrue (sym integer_is i) → sym read_is i ≡ int (pos 0)) (all k below).integer,
      subst (λ P. P) (λ i. GoesOn (sym low_is i) (sym high_is i) (sym read_is i)) (all k below).bounds,
    )

  module _ (rows : List Row) (i : ℕ) (row : Row) (total : ℚ) (rows_is : rows ≡ M.rows) (within : i < length M.rows) (row_is : row ≡ get_or rows i row) (answer : IsActivityAnswer M d i (Ok total)) where
    goes_is : GoesOn row.lo row.hi total ≡ RowGoesOn M d i
    goes_is j = GoesOn (of_element-read None (λ r. r.lo) M.rows rows i row rows_is within row_is j) (of_element-read None (λ r. r.hi) M.rows rows i row rows_is within row_is j) (activity_answer M d i total answer j)

    pub row-kept : GoesOn row.lo row.hi total → RowIsKept M d i
    row-kept h = record { fits = answer.0; goes_on = subst (λ P. P) goes_is h }

    pub row-passed : RowsAreKept M d i → ¬ GoesOn row.lo row.hi total → IsFirstPassed M d i
    row-passed before h = record { within = within; before = before; fits = answer.0; passed = λ g. h (subst (λ P. P) (sym goes_is) g) }

  pub row-wide : (i : ℕ) (e : WideStep) → i < length M.rows → RowsAreKept M d i → IsActivityAnswer M d i (Err e) → IsFirstWideSum M d e
  row-wide i e within before answer = record { row = i; col = answer.0; within = within; before = before; here = answer.1.0; is = answer.1.1 }

  -- the cost from its sum
  pub cost_is : (sum least : ℚ) → sum ≡ partial (int (pos 0)) (λ j. cost M 1 j) (λ j. coordinate d j) (length M.cols) → least ≡ in_least_form M.sense sum → least ≡ direction_cost M d
  cost_is sum least e f = f ∙ ap (in_least_form M.sense) (e ∙ zero-+ℚ (sum_below (length M.cols) (λ j. cost M 1 j *ℚ coordinate d j)))

  pub ray_is : length d ≡ length M.cols → ColumnsGoOn M d → RowsAreKept M d (length M.rows) → direction_cost M d <ℚ int (pos 0) → IsRay M d
  ray_is shape columns rows improves = record { shape = shape; columns = columns; rows = λ i within. (rows i within).goes_on; improves = improves }

  -- ---- what an answer tells

  no_ray : IsRayJudged M d (Ok false) → ¬ IsRay M d
  no_ray (inl other) ray = other ray.shape
  no_ray (inr (shape, inl columns)) ray = columns ray.columns
  no_ray (inr (shape, inr (inl (columns, (i, row))))) ray = row.passed (ray.rows i row.within)
  no_ray (inr (shape, inr (inr (kept, (fits, not_below))))) ray = not_below ray.improves

  sum-kept : (e : WideStep) → IsFirstWideSum M d e → RowsAreKept M d (length M.rows) → ⊥
  sum-kept e wide kept = wide.here.here ((kept wide.row wide.within).fits wide.col wide.here.within)

  sum-passed : (e : WideStep) (i : ℕ) → IsFirstWideSum M d e → IsFirstPassed M d i → ⊥
  sum-passed e i wide row =
      elim (cases_order i wide.row) [
        | inl same ↦ wide.here.here (subst (RowFits M d) same row.fits wide.col wide.here.within)
        | inr apart ↦ elim apart [
          | inl before ↦ row.passed ((wide.before i before).goes_on)
          | inr past ↦ wide.here.here ((row.before wide.row past).fits wide.col wide.here.within)
        ]
      ]

  cost-fits : (e : WideStep) → IsFirstWideCost M d e → DirectionCostFits M d → ⊥
  cost-fits e (k, (wide, is)) fits = wide.here (fits k wide.within)

  no_step : (e : WideStep) → IsRayJudged M d (Ok true) → IsRayJudged M d (Err e) → ⊥
  no_step e (ray, (rows, fits)) (shape, inl (columns, wide)) = sum-kept e wide rows
  no_step e (ray, (rows, fits)) (shape, inr (kept, wide)) = cost-fits e wide fits

  no_breach : (e : WideStep) → IsRayJudged M d (Ok false) → IsRayJudged M d (Err e) → ⊥
  no_breach e (inl other) (shape, wide) = other shape
  no_breach e (inr (_, inl columns)) (shape, inl (goes, wide)) = columns goes
  no_breach e (inr (_, inl columns)) (shape, inr (kept, wide)) = columns kept.columns
  no_breach e (inr (_, inr (inl (columns, (i, row))))) (shape, inl (goes, wide)) = sum-passed e i wide row
  no_breach e (inr (_, inr (inl (columns, (i, row))))) (shape, inr (kept, wide)) = row.passed ((kept.rows i row.within).goes_on)
  no_breach e (inr (_, inr (inr (kept, (fits, not_below))))) (shape, inl (goes, wide)) = sum-kept e wide kept.rows
  no_breach e (inr (_, inr (inr (kept, (fits, not_below))))) (shape, inr (_, wide)) = cost-fits e wide fits

  abbrev WideIn : ℕ → ℕ → Type 0
  WideIn k i = IsFirstWide (int (pos 0)) (λ j. coefficient M i j) (λ j. coordinate d j) (length M.cols) k

  one_sum : (e f : WideStep) → IsFirstWideSum M d e → IsFirstWideSum M d f → e ≡ f
  one_sum e f a b =
      elim (cases_order a.row b.row) [
        | inl same ↦ a.is ∙ (λ t. activity_step (same t) (first_wide_unique (int (pos 0)) (λ j. coefficient M b.row j) (λ j. coordinate d j) (length M.cols) a.col b.col (subst (WideIn a.col) same a.here) b.here t)) ∙ sym b.is
        | inr apart ↦ elim apart [
          | inl before ↦ absurd (a.here.here ((b.before a.row before).fits a.col a.here.within))
          | inr past ↦ absurd (b.here.here ((a.before b.row past).fits b.col b.here.within))
        ]
      ]

  one_cost : (e f : WideStep) → IsFirstWideCost M d e → IsFirstWideCost M d f → e ≡ f
  one_cost e f (k, (a, is)) (l, (b, also)) =
      is ∙ ap value_step (first_wide_unique (int (pos 0)) (λ j. cost M 1 j) (λ j. coordinate d j) (length M.cols) k l a b) ∙ sym also

  one_step : (e f : WideStep) → IsRayJudged M d (Err e) → IsRayJudged M d (Err f) → e ≡ f
  one_step e f (shape, inl (goes, a)) (_, inl (_, b)) = one_sum e f a b
  one_step e f (shape, inl (goes, a)) (_, inr (kept, b)) = absurd (sum-kept e a kept.rows)
  one_step e f (shape, inr (kept, a)) (_, inl (goes, b)) = absurd (sum-kept f b kept.rows)
  one_step e f (shape, inr (_, a)) (_, inr (_, b)) = one_cost e f a b

  one : (r s : Result Bool WideStep) → IsRayJudged M d r → IsRayJudged M d s → r ≡ s
  one (Ok true) (Ok true) a b = refl
  one (Ok true) (Ok false) a b = absurd (no_ray b a.0)
  one (Ok true) (Err e) a b = absurd (no_step e a b)
  one (Ok false) (Ok true) a b = absurd (no_ray a b.0)
  one (Ok false) (Ok false) a b = refl
  one (Ok false) (Err e) a b = absurd (no_breach e a b)
  one (Err e) (Ok true) a b = absurd (no_step e b a)
  one (Err e) (Ok false) a b = absurd (no_breach e b a)
  one (Err e) (Err f) a b = ap Err (one_step e f a b)

  pub judged_rightly : IsJudgedRightly M d
  judged_rightly = record { ray = λ h. h.0; none = no_ray; one = one }

-- the sign of the cost decides at last
pub cost_judged : (M : Program) (d : Point) (b : Bool) (v : ℚ) → length d ≡ length M.cols → ColumnsGoOn M d → RowsAreKept M d (length M.rows) → DirectionCostFits M d
    → v ≡ direction_cost M d → (IsTrue b ↔ (v <ℚ int (pos 0))) → IsRayJudged M d (Ok b)
cost_judged M d true v shape columns rows fits v_is b_is =
    (record { shape = shape; columns = columns; rows = λ i w. (rows i w).goes_on; improves = subst (λ x. x <ℚ int (pos 0)) v_is (b_is.0 refl) }, (rows, fits))
cost_judged M d false v shape columns rows fits v_is b_is =
    inr (shape, inr (inr (record { columns = columns; rows = rows }, (fits, λ less. false≢true (b_is.1 (subst (λ x. x <ℚ int (pos 0)) (sym v_is) less))))))
