-- From the loops of the calls on points to what they answer.
use Rattle.std.specs.Prelude.{◌≡◌, ◌↔◌, ℕ, ◌<◌, Bool, true, false, IsTrue, List, [], ◌∷◌, length, get_or, pos, Ok, Err, None, if◌then◌else◌, nat_eq}
use Rattle.std.proofs.Common.{refl, sym, subst, ◌∙◌, inl, inr, arith}
use Rattle.frac128.specs.Rational.{ℚ, int}
use Rattle.frac128.specs.RationalRing.{ring, reads_ℚ}
use Rattle.lp_model.specs.Program.{Program, Point, activity, Within, IsAllowed, ColumnHolds, RowHolds, IsFeasible, is_integer, cost, IsWholeCost}
use Rattle.lp_model.specs.declared.types.Col.{Col}
use Rattle.lp_model.specs.declared.types.Row.{Row}
use Rattle.lp_model.specs.declared.types.WideStep.{WideStep}
use Rattle.lp_model.proofs.ElementLemmas.{of_element-read, get_or-read}
use Rattle.model_points.specs.Answers.{ColumnsHold, RowPasses, RowsPass, IsFirstBreach, IsActivityAnswer, IsFeasibilityAnswer}

-- an activity that is answered is the row's
pub activity_answer : (M : Program) (x : Point) (i : ℕ) (v : ℚ) → IsActivityAnswer M x i (Ok v) → v ≡ activity M x i
activity_answer M x i v answer = answer.1 ∙ ring (activity M x i ∷ []) (search reads_ℚ) tt

module _ (M : Program) (x : Point) where
  module _ (cols : List Col) (numbers : List ℚ) (k : ℕ) (col : Col) (number : ℚ) (cols_is : cols ≡ M.cols) (numbers_is : numbers ≡ x)
      (shape : length x ≡ length M.cols) (below : k < length M.cols) (col_is : col ≡ get_or cols k col) (number_is : number ≡ get_or numbers k number) where
    pub allowed_is : IsAllowed col.int col.lo col.up number ≡ ColumnHolds M x k
    allowed_is i =
        IsAllowed (of_element-read false (λ c. c.int) M.cols cols k col cols_is below col_is i) (of_element-read None (λ c. c.lo) M.cols cols k col cols_is below col_is i)
        (of_element-read None (λ c. c.up) M.cols cols k col cols_is below col_is i)
        (get_or-read (int (pos 0)) x numbers k number numbers_is (let b : k < length x = omega arith in b) number_is i)

    pub column-holds : IsAllowed col.int col.lo col.up number → ColumnHolds M x k
    column-holds h = subst (λ P. P) allowed_is h

    pub column-fails : ¬ IsAllowed col.int col.lo col.up number → ¬ ColumnsHold M x
    column-fails h all = h (subst (λ P. P) (sym allowed_is) (all k below))

  module _ (rows : List Row) (i : ℕ) (row : Row) (total : ℚ) (rows_is : rows ≡ M.rows) (within : i < length M.rows) (row_is : row ≡ get_or rows i row) (answer : IsActivityAnswer M x i (Ok total)) where
    holds_is : Within row.lo row.hi total ≡ RowHolds M x i
    holds_is j = Within (of_element-read None (λ r. r.lo) M.rows rows i row rows_is within row_is j) (of_element-read None (λ r. r.hi) M.rows rows i row rows_is within row_is j) (activity_answer M x i total answer j)

    pub row-passes : Within row.lo row.hi total → RowPasses M x i
    row-passes h = record { fits = answer.0; holds = subst (λ P. P) holds_is h }

    pub row-breach : RowsPass M x i → ¬ Within row.lo row.hi total → IsFirstBreach M x i
    row-breach before h = record { within = within; before = before; fits = answer.0; breach = λ r. h (subst (λ P. P) (sym holds_is) r) }

  pub row-wide : (i : ℕ) (e : WideStep) → length x ≡ length M.cols → ColumnsHold M x → i < length M.rows → RowsPass M x i → IsActivityAnswer M x i (Err e) → IsFeasibilityAnswer M x (Err e)
  row-wide i e shape columns within before answer = (i, (answer.0, (record { shape = shape; columns = columns; within = within; before = before; here = answer.1.0 }, answer.1.1)))

  pub all-pass : length x ≡ length M.cols → ColumnsHold M x → (n : ℕ) → n ≡ length M.rows → RowsPass M x n → IsFeasibilityAnswer M x (Ok true)
  all-pass shape columns n e pass =
      let all : RowsPass M x (length M.rows) = subst (RowsPass M x) e pass in
      (record { shape = shape; columns = columns; rows = λ i h. (all i h).holds }, all)

-- a column's cost in the words by place
module _ (M : Program) (w : ℕ) (cols : List Col) (k : ℕ) (col : Col) (cols_is : cols ≡ M.cols) (below : k < length M.cols) (col_is : col ≡ get_or cols k col) where
  pub whole_cost_is : IsWholeCost col.int (if nat_eq w 2 then col.cost2 else col.cost) ≡ IsWholeCost (is_integer M k) (cost M w k)
  whole_cost_is i =
      IsWholeCost (of_element-read false (λ c. c.int) M.cols cols k col cols_is below col_is i)
      (of_element-read (int (pos 0)) (λ c. if nat_eq w 2 then c.cost2 else c.cost) M.cols cols k col cols_is below col_is i)

-- where the call answers, it says whether the point is feasible
pub feasible_answer : (M : Program) (x : Point) (b : Bool) → IsFeasibilityAnswer M x (Ok b) → IsTrue b ↔ IsFeasible M x
feasible_answer M x true answer = ((λ e. answer.0), (λ h. refl))
feasible_answer M x false answer = ((λ e. let t : false ≡ true = e in cc), (λ h. absurd (never answer h)))
  where
    never : IsFeasibilityAnswer M x (Ok false) → ¬ IsFeasible M x
    never (inl other) h = other h.shape
    never (inr (shape, inl columns)) h = columns h.columns
    never (inr (shape, inr (i, breach))) h = breach.breach (h.rows i breach.within)
