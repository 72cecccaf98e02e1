-- What layers above use of models: lawful models by place, and whole objectives.
use Rattle.std.specs.Prelude.{◌≡◌, ◌≢◌, ℕ, [], ◌∷◌, ◌<◌, ◌≤◌, Bool, true, false, IsTrue, length, pos, None, IsSome}
use Rattle.std.proofs.Common.{refl, sym, ap, subst, ◌∙◌, arith}
use Rattle.std.specs.Ordering.{eq_by_cmp}
use Rattle.frac128.specs.Rational.{int, ◌*ℚ◌, IsWhole, rational_cmp}
use Rattle.frac128.proofs.Comparison.{eq_by_cmp-decides}
use Rattle.frac128.specs.RationalRing.{ring, reads_ℚ}
use Rattle.frac128.proofs.Integers.{IsWhole-int, IsWhole-+ℚ, IsWhole-*ℚ, IsWhole-sum_below}
use Rattle.frac128.specs.Sums.{sum_below}
use Rattle.lp_model.specs.Program.{Program, Point, coordinate, constant, cost, is_integer, lower, upper, low_side, high_side, value, IsFeasible, HasWholeObjective}
use Rattle.lp_model.specs.Lawful.{IsRange, IsLawfulColumn, IsLawful}
use Rattle.lp_model.specs.Limits.{row_limit, col_limit}
use Rattle.lp_model.proofs.ElementLemmas.{of_element-get, element}

-- ---- lawful models, by place

row_limit-le : (wide : Bool) → row_limit wide ≤ row_limit true
row_limit-le true = omega arith
row_limit-le false = omega arith

col_limit-le : (wide : Bool) → col_limit wide ≤ col_limit true
col_limit-le true = omega arith
col_limit-le false = omega arith

module _ (M : Program) (lawful : IsLawful M) where
  pub few_columns : length M.cols ≤ col_limit true
  few_columns = let few = lawful.limits.few_columns in let limit = col_limit-le M.wide in omega arith

  pub few_rows : length M.rows ≤ row_limit true
  few_rows = let few = lawful.limits.few_rows in let limit = row_limit-le M.wide in omega arith

  pub lawful_row : (i : ℕ) → i < length M.rows → IsRange (low_side M i) (high_side M i)
  lawful_row i below =
      let (r, is) = element M.rows i below in
      let range : IsRange r.lo r.hi = subst (λ s. IsRange s.lo s.hi) (sym is) (lawful.ranges i r below) in
      let lo = sym (of_element-get None (λ s. s.lo) M.rows i r below is) in
      let hi = sym (of_element-get None (λ s. s.hi) M.rows i r below is) in
      subst (λ P. P) (λ t. IsRange (lo t) (hi t)) range

  pub lawful_column : (j : ℕ) → j < length M.cols → IsTrue (is_integer M j) → IsSome (lower M j) × IsSome (upper M j)
  lawful_column j below h =
      let (c, is) = element M.cols j below in
      let column : IsLawfulColumn (length M.rows) c = subst (IsLawfulColumn (length M.rows)) (sym is) (lawful.columns j c below) in
      let integer : IsTrue c.int = subst IsTrue (of_element-get false (λ d. d.int) M.cols j c below is) h in
      let lo = sym (of_element-get None (λ d. d.lo) M.cols j c below is) in
      let up = sym (of_element-get None (λ d. d.up) M.cols j c below is) in
      let both = column.bounded integer in
      (subst IsSome lo both.0, subst IsSome up both.1)

-- ---- whole objectives

-- a feasible point has a whole value, where the objective is whole
pub whole_value : (M : Program) (w : ℕ) (x : Point) → HasWholeObjective M w → IsFeasible M x → IsWhole (value M w x)
whole_value M w x objective feasible =
    IsWhole-+ℚ (constant M w) (sum_below (length M.cols) (λ j. cost M w j *ℚ coordinate x j)) objective.constant
    (IsWhole-sum_below (length M.cols) (λ j. cost M w j *ℚ coordinate x j) (λ j below. by j below (eq_by_cmp rational_cmp (cost M w j) (int (pos 0))) refl))
  where
    by : (j : ℕ) → j < length M.cols → (b : Bool) → eq_by_cmp rational_cmp (cost M w j) (int (pos 0)) ≡ b → IsWhole (cost M w j *ℚ coordinate x j)
    by j below true e =
        let none : cost M w j ≡ int (pos 0) = (eq_by_cmp-decides (cost M w j) (int (pos 0))).0 e in
        let product : int (pos 0) *ℚ coordinate x j ≡ int (pos 0) = ring (coordinate x j ∷ []) (search reads_ℚ) tt in
        subst IsWhole (sym (ap (λ q. q *ℚ coordinate x j) none ∙ product)) (IsWhole-int (pos 0))
    by j below false e =
        let some : cost M w j ≢ int (pos 0) = λ h. let t : eq_by_cmp rational_cmp (cost M w j) (int (pos 0)) ≡ true = (eq_by_cmp-decides (cost M w j) (int (pos 0))).1 h in cc in
        IsWhole-*ℚ (cost M w j) (coordinate x j) (objective.costs j below).whole ((feasible.columns j below).whole ((objective.costs j below).costed some))
