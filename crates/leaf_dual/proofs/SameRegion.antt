-- A leaf's numbers depend on its region by the bounds alone: two lists of changes that leave the same bounds of each column
-- get the same answers, the first step without room included.
use Rattle.std.proofs.Common.{◌≡◌, ℕ, length, sym, ap, subst, ◌∙◌, inl, inr}
use Rattle.std.specs.Prelude.{Result, Ok, Err, pos, if◌then◌else◌}
use Rattle.std.specs.Option.{option_map}
use Rattle.frac128.specs.Rational.{ℚ, int, floor, ceil}
use Rattle.checked_sum.specs.Steps.{StepFitsAt}
use Rattle.lp_model.specs.Program.{Program, lower, upper, is_integer}
use Rattle.lp_model.specs.Regions.{Path, region_low, region_high, IsCrossed, IsEmptyRegion}
use Rattle.lp_model.specs.Formulations.{Formulation}
use Rattle.lp_model.specs.declared.types.Var.{Var}
use Rattle.lp_model.specs.declared.types.Var.TheVariants.{Col, Row, Cut}
use Rattle.lp_model.specs.declared.types.WideStep.{WideStep}
use Rattle.lp_model.specs.declared.types.WideStep.TheVariants.{LagEntry, LagTerm}
use Rattle.tight_regions.specs.SameBounds.{SameBounds}
use Rattle.leaf_dual.specs.declared.dual.LagValue.{LagValue}
use Rattle.leaf_dual.specs.declared.dual.LagValue.TheVariants.{Minus, Num}
use Rattle.leaf_dual.specs.Dual.{Multipliers, multiplier, cut_weight, needed_side, column_reduced_cost, column_side, times, plus, total_below, rows_number, cuts_number, dual_number, least_constant, least_cost}
use Rattle.leaf_dual.specs.Answers.{side_number, bound_number, cuts_total, ColumnFits, ColumnsFit, IsReachedColumn, IsFirstWideTerm, IsFirstWideStep, LacksSide, IsDualAnswer, IsLagAnswer, IsFarkasAnswer}

pub other_way : (R P : Path) → SameBounds R P → SameBounds P R
other_way R P s = record { low = sym s.low; high = sym s.high }

-- ---- the bounds of a region

module _ (M : Program) (R P : Path) (s : SameBounds R P) where
  pub low-same : (j : ℕ) → region_low M R j ≡ region_low M P j
  low-same j = ap (λ f. f j (if is_integer M j then option_map (λ l. int (ceil l)) (lower M j) else lower M j)) s.low

  pub high-same : (j : ℕ) → region_high M R j ≡ region_high M P j
  high-same j = ap (λ f. f j (if is_integer M j then option_map (λ h. int (floor h)) (upper M j) else upper M j)) s.high

  pub empty-same : IsEmptyRegion M R → IsEmptyRegion M P
  empty-same (j, (below, crossed)) = (j, (below, subst (λ T. T) (λ i. IsCrossed (low-same j i) (high-same j i)) crossed))

-- ---- the numbers of a leaf

module _ (F : Formulation) (R P : Path) (s : SameBounds R P) (y z c : ℕ → ℚ) where
  pub side-same : (j : ℕ) → column_side F R y z c j ≡ column_side F P y z c j
  side-same j i = needed_side (column_reduced_cost F y z c j) (low-same F.model R P s j i) (high-same F.model R P s j i)

  pub number-same : bound_number F R y z c ≡ bound_number F P y z c
  number-same i j = side_number (side-same j i)

  fits-same : (start : ℚ) (j : ℕ) → ColumnFits F R y z c start j → ColumnFits F P y z c start j
  fits-same start j f = record { entries = f.entries; term = subst (λ b. StepFitsAt start (column_reduced_cost F y z c) b j) number-same f.term }

  columns-same : (start : ℚ) (n : ℕ) → ColumnsFit F R y z c start n → ColumnsFit F P y z c start n
  columns-same start n f = λ j below. fits-same start j (f j below)

  reached-same : (c₀ : ℚ) (j : ℕ) → IsReachedColumn F R y z c₀ c j → IsReachedColumn F P y z c₀ c j
  reached-same c₀ j r = record { rows = r.rows; cuts = r.cuts; within = r.within; before = columns-same (cuts_total F y z c₀) j r.before }

  lacks-same : LacksSide F R y z c → LacksSide F P y z c
  lacks-same (inl row) = inl row
  lacks-same (inr (inl cut)) = inr (inl cut)
  lacks-same (inr (inr (j, (below, (entries, none))))) = inr (inr (j, (below, (entries, sym (side-same j) ∙ none))))

  pub dual-same : (c₀ : ℚ) → dual_number F R y z c₀ c ≡ dual_number F P y z c₀ c
  dual-same c₀ i =
      plus (plus (plus (Num c₀) (rows_number F.model y)) (cuts_number F.cuts z))
      (total_below (length F.model.cols) (λ j. times (column_reduced_cost F y z c j) (side-same j i)))

module _ (F : Formulation) (R P : Path) (s : SameBounds R P) (y z : ℕ → ℚ) (c₀ : ℚ) (c : ℕ → ℚ) where
  term-same : (of : Var) → IsFirstWideTerm F R y z c₀ c of → IsFirstWideTerm F P y z c₀ c of
  term-same (Row row) w = w
  term-same (Col col) w = (
    reached-same F R P s y z c c₀ col.0 w.0,
    w.1,
    λ t. w.2 (subst (λ b. StepFitsAt (cuts_total F y z c₀) (column_reduced_cost F y z c) b col.0) (sym (number-same F R P s y z c)) t),
  )
  term-same (Cut cut) w = w

  step-same : (step : WideStep) → IsFirstWideStep F R y z c₀ c step → IsFirstWideStep F P y z c₀ c step
  step-same (LagEntry col of) w = (reached-same F R P s y z c c₀ col.0 w.0, w.1)
  step-same (LagTerm of) w = term-same of w
  step-same _ w = w

  pub answer-same : (r : Result LagValue WideStep) → IsDualAnswer F R y z c₀ c r → IsDualAnswer F P y z c₀ c r
  answer-same (Ok Minus) a = lacks-same F R P s y z c a
  answer-same (Ok (Num q)) a = (
    λ l. a.0 (lacks-same F P R (other_way R P s) y z c l),
    a.1,
    a.2,
    columns-same F R P s y z c (cuts_total F y z c₀) (length F.model.cols) a.3,
    a.4 ∙ dual-same F R P s y z c c₀,
  )
  answer-same (Err step) a = (λ l. a.0 (lacks-same F P R (other_way R P s) y z c l), step-same step a.1)

-- ---- the answers

module _ (F : Formulation) (R P : Path) (s : SameBounds R P) (mult : Multipliers) where
  pub lag-same : (r : Result LagValue WideStep) → IsLagAnswer F R mult r → IsLagAnswer F P mult r
  lag-same r a = answer-same F R P s (multiplier mult) (cut_weight F.cuts mult) (least_constant F.model) (least_cost F.model) r a

  pub farkas-same : (r : Result LagValue WideStep) → IsFarkasAnswer F R mult r → IsFarkasAnswer F P mult r
  farkas-same r a = answer-same F R P s (multiplier mult) (cut_weight F.cuts mult) (int (pos 0)) (λ j. int (pos 0)) r a
