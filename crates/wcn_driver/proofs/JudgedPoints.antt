-- A point that was judged feasible for an inner model with further rows has room at the base too: the steps of the base's rows are the same.
use Rattle.std.specs.Prelude.{◌≡◌, ◌≢◌, ℕ, ◌+◌, ◌<◌, ◌≤◌, Bool, true, false, if◌then◌else◌, nat_eq, List, [], ◌∷◌, ◌++◌, length, ℤ, pos, Some, None, Ok}
use Rattle.std.proofs.Common.{refl, subst, ◌∙◌, arith}
use Rattle.std.proofs.lemmas.Bool.{ne_eqb}
use Rattle.frac128.specs.Rational.{ℚ, int, ◌+ℚ◌}
use Rattle.checked_sum.specs.Steps.{AllFit}
use Rattle.lp_model.specs.Program.{Program, Point, coordinate, coefficient, entry_of, IsFeasible}
use Rattle.lp_model.specs.Edits.{Named, number_beside, is_zero, with_entry, edited}
use Rattle.lp_model.specs.declared.types.RowId.{RowId}
use Rattle.lp_model.specs.declared.types.Col.{Col}
use Rattle.model_points.specs.Answers.{IsFeasibilityAnswer}
use Rattle.inner_models.specs.Inner.{costed, with_objective, g1_name, g2_name, row_terms, capped, least2_model, left_model, right_model, pull_half, pull_model}
use Rattle.inner_models.proofs.ListLemmas.{of_element-map, of_element-same}
use Rattle.inner_models.proofs.AddedRow.{count_is, rows_more}
use Rattle.inner_models.proofs.Objectives.{objective-count}

-- ---- coefficients of the rows that there were

entry_of-other : (i n : ℕ) (x : ℚ) (es : List (RowId × ℚ)) → n ≢ i → entry_of i (es ++ (record { 0 = n }, x) ∷ []) ≡ entry_of i es
entry_of-other i n x [] apart = rw (ne_eqb n i apart) refl
entry_of-other i n x (e ∷ es) apart = by (nat_eq e.0.0 i) (entry_of-other i n x es apart)
  where
    by : (b : Bool) → entry_of i (es ++ (record { 0 = n }, x) ∷ []) ≡ entry_of i es → (if b then e.1 else entry_of i (es ++ (record { 0 = n }, x) ∷ [])) ≡ (if b then e.1 else entry_of i es)
    by true rest = refl
    by false rest = rest

entered-old : (i n : ℕ) (x : ℚ) (c : Col) → n ≢ i → entry_of i (with_entry n x c).rows ≡ entry_of i c.rows
entered-old i n x c apart = by (is_zero x)
  where
    by : (b : Bool) → entry_of i (if b then c.rows else c.rows ++ (record { 0 = n }, x) ∷ []) ≡ entry_of i c.rows
    by true = refl
    by false = entry_of-other i n x c.rows apart

objective_coefficient : (f : Col → ℚ) (N : Program) (i j : ℕ) → coefficient (with_objective f N) i j ≡ coefficient N i j
objective_coefficient f N i j = of_element-map (int (pos 0)) (λ c. entry_of i c.rows) (costed f) N.cols j

capped_coefficient : (N : Program) (name : List ℕ) (hi : ℚ) (named : Named) (i j : ℕ) → i < length N.rows → coefficient (edited N (capped name hi named)) i j ≡ coefficient N i j
capped_coefficient N name hi named i j below =
    of_element-map (int (pos 0)) (λ c. entry_of i c.rows) (λ c. with_entry (length N.rows) (number_beside c.name named) c) N.cols j
    ∙ of_element-same (int (pos 0)) (λ c. entry_of i (with_entry (length N.rows) (number_beside c.name named) c).rows) (λ c. entry_of i c.rows)
    (λ c. entered-old i (length N.rows) (number_beside c.name named) c (λ same. absurd (omega arith))) N.cols j

-- ---- what was judged

judged_base : (N P : Program) (x : Point) → IsFeasible N x → length P.cols ≡ length N.cols → length N.rows ≤ length P.rows → ((i j : ℕ) → i < length N.rows → coefficient P i j ≡ coefficient N i j)
    → IsFeasibilityAnswer P x (Ok true) → IsFeasibilityAnswer N x (Ok true)
judged_base N P x feasible count more same h = (
  feasible,
  (λ i within.
      let wider : i < length P.rows = omega arith in
      record { fits = subst (λ (T : Type 0). T) (λ t. AllFit (int (pos 0)) (λ j. same i j within t) (λ j. coordinate x j) (count t)) (h.1 i wider).fits; holds = feasible.rows i within }),
)

module _ (N : Program) (x : Point) (feasible : IsFeasible N x) where
  pub left_judged : (i1 : ℤ) → IsFeasibilityAnswer (left_model N i1) x (Ok true) → IsFeasibilityAnswer N x (Ok true)
  left_judged i1 h =
      let B : Program = least2_model N in
      let name = g1_name N in
      let terms : Named = row_terms (λ c. c.cost) N in
      let more : length (left_model N i1).rows ≡ length N.rows + 1 = rows_more B name None (Some (int i1)) terms in
      judged_base N (left_model N i1) x feasible (count_is B name None (Some (int i1)) terms ∙ objective-count (λ c. c.cost2) N) (omega arith)
      (λ i j below. capped_coefficient B name (int i1) terms i j below ∙ objective_coefficient (λ c. c.cost2) N i j) h

  pub right_judged : (i2 : ℤ) → IsFeasibilityAnswer (right_model N i2) x (Ok true) → IsFeasibilityAnswer N x (Ok true)
  right_judged i2 h =
      let name = g1_name N in
      let terms : Named = row_terms (λ c. c.cost2) N in
      let more : length (right_model N i2).rows ≡ length N.rows + 1 = rows_more N name None (Some (int i2)) terms in
      judged_base N (right_model N i2) x feasible (count_is N name None (Some (int i2)) terms) (omega arith) (λ i j below. capped_coefficient N name (int i2) terms i j below) h

  pub pull_judged : (r1 r2 : ℤ) → IsFeasibilityAnswer (pull_model N r1 r2) x (Ok true) → IsFeasibilityAnswer N x (Ok true)
  pull_judged r1 r2 h =
      let B : Program = with_objective (λ c. c.cost +ℚ c.cost2) N in
      let H : Program = pull_half N r1 in
      let first : Named = row_terms (λ c. c.cost) N in
      let second : Named = row_terms (λ c. c.cost2) N in
      let half : length (pull_half N r1).rows ≡ length N.rows + 1 = rows_more B (g1_name N) None (Some (int r1)) first in
      let more : length (pull_model N r1 r2).rows ≡ length (pull_half N r1).rows + 1 = rows_more H (g2_name N) None (Some (int r2)) second in
      judged_base N (pull_model N r1 r2) x feasible
      (count_is H (g2_name N) None (Some (int r2)) second ∙ count_is B (g1_name N) None (Some (int r1)) first ∙ objective-count (λ c. c.cost +ℚ c.cost2) N) (omega arith)
      (λ i j below.
      let wider : i < length (pull_half N r1).rows = omega arith in
      capped_coefficient H (g2_name N) (int r2) second i j wider ∙ capped_coefficient B (g1_name N) (int r1) first i j below ∙ objective_coefficient (λ c. c.cost +ℚ c.cost2) N i j) h
