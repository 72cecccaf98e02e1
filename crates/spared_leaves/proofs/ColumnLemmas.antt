-- What is left of a column's cost, and what is said of one column that may be given.
use Rattle.std.specs.Prelude.{◌≡◌, ℕ, Bool, true, false, not, nat_eq, List, length, Option, Some, None, IfSome, Ok}
use Rattle.std.proofs.Common.{subst, true≢false}
use Rattle.std.proofs.lemmas.Bool.{eqb-true}
use Rattle.frac128.specs.Rational.{ℚ}
use Rattle.lp_model.specs.Program.{Program, coefficient}
use Rattle.lp_model.specs.Formulations.{formulation, cut_coefficient}
use Rattle.lp_model.specs.declared.types.ColId.{ColId}
use Rattle.lp_model.specs.declared.types.CutRow.{CutRow}
use Rattle.leaf_dual.specs.Dual.{column_reduced_cost}
use Rattle.leaf_dual.specs.Answers.{EntriesFit}
use Rattle.leaf_dual.proofs.DualLemmas.{cuts-answer}
use Rattle.spared_leaves.specs.Touched.{is_apart}
use Rattle.spared_leaves.specs.private.Sums.{IsLeftOf}

-- what rows and then cuts leave
pub cost-left : (M : Program) (cuts : List CutRow) (y z c : ℕ → ℚ) (j : ℕ) (start : ℚ) → start ≡ c j → (rows : ℚ) → IsLeftOf start y (λ i. coefficient M i j) (length M.rows) rows → (v : ℚ) → IsLeftOf rows z (λ k. cut_coefficient cuts k j) (length cuts) v
    → EntriesFit (formulation M cuts) y z c j × (v ≡ column_reduced_cost (formulation M cuts) y z c j)
cost-left M cuts y z c j start is rows by_rows v by_cuts = cuts-answer M cuts y z c j rows (subst (λ s. IsLeftOf s y (λ i. coefficient M i j) (length M.rows) rows) is by_rows) (Ok v) by_cuts

pub some-too : {A : Type 0} (o : Option A) (P Q : A → Type 0) → ((a : A) → P a → Q a) → IfSome o P → IfSome o Q
some-too None P Q f h = h
some-too (Some a) P Q f h = f a h

-- what holds of the column that is given holds of each place that is not apart from it
pub at-given : (of : Option ColId) (col : ColId) → of ≡ Some col → (P : ℕ → Type 0) → P col.0 → (j : ℕ) → is_apart of j ≡ false → P j
at-given of col is P h j touched = by (nat_eq col.0 j) (λ i. nat_eq col.0 j) (subst (λ o. is_apart o j ≡ false) is touched)
  where
    by : (b : Bool) → nat_eq col.0 j ≡ b → not b ≡ false → P j
    by true e kept = subst P (eqb-true col.0 j e) h
    by false e kept = absurd (true≢false kept)
