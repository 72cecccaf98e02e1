-- A term from its factor and its side.
use Rattle.std.specs.Prelude.{◌≡◌, ◌≢◌, ℕ, List, Option, Some, None, MatchOption, Ok, Err}
use Rattle.std.proofs.Common.{ap, subst, ◌∙◌}
use Rattle.frac128.specs.Rational.{ℚ}
use Rattle.kept_totals.specs.Forms.{Product}
use Rattle.lp_model.specs.Program.{Program}
use Rattle.lp_model.specs.Regions.{Path, region_low, region_high}
use Rattle.lp_model.specs.Formulations.{formulation}
use Rattle.lp_model.specs.Sides.{side_number}
use Rattle.lp_model.specs.declared.types.CutRow.{CutRow}
use Rattle.lp_model.specs.declared.types.Var.{Var}
use Rattle.lp_model.specs.declared.types.Var.TheVariants.{Col, Row, Cut}
use Rattle.leaf_dual.specs.Dual.{needed_side, column_side, column_reduced_cost}
use Rattle.leaf_dual.specs.Answers.{EntriesFit, IsFirstWideEntry, bound_number}
use Rattle.leaf_dual.specs.private.Parts.{IsCostAnswer}

-- the term of a factor and a side, where that is there
abbrev pub IsSidedTerm : Option ℚ → ℚ → Option Product → Type 0
IsSidedTerm side factor r = MatchOption r (side ≡ None) (λ t. (side ≢ None) × (t ≡ record { factor = factor; number = side_number side }))

abbrev pub IsFoundTerm : Option ℚ → ℚ → Option Product → Type 0
IsFoundTerm side factor r = MatchOption r (¬ (side ≢ None)) (λ t. (side ≢ None) × (t ≡ record { factor = factor; number = side_number side }))

found : (side : Option ℚ) (factor : ℚ) (r : Option Product) → IsSidedTerm side factor r → IsFoundTerm side factor r
found side factor None none = λ some. some none
found side factor (Some t) is = is

pub found_by : (side needed : Option ℚ) (factor weight : ℚ) → side ≡ needed → factor ≡ weight → (r : Option Product) → IsSidedTerm side factor r → IsFoundTerm needed weight r
found_by side needed factor weight side_is factor_is r is = found needed weight r (subst (λ P. P) (λ i. IsSidedTerm (side_is i) (factor_is i) r) is)

-- a column's
module _ (M : Program) (cuts : List CutRow) (path : Path) (y z c : ℕ → ℚ) (j : ℕ) where
  abbrev HasTerm : Type 0
  HasTerm = EntriesFit (formulation M cuts) y z c j × (column_side (formulation M cuts) path y z c j ≢ None)

  abbrev IsColumnsTerm : Option Product → Type 0
  IsColumnsTerm r = MatchOption r (¬ HasTerm) (λ t. HasTerm × (t ≡ record { factor = column_reduced_cost (formulation M cuts) y z c j; number = bound_number (formulation M cuts) path y z c j }))

  placed : EntriesFit (formulation M cuts) y z c j → (r : Option Product) → IsSidedTerm (column_side (formulation M cuts) path y z c j) (column_reduced_cost (formulation M cuts) y z c j) r → IsColumnsTerm r
  placed entries None none = λ has. has.1 none
  placed entries (Some t) is = ((entries, is.0), is.1)

  -- from what is left of its cost
  pub column_found : (reduced : ℚ) → IsCostAnswer M cuts y z c j (Ok reduced) → (side : Option ℚ) → side ≡ needed_side reduced (region_low M path j) (region_high M path j) → (factor : ℚ) → factor ≡ reduced
      → (r : Option Product) → IsSidedTerm side factor r → IsColumnsTerm r
  column_found reduced answer side side_is factor factor_is r is =
      let there : side ≡ column_side (formulation M cuts) path y z c j = side_is ∙ ap (λ e. needed_side e (region_low M path j) (region_high M path j)) answer.1 in
      placed answer.0 r (subst (λ P. P) (λ i. IsSidedTerm (there i) ((factor_is ∙ answer.1) i) r) is)

  -- a step of its cost has no room
  pub column_lost : (by : Var) → IsCostAnswer M cuts y z c j (Err by) → ¬ HasTerm
  column_lost by wide has = refused by wide has.0
    where
      refused : (by : Var) → IsFirstWideEntry (formulation M cuts) y z c j by → ¬ EntriesFit (formulation M cuts) y z c j
      refused (Row row) h entries = h.here (entries.of_rows row.0 h.within)
      refused (Cut cut) h entries = h.1.here (entries.of_cuts cut.0 h.1.within)
      refused (Col col) h entries = h
