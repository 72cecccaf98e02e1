-- The parts of a leaf's number from whole numbers over a denominator.
use Rattle.std.specs.Prelude.{◌≡◌, ◌≢◌, ℕ, ◌<◌, ◌+ℤ◌, ◌*ℤ◌, ℤ, List, length, Option, None, Ok}
use Rattle.std.proofs.Common.{refl, ap, ◌∙◌, inl, inr}
use Rattle.frac128.specs.Rational.{ℚ}
use Rattle.frac128.specs.LowestTerms.{quotient_of}
use Rattle.lp_model.specs.Program.{Program}
use Rattle.lp_model.specs.Regions.{Path, region_low, region_high}
use Rattle.lp_model.specs.Formulations.{formulation}
use Rattle.lp_model.specs.declared.types.CutRow.{CutRow}
use Rattle.leaf_dual.specs.declared.dual.LagValue.TheVariants.{Num}
use Rattle.leaf_dual.specs.Dual.{needed_side, column_side}
use Rattle.leaf_dual.specs.Answers.{side_number, LacksRowSide, LacksCutSide, LacksSide, IsDualAnswer}
use Rattle.leaf_dual.specs.private.Parts.{IsRowsTotal, IsCutsTotal, IsCostAnswer, IsColumnAnswer, IsColumnsTotal}
use Rattle.whole_sums.specs.Wholes.{HasMargin, IsDenominator, IsWholeTerm}
use Rattle.leaf_dual.proofs.DualLemmas.{column-ok}
use Rattle.leaf_dual.proofs.AnswerLemmas.{answer-num}
use Rattle.whole_sums.proofs.SumLemmas.{step_fits, step_value}

module _ (M : Program) (cuts : List CutRow) (path : Path) (y z c : ℕ → ℚ) where
  -- a column's term, added to a total over the denominator
  module _ (j : ℕ) (d reduced : ℤ) (answer : IsCostAnswer M cuts y z c j (Ok (quotient_of reduced d))) (side : Option ℚ) (side_is : side ≡ needed_side (quotient_of reduced d) (region_low M path j) (region_high M path j)) where
    pub side_over : side ≢ None → column_side (formulation M cuts) path y z c j ≢ None
    side_over some e = some (side_is ∙ ap (λ q. needed_side q (region_low M path j) (region_high M path j)) answer.1 ∙ e)

    pub column_over : (total f n next : ℤ) → IsDenominator d → HasMargin total → IsWholeTerm d (quotient_of reduced d) (side_number side) f n → next ≡ total +ℤ f *ℤ n → HasMargin next
        → IsColumnAnswer M cuts path y z c (quotient_of total d) j (Ok (quotient_of next d))
    column_over total f n next is room term next_is next_room =
        column-ok M cuts path y z c j (quotient_of reduced d) answer side side_is (quotient_of total d) (side_number side) refl (quotient_of next d)
        (step_fits (quotient_of reduced d) (side_number side) d total is room f n term next next_is next_room)
        (step_value (quotient_of reduced d) (side_number side) d total is room f n term next next_is next_room)

  -- the number from the three totals
  pub number_over : (c₀ rows start v : ℚ) → ¬ LacksRowSide M y → ¬ LacksCutSide cuts z → ((j : ℕ) → j < length M.cols → column_side (formulation M cuts) path y z c j ≢ None)
      → IsRowsTotal M y c₀ (Ok rows) → IsCutsTotal cuts z rows (Ok start) → IsColumnsTotal M cuts path y z c start (Ok v) → IsDualAnswer (formulation M cuts) path y z c₀ c (Ok (Num v))
  number_over c₀ rows start v row_sides cut_sides bounds rows_are cuts_are columns_are =
      let full : ¬ LacksSide (formulation M cuts) path y z c = λ h. elim h [
        | inl row ↦ row_sides row
        | inr other ↦ elim other [
          | inl cut ↦ cut_sides cut
          | inr column ↦ bounds column.0 column.1.0 column.1.1.1
        ]
      ] in
      answer-num M cuts path y z c c₀ full rows rows_are start cuts_are v columns_are
