-- What is alike has the same answers: a list that names nothing that is touched has the same numbers, to the first step without
-- room, and a region is empty in both models or in neither. And an edit leaves all but what it touches.
use Rattle.std.specs.Prelude.{◌≡◌, ◌↔◌, ℕ, ◌/◌, ◌<◌, ◌≤◌, ℤ, Bool, true, false, List, length, map, Some, Result}
use Rattle.frac128.specs.Rational.{ℚ}
use Rattle.lp_model.specs.Program.{Program}
use Rattle.lp_model.specs.Regions.{Path, IsEmptyRegion}
use Rattle.lp_model.specs.Formulations.{formulation}
use Rattle.lp_model.specs.Edits.{edited}
use Rattle.lp_model.specs.declared.types.ColId.{ColId}
use Rattle.lp_model.specs.declared.types.RowId.{RowId}
use Rattle.lp_model.specs.declared.types.CutRow.{CutRow}
use Rattle.lp_model.specs.declared.types.Edit.{Edit}
use Rattle.lp_model.specs.declared.types.WideStep.{WideStep}
use Rattle.cover_cuts.specs.Cuts.{IsPoolOf}
use Rattle.leaf_dual.specs.declared.dual.LagValue.{LagValue}
use Rattle.leaf_dual.specs.Dual.{Multipliers}
use Rattle.leaf_dual.specs.Answers.{IsDualAnswer, IsLagAnswer, IsFarkasAnswer}
use Rattle.leaf_totals.specs.declared.keeping.LeafTotals.{LeafTotals}
use Rattle.leaf_totals.specs.Keeping.{list_question, HasSideOfRow, IsSumOfShortTerms}
use Rattle.leaf_totals.specs.Moving.{IsMovedSide}
use Rattle.leaf_totals.specs.Likeness.{AreLikeTo, question_with}
use Rattle.spared_leaves.specs.declared.touched.Touched.{Touched}
use Rattle.spared_leaves.specs.declared.touched.Touched.TheVariants.{Nothing, RowSides, OneCost}
use Rattle.spared_leaves.specs.Touched.{touched_by, cost_touched, column_touched, leaves_list}
use Rattle.spared_leaves.specs.Alike.{AreAlikeBut, AreAlikeCuts}
use Rattle.spared_leaves.specs.Questions.{IsLikeQuestion}
use Rattle.spared_leaves.specs.Spared.{IsQuietLag, IsQuietFarkas, HasInEach, KeepsCrossing}

-- what is asked alike is answered alike, to the first step without room
abbrev pub LikeQuestionsLaw : Type 0
LikeQuestionsLaw =
    (M N : Program) (path : Path) (cuts others : List CutRow) (y z c d : ℕ → ℚ) (c₀ : ℚ) → IsLikeQuestion M N path cuts others y z c d → (r : Result LagValue WideStep) →
    IsDualAnswer (formulation M cuts) path y z c₀ c r ↔ IsDualAnswer (formulation N others) path y z c₀ d r

-- and what is kept of the totals of the one is true of the other, if that has no column less
abbrev pub LikeTotalsLaw : Type 0
LikeTotalsLaw =
    (M N : Program) (path : Path) (cuts others : List CutRow) (y z c d : ℕ → ℚ) (c₀ : ℚ) → IsLikeQuestion M N path cuts others y z c d → length M.cols ≤ length N.cols
    → AreLikeTo (length M.cols) (question_with (formulation M cuts) path y z c₀ c) (question_with (formulation N others) path y z c₀ d)

-- a list that names nothing that is touched has the same answers, where a column that is touched makes no step
abbrev pub LikeAnswersLaw : Type 0
LikeAnswersLaw =
    (t : Touched) (M N : Program) (cuts others : List CutRow) → AreAlikeBut t M N → AreAlikeCuts cuts others → (path : Path) (mult : Multipliers) → leaves_list t cuts others mult ≡ true → (r : Result LagValue WideStep) →
    (HasInEach (IsQuietLag path mult) (cost_touched t) (formulation M cuts) (formulation N others) → IsLagAnswer (formulation M cuts) path mult r ↔ IsLagAnswer (formulation N others) path mult r)
    × (HasInEach (IsQuietFarkas path mult) (column_touched t) (formulation M cuts) (formulation N others) → IsFarkasAnswer (formulation M cuts) path mult r ↔ IsFarkasAnswer (formulation N others) path mult r)

-- and what is kept of its totals stands, if there is no column less
abbrev pub LikeLagTotalsLaw : Type 0
LikeLagTotalsLaw =
    (t : Touched) (M N : Program) (cuts others : List CutRow) → AreAlikeBut t M N → AreAlikeCuts cuts others → (path : Path) (mult : Multipliers) → leaves_list t cuts others mult ≡ true
    → HasInEach (IsQuietLag path mult) (cost_touched t) (formulation M cuts) (formulation N others) → length M.cols ≤ length N.cols
    → AreLikeTo (length M.cols) (list_question (formulation M cuts) path mult true) (list_question (formulation N others) path mult true)

abbrev pub LikeFarkasTotalsLaw : Type 0
LikeFarkasTotalsLaw =
    (t : Touched) (M N : Program) (cuts others : List CutRow) → AreAlikeBut t M N → AreAlikeCuts cuts others → (path : Path) (mult : Multipliers) → leaves_list t cuts others mult ≡ true
    → HasInEach (IsQuietFarkas path mult) (column_touched t) (formulation M cuts) (formulation N others) → length M.cols ≤ length N.cols
    → AreLikeTo (length M.cols) (list_question (formulation M cuts) path mult false) (list_question (formulation N others) path mult false)

-- where the cost of one column is touched, what is kept before that column stands
abbrev pub LikeCostTotalsLaw : Type 0
LikeCostTotalsLaw =
    (col : ColId) (M N : Program) (cuts others : List CutRow) → AreAlikeBut (OneCost col) M N → AreAlikeCuts cuts others → (path : Path) (mult : Multipliers) → leaves_list (OneCost col) cuts others mult ≡ true
    → col.0 ≤ length M.cols → length M.cols ≤ length N.cols
    → AreLikeTo col.0 (list_question (formulation M cuts) path mult true) (list_question (formulation N others) path mult true)

-- where the sides of one row are touched, and no cut of the list turned, what is asked is asked with another side of that row, if the
-- list takes one after the edit
abbrev pub MovedSideLaw : Type 0
MovedSideLaw =
    (row : RowId) (M N : Program) (cuts others : List CutRow) → AreAlikeBut (RowSides row) M N → AreAlikeCuts cuts others → length M.rows ≡ length N.rows → length cuts ≡ length others → length M.cols ≡ length N.cols
    → (path : Path) (mult : Multipliers) (costed : Bool) → leaves_list Nothing cuts others mult ≡ true → row.0 < length M.rows → HasSideOfRow (list_question (formulation N others) path mult costed) row.0
    → IsMovedSide row.0 (list_question (formulation M cuts) path mult costed) (list_question (formulation N others) path mult costed)

-- a number whose terms are known to be short stays one, where there is no further block of columns
abbrev pub LikeShortLaw : Type 0
LikeShortLaw =
    (M N : Program) (path : Path) (cuts others : List CutRow) (y z c d : ℕ → ℚ) (c₀ : ℚ) → IsLikeQuestion M N path cuts others y z c d → length M.cols ≤ length N.cols → length M.cols / 64 ≡ length N.cols / 64
    → (t : LeafTotals) (over : ℤ) → IsSumOfShortTerms (question_with (formulation M cuts) path y z c₀ c) t over → IsSumOfShortTerms (question_with (formulation N others) path y z c₀ d) t over

abbrev pub LikeRegionsLaw : Type 0
LikeRegionsLaw = (t : Touched) (M N : Program) (path : Path) → AreAlikeBut t M N → KeepsCrossing path (column_touched t) M N → IsEmptyRegion M path ↔ IsEmptyRegion N path

-- an edit leaves all but what it touches
abbrev pub LikeEditsLaw : Type 0
LikeEditsLaw = (M : Program) (e : Edit) (t : Touched) → touched_by M e ≡ Some t → AreAlikeBut t M (edited M e)

-- cuts of the same derivations are alike, at whatever models each counts
abbrev pub LikePoolsLaw : Type 0
LikePoolsLaw = (M N : Program) (cuts others : List CutRow) → IsPoolOf M cuts → IsPoolOf N others → map (λ (c : CutRow). c.from) cuts ≡ map (λ (c : CutRow). c.from) others → AreAlikeCuts cuts others
