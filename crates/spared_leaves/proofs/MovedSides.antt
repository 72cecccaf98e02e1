-- Another side of one row, under a list no cut of which turned.
-- Idea: a model between the two, with the one's columns and the other's rows, differs from the other one in nothing, and from the one in
-- the sides of its rows alone.
use Rattle.std.specs.Prelude.{◌≡◌, ◌≢◌, ℕ, ◌<◌, true, false, not, List, length, pos, None}
use Rattle.std.proofs.Common.{refl, sym, ap, subst, ◌∙◌, inl, true≢false}
use Rattle.std.proofs.lemmas.Bool.{ne_eqb}
use Rattle.frac128.specs.Rational.{ℚ, int, ◌-ℚ◌, ◌*ℚ◌, neg_ℚ}
use Rattle.frac128.specs.Sums.{sum_below}
use Rattle.checked_sum.specs.Steps.{AllFit}
use Rattle.lp_model.specs.Program.{Program, coefficient}
use Rattle.lp_model.specs.Regions.{Path, region_low, region_high}
use Rattle.lp_model.specs.Sides.{side_number}
use Rattle.lp_model.specs.Formulations.{Formulation, formulation, cut_coefficient}
use Rattle.lp_model.specs.declared.types.RowId.{RowId}
use Rattle.lp_model.specs.declared.types.CutRow.{CutRow}
use Rattle.leaf_dual.specs.Dual.{Multipliers, multiplier, cut_weight, needed_side, row_side, column_reduced_cost, column_side, least_constant, least_cost}
use Rattle.leaf_dual.specs.Answers.{EntriesFit}
use Rattle.leaf_totals.specs.Likeness.{question_with}
use Rattle.leaf_totals.specs.Moving.{IsMovedSide}
use Rattle.spared_leaves.specs.declared.touched.Touched.TheVariants.{Nothing, RowSides}
use Rattle.spared_leaves.specs.Touched.{leaves_list}
use Rattle.spared_leaves.specs.Alike.{AreAlikeBut, AreAlikeCuts}
use Rattle.spared_leaves.specs.Questions.{IsSameColumn, IsLikeQuestion}
use Rattle.spared_leaves.specs.Laws.{MovedSideLaw}
use Rattle.spared_leaves.proofs.LikeAnswers.{constant-alike, costs-alike, weights, same-column, question}
use Rattle.spared_leaves.proofs.LikeQuestions.{cut_side-like, reduced-like, side-like, entries-like}

module _ (row : RowId) (M N : Program) (cuts others : List CutRow) (alike : AreAlikeBut (RowSides row) M N) (alike_cuts : AreAlikeCuts cuts others) (row_count : length M.rows ≡ length N.rows) (cut_count : length cuts ≡ length others) (column_count : length M.cols ≡ length N.cols) (path : Path) (mult : Multipliers) (left : leaves_list Nothing cuts others mult ≡ true)
    (within : row.0 < length M.rows) (there : row_side N (multiplier mult) row.0 ≢ None) where
  abbrev between : Program
  between = record M { rows = N.rows }

  between_alike : AreAlikeBut Nothing between N
  between_alike = record {
    sense = alike.sense;
    constant_is = alike.constant_is;
    cost_is = λ j kept. alike.cost_is j refl;
    columns = λ j kept. let same = alike.columns j refl in record { there = same.there; low = same.low; up = same.up; integer = same.integer };
    rows = λ i kept. record { there = ((λ h. h), (λ h. h)); low = refl; high = refl };
    entry = λ i j kept column. alike.entry i j refl refl;
  }

  abbrev F : Formulation
  F = formulation M cuts

  abbrev G : Formulation
  G = formulation N others

  abbrev H : Formulation
  H = formulation between cuts

  abbrev y : ℕ → ℚ
  y = multiplier mult

  abbrev z : ℕ → ℚ
  z = cut_weight cuts mult

  row_same : (k : ℕ) → k ≢ row.0 → row_side M y k ≡ row_side N y k
  row_same k other = let same = alike.rows k (ap not (ne_eqb row.0 k (λ e. other (sym e)))) in (λ t. needed_side (y k) (same.low t) (same.high t))

  module _ (c d : ℕ → ℚ) (costs_are : (j : ℕ) → c j ≡ d j) (c₀ d₀ : ℚ) (constants_are : c₀ ≡ d₀) where
    asked : IsLikeQuestion between N path cuts others y z c d
    asked = question Nothing between N cuts others between_alike alike_cuts path mult left c d None (λ j apart. costs_are j) (λ j apart. refl) (λ j touched. absurd (true≢false touched))

    same : (j : ℕ) → IsSameColumn between N path cuts others y z c d j
    same j = same-column Nothing between N cuts others between_alike alike_cuts path mult left c d None (λ j apart. costs_are j) (λ j apart. refl) (λ j touched. absurd (true≢false touched)) j refl

    -- the rows' count alone
    reduced_between : (j : ℕ) → column_reduced_cost F y z c j ≡ column_reduced_cost H y z c j
    reduced_between j = λ t. c j -ℚ sum_below (length cuts) (λ k. z k *ℚ cut_coefficient cuts k j) -ℚ sum_below (row_count t) (λ i. y i *ℚ coefficient M i j)

    side_between : (j : ℕ) → column_side F path y z c j ≡ column_side H path y z c j
    side_between j = λ t. needed_side (reduced_between j t) (region_low M path j) (region_high M path j)

    entries_between : (j : ℕ) → EntriesFit F y z c j → EntriesFit H y z c j
    entries_between j h = record {
      of_rows = subst (λ n. AllFit (c j) (λ k. neg_ℚ (y k)) (λ k. coefficient M k j) n) row_count h.of_rows;
      of_cuts = subst (λ n. AllFit (c j -ℚ sum_below n (λ i. y i *ℚ coefficient M i j)) (λ k. neg_ℚ (z k)) (λ k. cut_coefficient cuts k j) (length cuts)) row_count h.of_cuts;
    }

    side_same : (j : ℕ) → column_side F path y z c j ≡ column_side G path y z d j
    side_same j = side_between j ∙ side-like between N path cuts others y z c d c₀ asked j (same j)

    moved_by_weights : IsMovedSide row.0 (question_with F path y z c₀ c) (question_with G path y z d₀ d)
    moved_by_weights = record {
      within = within;
      row_count = row_count;
      cut_count = cut_count;
      column_count = column_count;
      constant = constants_are;
      row_terms = λ k other. (λ t. y k *ℚ side_number (row_same k other t));
      row_sides = λ k other has e. has (row_same k other ∙ e);
      side = there;
      cut_terms = λ k. inl (refl, ap side_number (cut_side-like between N path cuts others y z c d c₀ asked k));
      cut_sides = λ k has e. has (cut_side-like between N path cuts others y z c d c₀ asked k ∙ e);
      column_terms = λ j below. inl (reduced_between j ∙ reduced-like between N path cuts others y z c d c₀ asked j (same j), ap side_number (side_same j));
      column_sides = λ j below has. (entries-like between N path cuts others y z c d c₀ asked j (same j) (entries_between j has.0), λ e. has.1 (side_same j ∙ e));
    }

    pub moved_with : IsMovedSide row.0 (question_with F path y z c₀ c) (question_with G path y (cut_weight others mult) d₀ d)
    moved_with = subst (λ (w : ℕ → ℚ). IsMovedSide row.0 (question_with F path y z c₀ c) (question_with G path y w d₀ d)) (weights Nothing between N cuts others between_alike alike_cuts path mult left) moved_by_weights

pub moved_side : MovedSideLaw
moved_side row M N cuts others alike alike_cuts rows_same cuts_same cols_same path mult true left within there =
    moved_with row M N cuts others alike alike_cuts rows_same cuts_same cols_same path mult left within there (least_cost M) (least_cost N) (λ j. costs-alike (RowSides row) M N alike j refl) (least_constant M) (least_constant N) (constant-alike (RowSides row) M N alike)
moved_side row M N cuts others alike alike_cuts rows_same cuts_same cols_same path mult false left within there =
    moved_with row M N cuts others alike alike_cuts rows_same cuts_same cols_same path mult left within there (λ j. int (pos 0)) (λ j. int (pos 0)) (λ j. refl) (int (pos 0)) (int (pos 0)) refl
