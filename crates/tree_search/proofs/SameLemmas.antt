-- What a leaf's relaxation without costs shows of the search's own model: lists, splits, Farkas numbers and points.
use Rattle.std.specs.Prelude.{◌≡◌, ℕ, ◌<◌, List, [], ◌∷◌, length, pos, ℤ, Ok}
use Rattle.std.proofs.Common.{sym, subst, ◌∙◌, inl, inr}
use Rattle.frac128.specs.Rational.{ℚ, int, neg_ℚ, ◌-ℚ◌, ◌*ℚ◌}
use Rattle.frac128.specs.Sums.{sum_below}
use Rattle.checked_sum.specs.Steps.{AllFit, StepFitsAt}
use Rattle.lp_model.specs.Program.{Program, Point, coordinate, value, low_side, high_side, Within}
use Rattle.lp_model.specs.Formulations.{formulation, cut_coefficient}
use Rattle.lp_model.specs.declared.types.CutRow.{CutRow}
use Rattle.lp_model.specs.Regions.{Path}
use Rattle.lp_model.specs.declared.types.Basis.{Basis}
use Rattle.lp_model.specs.declared.types.Var.{Var}
use Rattle.lp_model.specs.declared.types.Var.TheVariants.{Col, Row, Cut}
use Rattle.model_points.specs.Answers.{RowPasses, IsValueAnswer}
use Rattle.model_points.specs.Rays.{without_costs}
use Rattle.model_points.proofs.SamePointsLemmas.{same_points}
use Rattle.leaf_dual.specs.Dual.{Multipliers, multiplier, cut_weight, left_by_rows, left_by_cuts, column_reduced_cost, column_side, needed_side, times, plus, total_below, rows_number, cuts_number, dual_number}
use Rattle.leaf_dual.specs.Answers.{side_number, RowEntriesFit, CutEntriesFit, EntriesFit, ColumnTermFits, ColumnFits, LacksSide, IsDualAnswer, cuts_total}
use Rattle.leaf_dual.specs.declared.dual.LagValue.TheVariants.{Minus, Num}
use Rattle.leaf_judging.specs.Closing.{IsRefuted}
use Rattle.search_parts.specs.Checks.{IsFrom, IsUnder, IsSplitAllowed}
use Rattle.search_parts.specs.Lists.{IsThere, IsActivityThere, NamesOnce, AreMultipliers, IsBasis}
use Rattle.search_parts.specs.Points.{IsKeepable}

module _ (M : Program) where
  abbrev Z : Program
  Z = without_costs M

  -- ---- splits

  pub allowed-same : (path : Path) (j : ℕ) (v : ℤ) → IsSplitAllowed Z path j v → IsSplitAllowed M path j v
  allowed-same path j v h = record {
    there = subst (λ n. j < n) (same_points M).count h.there;
    integer = sym ((same_points M).integers j) ∙ h.integer;
    low = subst (λ b. IsFrom b v) ((same_points M).region_lows path j) h.low;
    high = subst (λ b. IsUnder b v) ((same_points M).region_highs path j) h.high;
  }

  -- ---- points

  row-same : (x : Point) (i : ℕ) → RowPasses Z x i → RowPasses M x i
  row-same x i h = record {
    fits = subst (λ P. P) (λ t. AllFit (int (pos 0)) (λ j. (same_points M).coefficients i j t) (λ j. coordinate x j) ((same_points M).count t)) h.fits;
    holds = subst (λ P. P) (λ t. Within (low_side M i) (high_side M i) (sum_below ((same_points M).count t) (λ j. (same_points M).coefficients i j t *ℚ coordinate x j))) h.holds;
  }

  pub keepable-same : (x : Point) → IsKeepable Z x → IsValueAnswer M 1 x (Ok (value M 1 x)) → IsKeepable M x
  keepable-same x h v = record {
    shape = h.shape ∙ (same_points M).count;
    feasible = (((same_points M).feasible x).0 h.feasible.0, λ i below. row-same x i (h.feasible.1 i below));
    value = v;
  }

-- with the same cuts
module _ (M : Program) (cuts : List CutRow) where
  -- ---- lists

  there-same : (v : Var) → IsThere (formulation (Z M) cuts) v → IsThere (formulation M cuts) v
  there-same (Col col) h = subst (λ n. col.0 < n) (same_points M).count h
  there-same (Row row) h = h
  there-same (Cut cut) h = h

  activity-same : (v : Var) → IsActivityThere (formulation (Z M) cuts) v → IsActivityThere (formulation M cuts) v
  activity-same (Col col) h = h
  activity-same (Row row) h = h
  activity-same (Cut cut) h = h

  names-weaker : (P Q : Var → Type 0) → ((v : Var) → P v → Q v) → (vars : List Var) → NamesOnce P vars → NamesOnce Q vars
  names-weaker P Q w vars h = record { each = λ k d below. w _ (h.each k d below); once = h.once }

  pub multipliers-same : (mult : Multipliers) → AreMultipliers (formulation (Z M) cuts) mult → AreMultipliers (formulation M cuts) mult
  multipliers-same mult h = names-weaker (IsActivityThere (formulation (Z M) cuts)) (IsActivityThere (formulation M cuts)) activity-same _ h

  pub basis-same : (basis : Basis) → IsBasis (formulation (Z M) cuts) basis → IsBasis (formulation M cuts) basis
  basis-same basis h = record {
    basic = names-weaker (IsThere (formulation (Z M) cuts)) (IsThere (formulation M cuts)) there-same basis.basic h.basic;
    high = names-weaker (IsThere (formulation (Z M) cuts)) (IsThere (formulation M cuts)) there-same basis.high h.high;
  }

  -- ---- Farkas numbers

  module _ (path : Path) (y z c : ℕ → ℚ) where
    left_is : (b : ℕ → ℚ) (j : ℕ) → left_by_rows (Z M) y b j ≡ left_by_rows M y b j
    left_is b j t = b j -ℚ sum_below (length M.rows) (λ i. y i *ℚ (same_points M).coefficients i j t)

    reduced_is : (j : ℕ) → column_reduced_cost (formulation (Z M) cuts) y z c j ≡ column_reduced_cost (formulation M cuts) y z c j
    reduced_is j = left_is (left_by_cuts cuts z c) j

    side_is : (j : ℕ) → column_side (formulation (Z M) cuts) path y z c j ≡ column_side (formulation M cuts) path y z c j
    side_is j t = needed_side (reduced_is j t) ((same_points M).region_lows path j t) ((same_points M).region_highs path j t)

    row_entries : (j : ℕ) → RowEntriesFit (Z M) y c j ≡ RowEntriesFit M y c j
    row_entries j t = AllFit (c j) (λ i. neg_ℚ (y i)) (λ i. (same_points M).coefficients i j t) (length M.rows)

    cut_entries : (j : ℕ) → CutEntriesFit (formulation (Z M) cuts) y z c j ≡ CutEntriesFit (formulation M cuts) y z c j
    cut_entries j t = AllFit (left_is c j t) (λ k. neg_ℚ (z k)) (λ k. cut_coefficient cuts k j) (length cuts)

    entries-to : (j : ℕ) → EntriesFit (formulation (Z M) cuts) y z c j → EntriesFit (formulation M cuts) y z c j
    entries-to j h = record { of_rows = subst (λ P. P) (row_entries j) h.of_rows; of_cuts = subst (λ P. P) (cut_entries j) h.of_cuts }

    entries-back : (j : ℕ) → EntriesFit (formulation M cuts) y z c j → EntriesFit (formulation (Z M) cuts) y z c j
    entries-back j h = record { of_rows = subst (λ P. P) (sym (row_entries j)) h.of_rows; of_cuts = subst (λ P. P) (sym (cut_entries j)) h.of_cuts }

    lacks-back : LacksSide (formulation M cuts) path y z c → LacksSide (formulation (Z M) cuts) path y z c
    lacks-back (inl row) = inl row
    lacks-back (inr (inl cut)) = inr (inl cut)
    lacks-back (inr (inr (j, (below, (entries, none))))) = inr (inr (j, (subst (λ n. j < n) (sym (same_points M).count) below, (entries-back j entries, side_is j ∙ none))))

    term_is : (start : ℚ) (j : ℕ) → ColumnTermFits (formulation (Z M) cuts) path y z c start j ≡ ColumnTermFits (formulation M cuts) path y z c start j
    term_is start j t = StepFitsAt start (λ k. reduced_is k t) (λ k. side_number (side_is k t)) j

    column-to : (start : ℚ) (j : ℕ) → ColumnFits (formulation (Z M) cuts) path y z c start j → ColumnFits (formulation M cuts) path y z c start j
    column-to start j h = record { entries = entries-to j h.entries; term = subst (λ P. P) (term_is start j) h.term }

    number_is : (c₀ : ℚ) → dual_number (formulation (Z M) cuts) path y z c₀ c ≡ dual_number (formulation M cuts) path y z c₀ c
    number_is c₀ t = plus (plus (plus (Num c₀) (rows_number M y)) (cuts_number cuts z)) (total_below ((same_points M).count t) (λ j. times (reduced_is j t) (side_is j t)))

    number-same : (c₀ q : ℚ) → IsDualAnswer (formulation (Z M) cuts) path y z c₀ c (Ok (Num q)) → IsDualAnswer (formulation M cuts) path y z c₀ c (Ok (Num q))
    number-same c₀ q (lacks, rows, added, columns, is) = (
      (λ k. lacks (lacks-back k)),
      rows,
      added,
      (λ j below. column-to (cuts_total (formulation (Z M) cuts) y z c₀) j (columns j (subst (λ n. j < n) (sym (same_points M).count) below))),
      is ∙ number_is c₀,
    )

  pub refuted-same : (path : Path) (farkas : Multipliers) → IsRefuted (formulation (Z M) cuts) path farkas → IsRefuted (formulation M cuts) path farkas
  refuted-same path [] h = h
  refuted-same path (m ∷ ms) (Minus, h) = absurd h.1
  refuted-same path (m ∷ ms) (Num q, h) = (Num q, (number-same path (multiplier (m ∷ ms)) (cut_weight cuts (m ∷ ms)) (λ j. int (pos 0)) (int (pos 0)) q h.0, h.1))
