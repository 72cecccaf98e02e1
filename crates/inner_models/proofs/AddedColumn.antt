-- A model with one more column, which has no entries: its feasible points are those of the model with a number behind them that the
-- column may have.
use Rattle.std.specs.Prelude.{◌≡◌, ◌↔◌, ℕ, suc, ◌<◌, Bool, true, false, if◌then◌else◌, nat_eq, List, [], ◌∷◌, length, map, take, All, pos, Option, None}
use Rattle.std.proofs.Common.{refl, sym, ap, subst, ◌∙◌, arith, inl, inr}
use Rattle.std.proofs.lemmas.Bool.{cases_order}
use Rattle.std.proofs.lemmas.List.{length_push}
use Rattle.std.proofs.lemmas.List.Elements.{All-push, All-nil}
use Rattle.frac128.specs.Rational.{ℚ, int, ◌+ℚ◌, ◌*ℚ◌}
use Rattle.frac128.specs.RationalRing.{ring, reads_ℚ}
use Rattle.frac128.specs.Sums.{sum_below}
use Rattle.frac128.proofs.Comparison.{eq_by_cmp-decides}
use Rattle.checked_sum.proofs.SumLaws.{sum_below-same}
use Rattle.lp_model.specs.Program.{Program, Point, coordinate, constant, cost, coefficient, entry_of, low_side, high_side, activity, value, Within, IsAllowed, ColumnHolds, RowHolds, IsFeasible}
use Rattle.lp_model.specs.Edits.{entries_beside, is_zero, edited}
use Rattle.lp_model.specs.declared.types.RowId.{RowId}
use Rattle.lp_model.specs.declared.types.Col.{Col}
use Rattle.lp_model.specs.declared.types.Edit.TheVariants.{AddCol}
use Rattle.inner_models.proofs.ListLemmas.{of_element-front, of_element-last, coordinate-take, length-front}
use Rattle.inner_models.proofs.AddedRow.{AreBelow}

zero_test : is_zero (int (pos 0)) ≡ true
zero_test = (eq_by_cmp-decides (int (pos 0)) (int (pos 0))).1 refl

pub entries_none : (k : ℕ) (names : List (List ℕ)) → entries_beside k names [] ≡ []
entries_none k [] = refl
entries_none k (name ∷ names) = rw zero_test (entries_none (suc k) names)

module _ (N : Program) (name : List ℕ) (integer : Bool) (lo up : Option ℚ) (cost1 cost2 : ℚ) where
  abbrev pub C : Program
  C = edited N (AddCol name integer lo up cost1 cost2 [])

  abbrev pub new_column : Col
  new_column = record { name = name; int = integer; lo = lo; up = up; cost = cost1; cost2 = cost2; rows = entries_beside 0 (map (λ r. r.name) N.rows) [] }

  abbrev n : ℕ
  n = length N.cols

  pub columns_more : length C.cols ≡ suc n
  columns_more = let h = length_push N.cols new_column in omega arith

  no_entries : new_column.rows ≡ []
  no_entries = entries_none 0 (map (λ r. r.name) N.rows)

  pub column_below : All (AreBelow (length N.rows)) N.cols → All (AreBelow (length N.rows)) C.cols
  column_below all =
      All-push (AreBelow (length N.rows)) N.cols new_column all
      (subst (λ es. All (λ (e : RowId × ℚ). e.0.0 < length N.rows) es) (sym no_entries) (All-nil (λ (e : RowId × ℚ). e.0.0 < length N.rows)))

  pub cost_old : (w j : ℕ) → j < n → cost C w j ≡ cost N w j
  cost_old w j below = of_element-front (int (pos 0)) (λ c. if nat_eq w 2 then c.cost2 else c.cost) N.cols (new_column ∷ []) j below

  pub cost_new : cost C 1 n ≡ cost1
  cost_new = of_element-last (int (pos 0)) (λ c. if nat_eq 1 2 then c.cost2 else c.cost) N.cols new_column

  coefficient_old : (i j : ℕ) → j < n → coefficient C i j ≡ coefficient N i j
  coefficient_old i j below = of_element-front (int (pos 0)) (λ c. entry_of i c.rows) N.cols (new_column ∷ []) j below

  coefficient_new : (i : ℕ) → coefficient C i n ≡ int (pos 0)
  coefficient_new i = of_element-last (int (pos 0)) (λ c. entry_of i c.rows) N.cols new_column ∙ ap (entry_of i) no_entries

  -- a sum over the columns, and the last term
  pub sum_over_columns : (g h : ℕ → ℚ) (y : Point) → ((j : ℕ) → j < n → g j ≡ h j)
      → sum_below (length C.cols) (λ j. g j *ℚ coordinate y j) ≡ sum_below n (λ j. h j *ℚ coordinate (take n y) j) +ℚ g n *ℚ coordinate y n
  sum_over_columns g h y same =
      ap (λ m. sum_below m (λ j. g j *ℚ coordinate y j)) columns_more
      ∙ ap (λ t. t +ℚ g n *ℚ coordinate y n)
      (sum_below-same n (λ j. g j *ℚ coordinate y j) (λ j. h j *ℚ coordinate (take n y) j)
      (λ j below t. same j below t *ℚ sym (coordinate-take n y j below) t))

  activity_is : (y : Point) (i : ℕ) → activity C y i ≡ activity N (take n y) i
  activity_is y i =
      sum_over_columns (coefficient C i) (coefficient N i) y (coefficient_old i)
      ∙ ap (λ t. activity N (take n y) i +ℚ t *ℚ coordinate y n) (coefficient_new i)
      ∙ ring (activity N (take n y) i ∷ coordinate y n ∷ []) (search reads_ℚ) tt

  row_is : (y : Point) (i : ℕ) → RowHolds C y i ≡ RowHolds N (take n y) i
  row_is y i t = Within (low_side N i) (high_side N i) (activity_is y i t)

  column_old : (y : Point) (j : ℕ) → j < n → ColumnHolds C y j ≡ ColumnHolds N (take n y) j
  column_old y j below t =
      IsAllowed (of_element-front false (λ c. c.int) N.cols (new_column ∷ []) j below t) (of_element-front None (λ c. c.lo) N.cols (new_column ∷ []) j below t)
      (of_element-front None (λ c. c.up) N.cols (new_column ∷ []) j below t) (sym (coordinate-take n y j below) t)

  column_new : (y : Point) → ColumnHolds C y n ≡ IsAllowed integer lo up (coordinate y n)
  column_new y t =
      IsAllowed (of_element-last false (λ c. c.int) N.cols new_column t) (of_element-last None (λ c. c.lo) N.cols new_column t)
      (of_element-last None (λ c. c.up) N.cols new_column t) (coordinate y n)

  -- a feasible point, by the numbers of the model's columns and the last one
  pub record Extends (y : Point) : Type 0 where
    pub shape : length y ≡ suc n
    pub point : IsFeasible N (take n y)
    pub last : IsAllowed integer lo up (coordinate y n)

  pub column-feasible : (y : Point) → IsFeasible C y ↔ Extends y
  column-feasible y = (to, from)
    where
      to : IsFeasible C y → Extends y
      to h =
          let long : length y ≡ suc n = h.shape ∙ columns_more in
          let more = columns_more in
          record {
            shape = long;
            point = record {
              shape = length-front n y (omega arith);
              columns = λ j within. subst (λ P. P) (column_old y j within) (h.columns j (omega arith));
              rows = λ i within. subst (λ P. P) (row_is y i) (h.rows i within);
            };
            last = subst (λ P. P) (column_new y) (h.columns n (omega arith));
          }

      from : Extends y → IsFeasible C y
      from h = record {
        shape = h.shape ∙ sym columns_more;
        columns = λ j within. elim (cases_order j n) [
          | inl same ↦ subst (ColumnHolds C y) (sym same) (subst (λ P. P) (sym (column_new y)) h.last)
          | inr apart ↦ elim apart [
            | inl less ↦ subst (λ P. P) (sym (column_old y j less)) (h.point.columns j less)
            | inr above ↦ let more = columns_more in absurd (omega arith)
          ]
        ];
        rows = λ i within. subst (λ P. P) (sym (row_is y i)) (h.point.rows i within);
      }

  pub value-column : (y : Point) → value C 1 y ≡ value N 1 (take n y) +ℚ cost1 *ℚ coordinate y n
  value-column y =
      ap (λ t. constant N 1 +ℚ t) (sum_over_columns (cost C 1) (cost N 1) y (cost_old 1) ∙ ap (λ t. sum_below n (λ j. cost N 1 j *ℚ coordinate (take n y) j) +ℚ t *ℚ coordinate y n) cost_new)
      ∙ ring (constant N 1 ∷ sum_below n (λ j. cost N 1 j *ℚ coordinate (take n y) j) ∷ cost1 ∷ coordinate y n ∷ []) (search reads_ℚ) tt
