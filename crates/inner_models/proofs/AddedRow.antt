-- A model with one more row: its feasible points are those of the model at which the new sum is within its sides.
use Rattle.std.specs.Prelude.{◌≡◌, ◌≢◌, ◌↔◌, ℕ, suc, ◌+◌, ◌<◌, Bool, true, false, if◌then◌else◌, nat_eq, List, [], ◌∷◌, ◌++◌, length, get_or, All, pos, Option, None}
use Rattle.std.proofs.Common.{refl, sym, subst, ◌∙◌, arith, inl, inr}
use Rattle.std.proofs.lemmas.Bool.{eq-eqb, ne_eqb, cases_order}
use Rattle.std.proofs.lemmas.List.{length-map, length_push}
use Rattle.std.proofs.lemmas.List.Elements.{All-nil, All-cons, All-head, All-tail, All-map, All-push, All-weaker}
use Rattle.frac128.specs.Rational.{ℚ, int, ◌+ℚ◌, ◌*ℚ◌}
use Rattle.frac128.specs.Sums.{sum_below}
use Rattle.frac128.proofs.Comparison.{eq_by_cmp-decides}
use Rattle.lp_model.specs.Elements.{of_element}
use Rattle.lp_model.specs.Program.{Program, Point, coordinate, constant, cost, coefficient, entry_of, lower, upper, is_integer, low_side, high_side, activity, value, Within, IsAllowed, ColumnHolds, RowHolds, IsFeasible}
use Rattle.lp_model.specs.Lawful.{AreEntries, IsLawful}
use Rattle.lp_model.specs.Edits.{Named, number_beside, is_zero, with_entry, edited}
use Rattle.lp_model.specs.declared.types.RowId.{RowId}
use Rattle.lp_model.specs.declared.types.Col.{Col}
use Rattle.lp_model.specs.declared.types.Edit.TheVariants.{AddRow}
use Rattle.inner_models.proofs.ListLemmas.{of_element-map, of_element-front, of_element-last, of_element-agree, of_element-same}

-- ---- entries

-- each entry is of one of the first n rows
abbrev pub AreBelow : ℕ → Col → Type 0
AreBelow n c = All (λ (e : RowId × ℚ). e.0.0 < n) c.rows

entries-below : (from n : ℕ) (es : List (RowId × ℚ)) → AreEntries from n es → All (λ (e : RowId × ℚ). e.0.0 < n) es
entries-below from n [] h = All-nil (λ (e : RowId × ℚ). e.0.0 < n)
entries-below from n (e ∷ es) h = All-cons (λ (f : RowId × ℚ). f.0.0 < n) e es h.1 (entries-below (suc e.0.0) n es h.3)

pub lawful-below : (N : Program) → IsLawful N → All (AreBelow (length N.rows)) N.cols
lawful-below N lawful k d below = entries-below 0 (length N.rows) _ (lawful.columns k d below).entries

entry_of-other : (i n : ℕ) (x : ℚ) (es : List (RowId × ℚ)) → n ≢ i → entry_of i (es ++ (record { 0 = n }, x) ∷ []) ≡ entry_of i es
entry_of-other i n x [] apart = rw (ne_eqb n i apart) refl
entry_of-other i n x (e ∷ es) apart = by (nat_eq e.0.0 i) (entry_of-other i n x es apart)
  where
    by : (b : Bool) → entry_of i (es ++ (record { 0 = n }, x) ∷ []) ≡ entry_of i es → (if b then e.1 else entry_of i (es ++ (record { 0 = n }, x) ∷ [])) ≡ (if b then e.1 else entry_of i es)
    by true rest = refl
    by false rest = rest

entry_of-below : (n : ℕ) (es : List (RowId × ℚ)) → All (λ (e : RowId × ℚ). e.0.0 < n) es → entry_of n es ≡ int (pos 0)
entry_of-below n [] all = refl
entry_of-below n (e ∷ es) all =
    let h : e.0.0 < n = All-head (λ (e : RowId × ℚ). e.0.0 < n) e es all in
    let apart : nat_eq e.0.0 n ≡ false = ne_eqb e.0.0 n (λ same. absurd (omega arith)) in
    rw apart (entry_of-below n es (All-tail (λ (e : RowId × ℚ). e.0.0 < n) e es all))

entry_of-new : (n : ℕ) (x : ℚ) (es : List (RowId × ℚ)) → All (λ (e : RowId × ℚ). e.0.0 < n) es → entry_of n (es ++ (record { 0 = n }, x) ∷ []) ≡ x
entry_of-new n x [] all = rw (eq-eqb n n refl) refl
entry_of-new n x (e ∷ es) all =
    let h : e.0.0 < n = All-head (λ (e : RowId × ℚ). e.0.0 < n) e es all in
    let apart : nat_eq e.0.0 n ≡ false = ne_eqb e.0.0 n (λ same. absurd (omega arith)) in
    rw apart (entry_of-new n x es (All-tail (λ (e : RowId × ℚ). e.0.0 < n) e es all))

with_entry-old : (i n : ℕ) (x : ℚ) (c : Col) → n ≢ i → entry_of i (with_entry n x c).rows ≡ entry_of i c.rows
with_entry-old i n x c apart = by (is_zero x)
  where
    by : (b : Bool) → entry_of i (if b then c.rows else c.rows ++ (record { 0 = n }, x) ∷ []) ≡ entry_of i c.rows
    by true = refl
    by false = entry_of-other i n x c.rows apart

with_entry-new : (n : ℕ) (x : ℚ) (c : Col) → AreBelow n c → entry_of n (with_entry n x c).rows ≡ x
with_entry-new n x c all = by (is_zero x) refl
  where
    by : (b : Bool) → is_zero x ≡ b → entry_of n (if b then c.rows else c.rows ++ (record { 0 = n }, x) ∷ []) ≡ x
    by true e = entry_of-below n c.rows all ∙ sym ((eq_by_cmp-decides x (int (pos 0))).0 e)
    by false e = entry_of-new n x c.rows all

with_entry-below : (n : ℕ) (x : ℚ) (c : Col) → AreBelow n c → AreBelow (n + 1) (with_entry n x c)
with_entry-below n x c all = by (is_zero x)
  where
    wider : All (λ (e : RowId × ℚ). e.0.0 < n + 1) c.rows
    wider = All-weaker (λ (e : RowId × ℚ). e.0.0 < n) (λ (e : RowId × ℚ). e.0.0 < n + 1) (λ e h. omega arith) c.rows all

    by : (b : Bool) → All (λ (e : RowId × ℚ). e.0.0 < n + 1) (if b then c.rows else c.rows ++ (record { 0 = n }, x) ∷ [])
    by true = wider
    by false = All-push (λ (e : RowId × ℚ). e.0.0 < n + 1) c.rows (record { 0 = n }, x) wider (omega arith)

-- ---- the model with the row

module _ (N : Program) (name : List ℕ) (lo hi : Option ℚ) (named : Named) where
  abbrev pub R : Program
  R = edited N (AddRow name lo hi named)

  abbrev n : ℕ
  n = length N.rows

  abbrev entered : Col → Col
  entered c = with_entry n (number_beside c.name named) c

  -- the number that the new row has for column j, and its sum at a point
  abbrev pub new_coefficient : ℕ → ℚ
  new_coefficient j = of_element (int (pos 0)) (λ c. number_beside c.name named) N.cols j

  abbrev pub new_sum : Point → ℚ
  new_sum x = sum_below (length N.cols) (λ j. new_coefficient j *ℚ coordinate x j)

  pub count_is : length R.cols ≡ length N.cols
  count_is = length-map N.cols entered

  pub rows_more : length R.rows ≡ length N.rows + 1
  rows_more = length_push N.rows (record { name = name; lo = lo; hi = hi })

  pub lower_is : (j : ℕ) → lower R j ≡ lower N j
  lower_is j = of_element-map None (λ c. c.lo) entered N.cols j

  pub upper_is : (j : ℕ) → upper R j ≡ upper N j
  upper_is j = of_element-map None (λ c. c.up) entered N.cols j

  pub is_integer_is : (j : ℕ) → is_integer R j ≡ is_integer N j
  is_integer_is j = of_element-map false (λ c. c.int) entered N.cols j

  pub cost_is : (w j : ℕ) → cost R w j ≡ cost N w j
  cost_is w j = of_element-map (int (pos 0)) (λ c. if nat_eq w 2 then c.cost2 else c.cost) entered N.cols j

  pub value_is : (w : ℕ) (x : Point) → value R w x ≡ value N w x
  value_is w x i = constant N w +ℚ sum_below (count_is i) (λ j. cost_is w j i *ℚ coordinate x j)

  coefficient_old : (i j : ℕ) → i < n → coefficient R i j ≡ coefficient N i j
  coefficient_old i j below =
      of_element-map (int (pos 0)) (λ c. entry_of i c.rows) entered N.cols j
      ∙ of_element-same (int (pos 0)) (λ c. entry_of i (entered c).rows) (λ c. entry_of i c.rows)
      (λ c. with_entry-old i n (number_beside c.name named) c (λ same. absurd (omega arith))) N.cols j

  low_old : (i : ℕ) → i < n → low_side R i ≡ low_side N i
  low_old i below = of_element-front None (λ r. r.lo) N.rows _ i below

  high_old : (i : ℕ) → i < n → high_side R i ≡ high_side N i
  high_old i below = of_element-front None (λ r. r.hi) N.rows _ i below

  activity_old : (x : Point) (i : ℕ) → i < n → activity R x i ≡ activity N x i
  activity_old x i below t = sum_below (count_is t) (λ j. coefficient_old i j below t *ℚ coordinate x j)

  row_old : (x : Point) (i : ℕ) → i < n → RowHolds R x i ≡ RowHolds N x i
  row_old x i below t = Within (low_old i below t) (high_old i below t) (activity_old x i below t)

  column_is : (x : Point) (j : ℕ) → ColumnHolds R x j ≡ ColumnHolds N x j
  column_is x j t = IsAllowed (is_integer_is j t) (lower_is j t) (upper_is j t) (coordinate x j)

  module _ (below : All (AreBelow (length N.rows)) N.cols) where
    pub entries_below : All (AreBelow (length R.rows)) R.cols
    entries_below =
        subst (λ m. All (AreBelow m) R.cols) (sym rows_more)
        (All-map (AreBelow (n + 1)) entered N.cols (λ k d within. with_entry-below n (number_beside (get_or N.cols k d).name named) (get_or N.cols k d) (below k d within)))

    coefficient_new : (j : ℕ) → coefficient R n j ≡ new_coefficient j
    coefficient_new j =
        of_element-map (int (pos 0)) (λ c. entry_of n c.rows) entered N.cols j
        ∙ of_element-agree (int (pos 0)) (λ c. entry_of n (entered c).rows) (λ c. number_beside c.name named) (AreBelow n)
        (λ c held. with_entry-new n (number_beside c.name named) c held) N.cols below j

    row_new : (x : Point) → RowHolds R x n ≡ Within lo hi (new_sum x)
    row_new x t =
        Within (of_element-last None (λ r. r.lo) N.rows (record { name = name; lo = lo; hi = hi }) t) (of_element-last None (λ r. r.hi) N.rows (record { name = name; lo = lo; hi = hi }) t)
        (sum_below (count_is t) (λ j. coefficient_new j t *ℚ coordinate x j))

    pub row-feasible : (x : Point) → IsFeasible R x ↔ (IsFeasible N x × Within lo hi (new_sum x))
    row-feasible x = (to, from)
      where
        to : IsFeasible R x → IsFeasible N x × Within lo hi (new_sum x)
        to h = (
          record {
            shape = h.shape ∙ count_is;
            columns = λ j within. subst (λ P. P) (column_is x j) (h.columns j (subst (λ m. j < m) (sym count_is) within));
            rows = λ i within. let more = rows_more in subst (λ P. P) (row_old x i within) (h.rows i (omega arith));
          },
          let more = rows_more in subst (λ P. P) (row_new x) (h.rows n (omega arith)),
        )

        from : IsFeasible N x × Within lo hi (new_sum x) → IsFeasible R x
        from (h, sum) = record {
          shape = h.shape ∙ sym count_is;
          columns = λ j within. subst (λ P. P) (sym (column_is x j)) (h.columns j (subst (λ m. j < m) count_is within));
          rows = λ i within. elim (cases_order i n) [
            | inl same ↦ subst (RowHolds R x) (sym same) (subst (λ P. P) (sym (row_new x)) sum)
            | inr apart ↦ elim apart [
              | inl less ↦ subst (λ P. P) (sym (row_old x i less)) (h.rows i less)
              | inr above ↦ let more = rows_more in absurd (omega arith)
            ]
          ];
        }
