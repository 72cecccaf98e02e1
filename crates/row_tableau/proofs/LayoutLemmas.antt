-- What is said of the value of a tableau, from what is said of its entries in parts.
use Rattle.std.specs.Prelude.{◌≡◌, ℕ, ◌+◌, ◌*◌, ◌/◌, ◌%◌, ◌^◌, ◌<◌, ◌≤◌, List, get_or, set, length, false}
use Rattle.std.proofs.Common.{sym, ap, subst, ◌∙◌, arith}
use Rattle.std.proofs.Math.Nat.{mul-le-mul_right}
use Rattle.table_entries.specs.Steps.{IsFirstWidePivotEntry}
use Rattle.table_entries.specs.FlatSteps.{FlatFits, dense_entry}
use Rattle.table_entries.specs.WholeSteps.{is_unwritten}
use Rattle.table_entries.specs.Listed.{IsExchangedList}
use Rattle.table_entries.specs.Parts.{Parts, filled, AreColumnsWritten, IsSwap, swapped}
use Rattle.table_entries.proofs.PivotLemmas.{get_or-updated_twice}
use Rattle.row_tableau.specs.Dense.{Dense, table_of, IsShaped}
use Rattle.row_tableau.specs.Layout.{variable_slots, IsLaidOut}
use Rattle.row_tableau.specs.Relaxations.{turned}
use Rattle.row_tableau.proofs.ExchangeLemmas.{first_wide, shaped_after}
use Rattle.row_tableau.proofs.SlackLemmas.{turned_front}

-- the value of these fields
abbrev pub laid_value : (columns rows activities : ℕ) (variables positions : List ℕ) (parts : Parts) → Dense
laid_value columns rows activities variables positions parts = record { columns = columns; rows = rows; activities = activities; variables = variables; entries = filled parts (variable_slots positions) }

pub few_entries : (n m : ℕ) → n + m < 2 ^ 32 → m * n < 2 ^ 64
few_entries n m few = let all : m * n ≤ 2 ^ 32 * n = mul-le-mul_right n (let w : m ≤ 2 ^ 32 = omega (arith, few) in w) in omega (arith, all, few)

-- `slice` is what the positions are read from
module _ {columns rows activities : ℕ} {variables positions : List ℕ} {parts : Parts} (is : IsLaidOut columns rows activities variables positions parts) {slice : List ℕ} (read : slice ≡ positions) where
  pub slots_written : AreColumnsWritten parts (variable_slots slice)
  slots_written = subst (λ xs. AreColumnsWritten parts (variable_slots xs)) (sym read) is.columns_written

  pub slots_long : parts.columns ≤ length slice
  slots_long = let n = is.entry_columns in let all = is.shape.positions_length in let same : length slice ≡ length positions = ap length read in omega (arith, n, all, same)

  module _ {t : Dense} (same : laid_value columns rows activities variables positions parts ≡ t) where
    pub row_there : (row : ℕ) → row < t.activities → row < parts.rows
    row_there row h = subst (λ m. row < m) (sym (is.entry_rows ∙ ap (λ d. d.activities) same)) h

    pub place_there : (place : ℕ) → place < t.columns → place < parts.columns
    place_there place h = subst (λ n. place < n) (sym (is.entry_columns ∙ ap (λ d. d.columns) same)) h

    pub entry_is : (row place : ℕ) → dense_entry parts.columns (filled parts (variable_slots slice)) row place ≡ (table_of t).entry row place
    entry_is row place = (λ i. dense_entry (is.entry_columns i) (filled parts (variable_slots (read i))) row place) ∙ ap (λ d. (table_of d).entry row place) same

  -- ---- an exchange of the variables x and y

  module _ (row place : ℕ) {x y : ℕ} (row_within : row < activities) (place_within : place < columns) (x_is : x ≡ get_or variables row 0) (y_is : y ≡ get_or variables (activities + place) 0) where
    leaving_slot : variable_slots slice x ≡ row
    leaving_slot = (λ i. get_or (read i) (x_is i) 0) ∙ is.shape.placed.back row (omega (arith, row_within))

    entering_slot : variable_slots slice y ≡ parts.rows + place
    entering_slot = (λ i. get_or (read i) (y_is i) 0) ∙ is.shape.placed.back (activities + place) (omega (arith, place_within)) ∙ ap (λ m. m + place) (sym is.entry_rows)

    column_there : (j : ℕ) → j < parts.columns → j < activities + columns
    column_there j q = let n = is.entry_columns in omega (arith, n, q)

    -- a column has the variable of its slot
    back : (j : ℕ) → j < parts.columns → j ≡ get_or variables (variable_slots slice j) 0
    back j q = sym (ap (λ xs. get_or variables (get_or xs j 0) 0) read ∙ is.shape.found.back j (column_there j q))

    leaves_alone : (j : ℕ) → j < parts.columns → variable_slots slice j ≡ row → j ≡ x
    leaves_alone j q e = back j q ∙ ap (λ s. get_or variables s 0) e ∙ sym x_is

    enters_alone : (j : ℕ) → j < parts.columns → variable_slots slice j ≡ parts.rows + place → j ≡ y
    enters_alone j q e = back j q ∙ ap (λ s. get_or variables s 0) (e ∙ ap (λ m. m + place) is.entry_rows) ∙ sym y_is

    swap : IsSwap parts.columns (variable_slots slice) row (parts.rows + place) y x
    swap = record { enters = entering_slot; leaves = leaving_slot; enters_alone = enters_alone; leaves_alone = leaves_alone }

    abbrev positions' : List ℕ
    positions' = set (set positions y row) x (activities + place)

    x_within : x < length positions
    x_within = let there = is.shape.placed.within row (omega (arith, row_within)) in let all = is.shape.positions_length in omega (arith, there, all, x_is)

    y_within : y < length positions
    y_within = let there = is.shape.placed.within (activities + place) (omega (arith, place_within)) in let all = is.shape.positions_length in omega (arith, there, all, y_is)

    -- the slots after it
    slot_after : (j : ℕ) → swapped (variable_slots slice) row (parts.rows + place) y x j ≡ variable_slots positions' j
    slot_after j = (λ i. swapped (variable_slots (read i)) row (is.entry_rows i + place) y x j) ∙ sym (get_or-updated_twice positions y x (activities + place) row y_within x_within j)

    slots_after : swapped (variable_slots slice) row (parts.rows + place) y x ≡ variable_slots positions'
    slots_after = λ i j. slot_after j i

    module _ (after : Parts)
        (done : (entering leaving : ℕ) → IsSwap parts.columns (variable_slots slice) row (parts.rows + place) entering leaving → IsExchangedList parts.columns row place (filled parts (variable_slots slice)) (filled after (swapped (variable_slots slice) row (parts.rows + place) entering leaving))) where
      pub list_after : IsExchangedList columns row place (filled parts (variable_slots positions)) (filled after (variable_slots positions'))
      list_after = subst (λ X. X) (λ i. IsExchangedList (is.entry_columns i) row place (filled parts (variable_slots (read i))) (filled after (slots_after i))) (done y x swap)

      pub laid_after : after.columns ≡ parts.columns → after.rows ≡ parts.rows
          → ((entering leaving : ℕ) → IsSwap parts.columns (variable_slots slice) row (parts.rows + place) entering leaving → AreColumnsWritten after (swapped (variable_slots slice) row (parts.rows + place) entering leaving))
          → IsLaidOut columns rows activities (set (set variables row y) (activities + place) x) positions' after
      laid_after columns_kept rows_kept written = record {
        shape = shaped_after columns rows activities variables positions (filled parts (variable_slots positions)) (filled after (variable_slots positions')) is.shape row place x y row_within place_within x_is y_is list_after.size;
        entry_columns = columns_kept ∙ is.entry_columns;
        entry_rows = rows_kept ∙ is.entry_rows;
        columns_written = subst (AreColumnsWritten after) slots_after (written y x swap);
      }

  -- `at` is the first entry that does not fit
  pub first_wide_part : (row place at : ℕ) → at < parts.rows * parts.columns → ((j : ℕ) → j < at → FlatFits parts.columns row place (filled parts (variable_slots slice)) j) → ¬ (FlatFits parts.columns row place (filled parts (variable_slots slice)) at)
      → IsFirstWidePivotEntry columns activities (table_of (laid_value columns rows activities variables positions parts)) row place (at / columns) (at % columns)
  first_wide_part row place at within earlier wide =
      first_wide (laid_value columns rows activities variables positions parts) row place (filled parts (variable_slots slice)) (ap (λ xs. filled parts (variable_slots xs)) read) at
      (subst (λ k. at < k) (λ i. is.entry_rows i * is.entry_columns i) within)
      (λ j less. subst (λ n. FlatFits n row place (filled parts (variable_slots slice)) j) is.entry_columns (earlier j less))
      (λ fits. wide (subst (λ n. FlatFits n row place (filled parts (variable_slots slice)) at) (sym is.entry_columns) fits))

-- ---- the row of a basic column is written

module _ {columns rows activities : ℕ} {variables positions : List ℕ} {parts : Parts} (is : IsLaidOut columns rows activities variables positions parts) {t : Dense} (same : laid_value columns rows activities variables positions parts ≡ t) where
  pub column_row_written : (i : ℕ) → i < t.activities → (table_of t).basic i < t.columns → is_unwritten parts.unwritten i ≡ false
  column_row_written i within column =
      let here : i < activities = subst (λ m. i < m) (sym (ap (λ d. d.activities) same)) within in
      let basic_column : get_or variables i 0 < columns = subst (λ d. (table_of d).basic i < d.columns) (sym same) column in
      let slot : variable_slots positions (get_or variables i 0) ≡ i = is.shape.placed.back i (omega (arith, here)) in
      subst (λ s. is_unwritten parts.unwritten s ≡ false) slot
      (is.columns_written (get_or variables i 0) (subst (λ n. get_or variables i 0 < n) (sym is.entry_columns) basic_column)
      (let rows_are = is.entry_rows in omega (arith, slot, here, rows_are)))

-- ---- the entries stay

module _ {columns rows activities : ℕ} {variables positions : List ℕ} {parts : Parts} (is : IsLaidOut columns rows activities variables positions parts) (after : Parts) {slice : List ℕ} (read : slice ≡ positions) (kept : filled after (variable_slots slice) ≡ filled parts (variable_slots slice)) where
  list_kept : filled after (variable_slots positions) ≡ filled parts (variable_slots positions)
  list_kept = ap (λ xs. filled after (variable_slots xs)) (sym read) ∙ kept ∙ ap (λ xs. filled parts (variable_slots xs)) read

  pub value_kept : laid_value columns rows activities variables positions after ≡ laid_value columns rows activities variables positions parts
  value_kept = λ i. record { columns = columns; rows = rows; activities = activities; variables = variables; entries = list_kept i }

  pub laid_kept : after.columns ≡ parts.columns → after.rows ≡ parts.rows → AreColumnsWritten after (variable_slots slice) → IsLaidOut columns rows activities variables positions after
  laid_kept columns_kept rows_kept written = record {
    shape = subst (IsShaped columns rows activities variables positions) (sym list_kept) is.shape;
    entry_columns = columns_kept ∙ is.entry_columns;
    entry_rows = rows_kept ∙ is.entry_rows;
    columns_written = subst (λ xs. AreColumnsWritten after (variable_slots xs)) read written;
  }

-- ---- the slack basis

-- each column stands at its own place, behind all rows
pub slack_slots : (m n : ℕ) (positions : List ℕ) → ((s : ℕ) → s < n + m → get_or positions s 0 ≡ turned n m s) → (j : ℕ) → j < n → variable_slots positions j ≡ m + j
slack_slots m n positions positions_is j q = positions_is j (omega (arith, q)) ∙ turned_front n m j q

pub slack_laid : (columns rows activities : ℕ) (variables positions : List ℕ) (parts : Parts) → parts.columns ≡ columns → parts.rows ≡ activities → ((j : ℕ) → j < columns → variable_slots positions j ≡ activities + j)
    → IsShaped columns rows activities variables positions (filled parts (variable_slots positions)) → IsLaidOut columns rows activities variables positions parts
slack_laid columns rows activities variables positions parts columns_are rows_are slack shape = record {
  shape = shape;
  entry_columns = columns_are;
  entry_rows = rows_are;
  columns_written = λ j q in_row. absurd (let at = slack j (subst (λ n. j < n) columns_are q) in omega (arith, at, in_row, rows_are));
}
