-- The models of `bench`: of so many rows and columns, by the words of a seed.
--     column C1, C2, ..     integer from 0 to 1, its cost -(1 + w mod 20), one word each, in order
--     row R1, R2, ..        at most half the sum of its row_coefficients, rounded down; for each column, in order, the coefficient w mod 10
-- The words of the columns come first, then those of the rows, one row after the other.
use Rattle.std.specs.Prelude.{ℕ, zero, suc, ◌+◌, ◌/◌, ◌%◌, true, false, List, [], ◌∷◌, ◌++◌, codes, decimal, pos, neg_ℤ, Some, None}
use Rattle.frac128.specs.Rational.{ℚ, int}
use Rattle.rand_pcg.specs.Lcg.{Lcg}
use Rattle.rand_pcg.specs.Pcg.{pcg32}
use Rattle.lp_model.specs.Program.{Program}
use Rattle.lp_model.specs.Edits.{Named, edited}
use Rattle.lp_model.specs.declared.types.Sense.TheVariants.{Min}
use Rattle.lp_model.specs.declared.types.Edit.{Edit}
use Rattle.lp_model.specs.declared.types.Edit.TheVariants.{AddCol, AddRow}
use Rattle.turn_order.specs.Words.{first_words, after_words}

-- the word after n others
abbrev pub word_after : ℕ → Lcg → ℕ
word_after n g = (pcg32 (after_words n g)).0

-- names count from 1
abbrev pub bench_col_name : ℕ → List ℕ
bench_col_name j = codes "C" ++ decimal (j + 1)

abbrev pub bench_row_name : ℕ → List ℕ
bench_row_name i = codes "R" ++ decimal (i + 1)

-- no row and no column
abbrev pub empty_program : Program
empty_program = record { sense = Min; obj = codes "OBJ"; obj2 = codes "OBJ2"; consts = int (pos 0) ∷ int (pos 0) ∷ []; rows = []; cols = []; wide = false }

-- ---- columns

abbrev pub cost_by : ℕ → ℚ
cost_by word = int (neg_ℤ (pos (1 + word % 20)))

abbrev pub added_column : ℕ → ℕ → Edit
added_column j word = AddCol (bench_col_name j) true (Some (int (pos 0))) (Some (int (pos 1))) (cost_by word) (int (pos 0)) []

abbrev pub with_columns : Lcg → ℕ → Program → Program
with_columns g zero M = M
with_columns g (suc n) M = edited (with_columns g n M) (added_column n (word_after n g))

-- ---- rows

abbrev pub coefficient_by : ℕ → ℕ
coefficient_by word = word % 10

-- the coefficients of the first n columns, each beside the name of its column
abbrev pub row_coefficients : Lcg → ℕ → Named
row_coefficients g zero = []
row_coefficients g (suc n) = row_coefficients g n ++ (bench_col_name n, int (pos (coefficient_by (word_after n g)))) ∷ []

abbrev pub total : Lcg → ℕ → ℕ
total g zero = 0
total g (suc n) = total g n + coefficient_by (word_after n g)

abbrev pub added_row : ℕ → Lcg → ℕ → Edit
added_row i g cols = AddRow (bench_row_name i) None (Some (int (pos (total g cols / 2)))) (row_coefficients g cols)

-- the words that are left after n rows
abbrev pub after_rows : Lcg → ℕ → ℕ → Lcg
after_rows g cols zero = g
after_rows g cols (suc n) = after_words cols (after_rows g cols n)

abbrev pub with_rows : Lcg → ℕ → ℕ → Program → Program
with_rows g cols zero M = M
with_rows g cols (suc n) M = edited (with_rows g cols n M) (added_row n (after_rows g cols n) cols)

-- ---- the model

abbrev pub bench_program : ℕ → ℕ → ℕ → Program
bench_program seed rows cols = with_rows (after_words cols (first_words seed)) cols rows (with_columns (first_words seed) cols empty_program)
