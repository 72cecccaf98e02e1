-- The side of one row becomes another one: each total behind the row is another one by as much, and no term of a column changes.
--     IsMovedSide i q r        each term of r is as that of q, but for that of row i, whose side is there
--     MovedLaw                 the totals of q, moved, are those of r, where the terms of r are short
use Rattle.std.specs.Prelude.{◌≡◌, ◌≢◌, ◌<◌, ℕ, ℤ, length}
use Rattle.frac128.specs.Rational.{ℚ, ◌-ℚ◌, ◌*ℚ◌}
use Rattle.whole_sums.specs.Wholes.{IsDenominator}
use Rattle.kept_totals.specs.Kept.{RunningTotals, moved_by, IsLikeTerm}
use Rattle.kept_totals.specs.Short.{IsShortFraction}
use Rattle.leaf_dual.specs.Answers.{row_number, cut_number}
use Rattle.leaf_dual.specs.ShortTerms.{AreFewTerms}
use Rattle.leaf_totals.specs.Keeping.{Question, HasSideOfRow, HasSideOfCut, HasTermOfColumn, asked_reduced, asked_bound, AreKeptTotals, AreShortFor, AreAllAdded}

abbrev pub row_product : Question → ℕ → ℚ
row_product q i = q.row_weights i *ℚ row_number q.form.model q.row_weights i

-- by how much the term of row i grew
abbrev pub growth : ℕ → Question → Question → ℚ
growth i q r = row_product r i -ℚ row_product q i

pub record IsMovedSide (i : ℕ) (q r : Question) : Type 0 where
  pub within : i < length q.form.model.rows
  pub row_count : length q.form.model.rows ≡ length r.form.model.rows
  pub cut_count : length q.form.cuts ≡ length r.form.cuts
  pub column_count : length q.form.model.cols ≡ length r.form.model.cols
  pub constant : q.constant ≡ r.constant
  pub row_terms : (k : ℕ) → k ≢ i → row_product q k ≡ row_product r k
  pub row_sides : (k : ℕ) → k ≢ i → HasSideOfRow q k → HasSideOfRow r k
  pub side : HasSideOfRow r i
  pub cut_terms : (k : ℕ) → IsLikeTerm (q.live_weights k) (cut_number q.form.cuts q.live_weights k) (r.live_weights k) (cut_number r.form.cuts r.live_weights k)
  pub cut_sides : (k : ℕ) → HasSideOfCut q k → HasSideOfCut r k
  pub column_terms : (j : ℕ) → j < length q.form.model.cols → IsLikeTerm (asked_reduced q j) (asked_bound q j) (asked_reduced r j) (asked_bound r j)
  pub column_sides : (j : ℕ) → j < length q.form.model.cols → HasTermOfColumn q j → HasTermOfColumn r j

-- terms that are short are so of the other question, where that of the row is
abbrev pub ShortMovedLaw : Type 0
ShortMovedLaw = (i : ℕ) (d : ℤ) (q r : Question) → IsMovedSide i q r → AreShortFor d q → IsShortFraction d (row_product r i) → AreShortFor d r

abbrev pub MovedLaw : Type 0
MovedLaw =
    (i : ℕ) (d : ℤ) (q r : Question) (old new : RunningTotals) → IsDenominator d → AreFewTerms r.form → IsMovedSide i q r → AreShortFor d r → new ≡ moved_by old (growth i q r)
    → AreKeptTotals q old.kept → AreAllAdded q old → AreKeptTotals r new.kept × AreAllAdded r new
