-- A column has no more entries than non-zero numbers beside rows with sides: each row's entry is the first such number.
use Rattle.std.proofs.Common.{◌≡◌, ℕ, suc, ◌+◌, ◌≤◌, Bool, true, false, not, ◌&&◌, ◌||◌, List, [], ◌∷◌, length, refl, sym, ◌∙◌, ap, arith, pos, inl, inr, Contains}
use Rattle.std.specs.Prelude.{if◌then◌else◌, bytes_eq}
use Rattle.std.proofs.lemmas.Bool.{or_cases, true≢false, false≢true, false_from_ne_true}
use Rattle.std.proofs.lemmas.Slice.Eq.{bytes_eq-Decides}
use Rattle.frac128.specs.Rational.{int}
use Rattle.lp_model.proofs.NameLemmas.{contains_first, contains_later}
use Rattle.lp_model.specs.Edits.{is_zero}
use Rattle.mps_sections.specs.Statements.{is_row_name, coefficients_in, stated_row_names}
use Rattle.mps_sections.specs.Limits.{AreNamesApart}
use Rattle.mps_sections.specs.declared.statements.RowLine.{RowLine}
use Rattle.mps_sections.specs.declared.statements.RowNumber.{RowNumber}
use Rattle.frac128.proofs.Comparison.{eq_by_cmp-decides}
use Rattle.mps_sections.proofs.ListFacts.{bytes_eq-flips}
use Rattle.mps_model.specs.Meaning.{row_number_beside, row_numbers_beside, row_entries_from}

-- one more name lets as many numbers pass, or more
longer_by : (n : ℕ) (a b c : Bool) (p : RowNumber) (xs ys : List RowNumber) → n + length xs ≤ length ys → n + length (if b && c then p ∷ xs else xs) ≤ length (if (a || b) && c then p ∷ ys else ys)
longer_by n true true true p xs ys h = omega arith
longer_by n true true false p xs ys h = omega arith
longer_by n true false true p xs ys h = omega arith
longer_by n true false false p xs ys h = omega arith
longer_by n false true true p xs ys h = omega arith
longer_by n false true false p xs ys h = omega arith
longer_by n false false true p xs ys h = omega arith
longer_by n false false false p xs ys h = omega arith

longer_here : (a b z : Bool) (p : RowNumber) (xs ys : List RowNumber) → a ≡ true → b ≡ false → z ≡ false → length xs ≤ length ys → 1 + length (if b && not z then p ∷ xs else xs) ≤ length (if (a || b) && not z then p ∷ ys else ys)
longer_here true false false p xs ys e f g h = omega arith
longer_here true false true p xs ys e f g h = absurd (false≢true (sym g))
longer_here true true z p xs ys e f g h = absurd (false≢true (sym f))
longer_here false b z p xs ys e f g h = absurd (false≢true e)

module _ (r : RowLine) (sided : List RowLine) where
  fewer : (found : List RowNumber) → length (coefficients_in sided found) ≤ length (coefficients_in (r ∷ sided) found)
  fewer [] = omega arith
  fewer (p ∷ found) =
      let before : 0 + length (coefficients_in sided found) ≤ length (coefficients_in (r ∷ sided) found) = omega (arith, fewer found) in
      omega (arith, longer_by 0 (bytes_eq r.name p.row) (is_row_name sided p.row) (not (is_zero p.number)) p (coefficients_in sided found) (coefficients_in (r ∷ sided) found) before)

  one_more : (found : List RowNumber) → is_row_name sided r.name ≡ false → is_zero (row_number_beside r.name found) ≡ false → 1 + length (coefficients_in sided found) ≤ length (coefficients_in (r ∷ sided) found)
  one_more [] new some = absurd (true≢false (sym ((eq_by_cmp-decides (int (pos 0)) (int (pos 0))).1 refl) ∙ some))
  one_more (p ∷ found) new some = by (bytes_eq p.row r.name) refl some (λ z. one_more found new z)
    where
      by : (b : Bool) → bytes_eq p.row r.name ≡ b → is_zero (if b then p.number else row_number_beside r.name found) ≡ false
          → (is_zero (row_number_beside r.name found) ≡ false → 1 + length (coefficients_in sided found) ≤ length (coefficients_in (r ∷ sided) found)) → 1 + length (coefficients_in sided (p ∷ found)) ≤ length (coefficients_in (r ∷ sided) (p ∷ found))
      by true e z later =
          longer_here (bytes_eq r.name p.row) (is_row_name sided p.row) (is_zero p.number) p (coefficients_in sided found) (coefficients_in (r ∷ sided) found) (bytes_eq-flips r.name p.row ∙ e)
          (ap (is_row_name sided) ((bytes_eq-Decides p.row r.name).0 e) ∙ new) z (fewer found)
      by false e z later =
          longer_by 1 (bytes_eq r.name p.row) (is_row_name sided p.row) (not (is_zero p.number)) p (coefficients_in sided found) (coefficients_in (r ∷ sided) found) (later z)

pub row_there : (sided : List RowLine) (name : List ℕ) → is_row_name sided name ≡ true → Contains (stated_row_names sided) name
row_there [] name e = absurd (false≢true e)
row_there (r ∷ sided) name e =
    elim (or_cases (bytes_eq r.name name) (is_row_name sided name) e) [
      | inl is ↦ contains_first r.name name (stated_row_names sided) ((bytes_eq-Decides r.name name).0 is)
      | inr later ↦ contains_later r.name name (stated_row_names sided) (row_there sided name later)
    ]

pub none_later : (name : List ℕ) (names : List (List ℕ)) → AreNamesApart (name ∷ names) → ¬ Contains names name
none_later name names apart (k, below, is) = apart 0 (suc k) name (omega arith) (omega (arith, below)) (sym is)

pub apart_later : (name : List ℕ) (names : List (List ℕ)) → AreNamesApart (name ∷ names) → AreNamesApart names
apart_later name names apart = λ i j d below within. apart (suc i) (suc j) d (omega (arith, below)) (omega (arith, within))

pub few_entries : (sided : List RowLine) (k : ℕ) (found : List RowNumber) → AreNamesApart (stated_row_names sided) → length (row_entries_from k (row_numbers_beside (stated_row_names sided) found)) ≤ length (coefficients_in sided found)
few_entries [] k found apart = omega arith
few_entries (r ∷ sided) k found apart = by (is_zero (row_number_beside r.name found)) refl (few_entries sided (suc k) found (apart_later r.name (stated_row_names sided) apart))
  where
    new : is_row_name sided r.name ≡ false
    new = false_from_ne_true (is_row_name sided r.name) (λ e. none_later r.name (stated_row_names sided) apart (row_there sided r.name e))

    by : (z : Bool) → is_zero (row_number_beside r.name found) ≡ z → length (row_entries_from (suc k) (row_numbers_beside (stated_row_names sided) found)) ≤ length (coefficients_in sided found)
        → length (if z then row_entries_from (suc k) (row_numbers_beside (stated_row_names sided) found) else (record { 0 = k }, row_number_beside r.name found) ∷ row_entries_from (suc k) (row_numbers_beside (stated_row_names sided) found)) ≤ length (coefficients_in (r ∷ sided) found)
    by true e rest = omega (arith, rest, fewer r sided found)
    by false e rest = omega (arith, rest, one_more r sided found new e)
