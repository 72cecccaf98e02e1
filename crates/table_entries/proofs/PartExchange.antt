-- An exchange of the rows that are written is one of all rows: those that are not written go over with their columns, and each of their steps has room.
use Rattle.std.specs.Prelude.{◌≡◌, ◌≢◌, ℕ, zero, suc, ◌+◌, ◌*◌, ◌/◌, ◌%◌, ◌<◌, ◌==◌, if◌then◌else◌, List, get_or, length, ℤ, pos, Bool, true, false}
use Rattle.std.proofs.Common.{refl, sym, ap, subst, ◌∙◌, arith}
use Rattle.std.proofs.lemmas.Bool.{false≢true}
use Rattle.std.proofs.lemmas.Nat.{div-mul-add, mod-mul-add}
use Rattle.std.proofs.Math.Nat.{div-lt_iff_lt-mul, mod-lt}
use Rattle.std.proofs.lemmas.List.{ext_get_or}
use Rattle.std.proofs.lemmas.List.FromFn.{length-map-range_with_len, get_or-map-range_with_len}
use Rattle.frac128.specs.Rational.{ℚ, int, ◌-ℚ◌, ◌*ℚ◌, ◌/ℚ◌, neg_ℚ, inverse}
use Rattle.frac128.specs.LowestTerms.{quotient_of}
use Rattle.table_entries.specs.Relaxation.{pivoted_entry}
use Rattle.table_entries.specs.Steps.{PivotStepFits, EntryFits}
use Rattle.table_entries.proofs.Pivot.{pivoted-other}
use Rattle.table_entries.specs.FlatSteps.{dense_entry}
use Rattle.table_entries.specs.WholeSteps.{IsShort, whole_number_at, is_unwritten}
use Rattle.table_entries.specs.Listed.{Listed, IsListed, IsExchangedList}
use Rattle.table_entries.specs.Parts.{unwritten_entry, row_coefficient, any_entry, swapped, listed_entries}
use Rattle.table_entries.specs.private.Parts.{slot_number, combined, IsLight}
use Rattle.table_entries.proofs.PivotLemmas.{flat_within}
use Rattle.table_entries.proofs.RowLemmas.{other_test, flat_fits, flat_written}
use Rattle.whole_sums.proofs.SumLemmas.{zero_over}
use Rattle.table_entries.proofs.PartLemmas.{unwritten_moved}
use Rattle.table_entries.proofs.PartNumbers.{numbers_length, entry_is, unwritten_value, unwritten_fits}

-- ---- the same entries give the same entries after an exchange, and the same room

pub pivoted_same : (t u : ℕ → ℕ → ℚ) (r s i k : ℕ) → t r s ≡ u r s → t r k ≡ u r k → t i s ≡ u i s → t i k ≡ u i k → pivoted_entry t r s i k ≡ pivoted_entry u r s i k
pivoted_same t u r s i k a b c d = λ z.
    if i == r
    then (if k == s then inverse (a z) else neg_ℚ (b z /ℚ a z))
    else (if k == s then c z /ℚ a z else d z -ℚ c z *ℚ (b z /ℚ a z))

pub fits_same : (t u : ℕ → ℕ → ℚ) (r s i k : ℕ) → t r s ≡ u r s → t r k ≡ u r k → t i s ≡ u i s → t i k ≡ u i k → EntryFits t r s i k → EntryFits u r s i k
fits_same t u r s i k a b c d h =
    let same : EntryFits t r s i k ≡ EntryFits u r s i k = λ z. PivotStepFits (i == r) (k == s) (a z) (b z) (c z) (d z) in
    subst (λ X. X) same h

-- ---- all rows

module _ (m n r s : ℕ) (r_within : r < m) (s_within : s < n) (t u : ℕ → ℕ → ℚ) (some : t r s ≢ int (pos 0)) (is_open : ℕ → Bool) (c : ℕ → ℕ → ℤ) (slots : ℕ → ℕ)
    (row_written : is_open r ≡ false) (columns_written : (j : ℕ) → j < n → slots j < m → is_open (slots j) ≡ false) where
  -- the entries of all rows, by those of the rows that are written
  abbrev entry_by : (ℕ → ℕ → ℚ) → (ℕ → ℕ) → ℕ → ℕ → ℚ
  entry_by w places i k = if is_open i then unwritten_entry m n w places (c i) k else w i k

  by_written : (w : ℕ → ℕ → ℚ) (places : ℕ → ℕ) (i k : ℕ) → is_open i ≡ false → entry_by w places i k ≡ w i k
  by_written w places i k e = ap (λ b. if b then unwritten_entry m n w places (c i) k else w i k) e

  by_unwritten : (w : ℕ → ℕ → ℚ) (places : ℕ → ℕ) (i k : ℕ) → is_open i ≡ true → entry_by w places i k ≡ unwritten_entry m n w places (c i) k
  by_unwritten w places i k e = ap (λ b. if b then unwritten_entry m n w places (c i) k else w i k) e

  cases : (P : Type 0) (i : ℕ) → (is_open i ≡ true → P) → (is_open i ≡ false → P) → P
  cases P i open_row done_row = by (is_open i) refl
    where
      by : (b : Bool) → is_open i ≡ b → P
      by true e = open_row e
      by false e = done_row e

  not_row : (i : ℕ) → is_open i ≡ true → ¬ (i ≡ r)
  not_row i e same = false≢true (sym row_written ∙ ap is_open (sym same) ∙ e)

  module _ (entering leaving : ℕ) (entering_is : slots entering ≡ m + s) (leaving_is : slots leaving ≡ r)
      (leaves_alone : (j : ℕ) → j < n → slots j ≡ r → j ≡ leaving) (enters_alone : (j : ℕ) → j < n → slots j ≡ m + s → j ≡ entering)
      (exchanged : (i k : ℕ) → i < m → k < n → is_open i ≡ false → u i k ≡ pivoted_entry t r s i k) where
    abbrev slots' : ℕ → ℕ
    slots' = swapped slots r (m + s) entering leaving

    pub after_is : (i k : ℕ) → i < m → k < n → entry_by u slots' i k ≡ pivoted_entry (entry_by t slots) r s i k
    after_is i k p q = cases (entry_by u slots' i k ≡ pivoted_entry (entry_by t slots) r s i k) i unwritten written
      where
        at_r : (l : ℕ) → t r l ≡ entry_by t slots r l
        at_r l = sym (by_written t slots r l row_written)

        written : is_open i ≡ false → entry_by u slots' i k ≡ pivoted_entry (entry_by t slots) r s i k
        written e =
            by_written u slots' i k e ∙ exchanged i k p q e
            ∙ pivoted_same t (entry_by t slots) r s i k (at_r s) (at_r k) (sym (by_written t slots i s e)) (sym (by_written t slots i k e))

        unwritten : is_open i ≡ true → entry_by u slots' i k ≡ pivoted_entry (entry_by t slots) r s i k
        unwritten e =
            by_unwritten u slots' i k e
            ∙ unwritten_moved m n r s r_within t u some slots entering leaving entering_is leaving_is leaves_alone enters_alone k (exchanged r k r_within q row_written)
            (λ j w in_row. exchanged (slots j) k in_row q (columns_written j w in_row)) (c i)
            ∙ (λ z. if k == s then sym (by_unwritten t slots i s e) z /ℚ at_r s z else sym (by_unwritten t slots i k e) z -ℚ sym (by_unwritten t slots i s e) z *ℚ (at_r k z /ℚ at_r s z))
            ∙ sym (pivoted-other (entry_by t slots) r s i k (not_row i e))

-- ---- room

module _ (m n r s : ℕ) (r_within : r < m) (s_within : s < n) (old : Listed) (is : IsListed old) (size : length old.list ≡ m * n) (some : dense_entry n old.list r s ≢ int (pos 0))
    (flags : List Bool) (coefficients : List ℤ) (slots : ℕ → ℕ) (row_written : is_unwritten flags r ≡ false)
    (light : (i : ℕ) → i < m → is_unwritten flags i ≡ true → IsLight m n old coefficients slots i)
    (written_fit : (i k : ℕ) → i < m → k < n → is_unwritten flags i ≡ false → EntryFits (dense_entry n old.list) r s i k) where
  abbrev entry : ℕ → ℕ → ℚ
  entry = any_entry m n coefficients slots flags old.list

  abbrev D : ℤ
  D = old.denominator

  short : (k : ℕ) → k < n → IsShort (whole_number_at old.numbers (r * n + k))
  short k q = is.are_over.short (r * n + k) (subst (λ l. r * n + k < l) (sym (numbers_length m n old is ∙ size)) (flat_within n m r k r_within q))

  pivot_some : whole_number_at old.numbers (r * n + s) ≢ pos 0
  pivot_some none = some (entry_is m n old is r s ∙ ap (λ x. quotient_of x D) none ∙ zero_over D is.are_over.positive)

  at_written : (i k : ℕ) → is_unwritten flags i ≡ false → entry i k ≡ dense_entry n old.list i k
  at_written i k e = ap (λ b. if b then unwritten_entry m n (dense_entry n old.list) slots (row_coefficient n coefficients i) k else dense_entry n old.list i k) e

  at_unwritten : (i k : ℕ) → is_unwritten flags i ≡ true → entry i k ≡ unwritten_entry m n (dense_entry n old.list) slots (row_coefficient n coefficients i) k
  at_unwritten i k e = ap (λ b. if b then unwritten_entry m n (dense_entry n old.list) slots (row_coefficient n coefficients i) k else dense_entry n old.list i k) e

  pub all_fit : (i k : ℕ) → i < m → k < n → EntryFits entry r s i k
  all_fit i k p q = by (is_unwritten flags i) refl
    where
      written : is_unwritten flags i ≡ false → EntryFits entry r s i k
      written e =
          fits_same (dense_entry n old.list) entry r s i k (sym (at_written r s row_written)) (sym (at_written r k row_written)) (sym (at_written i s e)) (sym (at_written i k e)) (written_fit i k p q e)

      unwritten : is_unwritten flags i ≡ true → EntryFits entry r s i k
      unwritten e =
          let h : IsLight m n old coefficients slots i = light i p e in
          let c = row_coefficient n coefficients i in
          let x : ℕ → ℤ = λ j. slot_number m n old (slots j) s in
          let y : ℕ → ℤ = λ j. slot_number m n old (slots j) k in
          let other : ¬ (i ≡ r) = λ same. false≢true (sym row_written ∙ ap (is_unwritten flags) (sym same) ∙ e) in
          let fits : PivotStepFits false (k == s) (quotient_of (whole_number_at old.numbers (r * n + s)) D) (quotient_of (whole_number_at old.numbers (r * n + k)) D) (quotient_of (combined c x n) D) (quotient_of (combined c y n) D) =
          unwritten_fits D (whole_number_at old.numbers (r * n + s)) is.are_over.positive pivot_some is.are_over.denominator_short (short s s_within) c n h.limit h.heaviest h.room h.above h.light x y
          (λ j w. h.within j s w s_within) (λ j w. h.within j k w q) (whole_number_at old.numbers (r * n + k)) (short k q) (k == s) in
          let pivot_is : quotient_of (whole_number_at old.numbers (r * n + s)) D ≡ entry r s = sym (entry_is m n old is r s) ∙ sym (at_written r s row_written) in
          let row_is : quotient_of (whole_number_at old.numbers (r * n + k)) D ≡ entry r k = sym (entry_is m n old is r k) ∙ sym (at_written r k row_written) in
          let place_is : quotient_of (combined c x n) D ≡ entry i s = sym (unwritten_value m n old is c slots s) ∙ sym (at_unwritten i s e) in
          let entry_here : quotient_of (combined c y n) D ≡ entry i k = sym (unwritten_value m n old is c slots k) ∙ sym (at_unwritten i k e) in
          let same : PivotStepFits false (k == s) (quotient_of (whole_number_at old.numbers (r * n + s)) D) (quotient_of (whole_number_at old.numbers (r * n + k)) D) (quotient_of (combined c x n) D) (quotient_of (combined c y n) D) ≡ EntryFits entry r s i k =
          λ z. PivotStepFits (sym (other_test i r other) z) (k == s) (pivot_is z) (row_is z) (place_is z) (entry_here z) in
          subst (λ X. X) same fits

      by : (b : Bool) → is_unwritten flags i ≡ b → EntryFits entry r s i k
      by true e = unwritten e
      by false e = written e

-- ---- lists

pub listed_at : (m n : ℕ) (t : ℕ → ℕ → ℚ) (i k : ℕ) → i < m → k < n → dense_entry n (listed_entries m n t) i k ≡ t i k
listed_at m n t i k p q =
    get_or-map-range_with_len (λ at. t (at / n) (at % n)) 0 (m * n) (i * n + k) (i * n + k) (int (pos 0)) (flat_within n m i k p q) (omega arith)
    ∙ (λ z. t (div-mul-add i n k q z) (mod-mul-add i n k q z))

pub listed_length : (m n : ℕ) (t : ℕ → ℕ → ℚ) → length (listed_entries m n t) ≡ m * n
listed_length m n t = length-map-range_with_len (λ at. t (at / n) (at % n)) 0 (m * n)

pub listed_get : (m n : ℕ) (t : ℕ → ℕ → ℚ) (at : ℕ) → at < m * n → get_or (listed_entries m n t) at (int (pos 0)) ≡ t (at / n) (at % n)
listed_get m n t at within = get_or-map-range_with_len (λ x. t (x / n) (x % n)) 0 (m * n) at at (int (pos 0)) within (omega arith)

some_columns : (m n at : ℕ) → at < m * n → 0 < n
some_columns m zero at within = absurd (let none : m * 0 ≡ 0 = omega arith in omega (arith, none, within))
some_columns m (suc n) at within = omega arith

-- the same entries make the same list
pub listed_same : (m n : ℕ) (t u : ℕ → ℕ → ℚ) → ((i k : ℕ) → i < m → k < n → t i k ≡ u i k) → listed_entries m n t ≡ listed_entries m n u
listed_same m n t u same =
    ext_get_or (int (pos 0)) (listed_entries m n t) (listed_entries m n u) (listed_length m n t ∙ sym (listed_length m n u))
    (λ at w. let within : at < m * n = subst (λ x. at < x) (listed_length m n t) w in
    let some : 0 < n = some_columns m n at within in
    listed_get m n t at within ∙ same (at / n) (at % n) ((div-lt_iff_lt-mul some).1 within) (mod-lt at some) ∙ sym (listed_get m n u at within))

-- entries that are those after an exchange, each step of which has room, make lists that are so
pub lists_exchanged : (m n r s : ℕ) (t u : ℕ → ℕ → ℚ) → r < m → s < n → ((i k : ℕ) → i < m → k < n → u i k ≡ pivoted_entry t r s i k) → ((i k : ℕ) → i < m → k < n → EntryFits t r s i k)
    → IsExchangedList n r s (listed_entries m n t) (listed_entries m n u)
lists_exchanged m n r s t u r_within s_within exchanged fits = record {
  written = λ at w. flat_written n m r s (listed_entries m n t) at (there at w) (listed_entries m n u)
      (λ i k p q. listed_at m n u i k p q ∙ exchanged i k p q
      ∙ pivoted_same t (dense_entry n (listed_entries m n t)) r s i k (back r s r_within s_within) (back r k r_within q) (back i s p s_within) (back i k p q));
  fits = λ at w. flat_fits n m r s (listed_entries m n t) at (there at w)
      (λ i k p q. fits_same t (dense_entry n (listed_entries m n t)) r s i k (back r s r_within s_within) (back r k r_within q) (back i s p s_within) (back i k p q) (fits i k p q));
  size = listed_length m n u ∙ sym (listed_length m n t);
}
  where
    there : (at : ℕ) → at < length (listed_entries m n t) → at < m * n
    there at w = subst (λ x. at < x) (listed_length m n t) w

    back : (i k : ℕ) → i < m → k < n → t i k ≡ dense_entry n (listed_entries m n t) i k
    back i k p q = sym (listed_at m n t i k p q)
