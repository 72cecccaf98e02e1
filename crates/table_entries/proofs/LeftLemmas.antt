-- Rows that an exchange leaves alone are those of the table after it.
use Rattle.std.specs.Prelude.{◌≡◌, ◌≢◌, ℕ, ◌+◌, ◌*◌, ◌/◌, ◌%◌, ◌<◌, ◌==◌, ◌<ℤ◌, Bool, true, false, List, [], ◌∷◌, get_or, set, length, ℤ, pos}
use Rattle.std.proofs.Common.{refl, sym, ap, subst, ◌∙◌, ⊎_elim, arith, below_more}
use Rattle.std.proofs.lemmas.List.{get_or-set_same, get_or-set_other}
use Rattle.std.proofs.lemmas.Bool.Decides.{Decides-eqb}
use Rattle.std.proofs.lemmas.Nat.{div-add-mod'}
use Rattle.std.proofs.Math.Nat.{div-lt_iff_lt-mul, mod-lt}
use Rattle.frac128.specs.Rational.{ℚ, int, ◌+ℚ◌, ◌*ℚ◌, ◌/ℚ◌, inverse}
use Rattle.frac128.specs.RationalRing.{ring_ℚ, reads_ℚ}
use Rattle.frac128.specs.Range.{Fits}
use Rattle.frac128.proofs.Whole.{Fits-zero}
use Rattle.table_entries.specs.Relaxation.{pivoted_entry}
use Rattle.table_entries.specs.Steps.{EntryFits}
use Rattle.table_entries.specs.FlatSteps.{dense_entry}
use Rattle.table_entries.specs.WholeSteps.{IsShort, IsWholeStep, WholeAt, AreShort, AreWithin, AreWritten, is_unwritten, magnitude, whole_number_at}
use Rattle.table_entries.specs.private.RowSteps.{MovedFits, moved_value, IsLeftAlone, IsTakenRow}
use Rattle.table_entries.specs.private.LeftRows.{IsWholeLeft, AreLeft}
use Rattle.table_entries.proofs.RowLemmas.{unmoved_factor, moved_fits, moved_is, other_test, all_rows, rows_apart}
use Rattle.table_entries.proofs.PivotLemmas.{flat_within}
use Rattle.table_entries.proofs.WholeLemmas.{left_step, step_at}

-- ---- fractions

module _ (n r s i : ℕ) (entries : List ℚ) (k : ℕ) (left : IsLeftAlone (dense_entry n entries) r s i) (leaving : EntryFits (dense_entry n entries) r s r k) where
  abbrev t : ℕ → ℕ → ℚ
  t = dense_entry n entries

  abbrev y : ℚ
  y = pivoted_entry t r s r k

  nothing_over : t i s /ℚ t r s ≡ int (pos 0)
  nothing_over = ap (λ z. z *ℚ inverse (t r s)) left.nothing ∙ ring_ℚ (inverse (t r s) ∷ []) (search reads_ℚ) (search reads_ℚ) tt

  nothing_taken : t i s *ℚ y ≡ int (pos 0)
  nothing_taken = ap (λ z. z *ℚ y) left.nothing ∙ ring_ℚ (y ∷ []) (search reads_ℚ) (search reads_ℚ) tt

  fits_by : (b : Bool) → Fits (t i k) → MovedFits b (t r s) (t i s) y (t i k)
  fits_by true fits = subst Fits (sym nothing_over) Fits-zero
  fits_by false fits = (unmoved_factor (t r s) (t i s) y (t i k) fits left.nothing).0

  value_by : (b : Bool) → (k == s) ≡ b → t i k ≡ moved_value b (t r s) (t i s) y (t i k)
  value_by true e = ap (λ j. t i j) ((Decides-eqb k s).0 e) ∙ left.nothing ∙ sym nothing_over
  value_by false e = ring_ℚ (t i k ∷ []) {y = t i k +ℚ int (pos 0)} (search reads_ℚ) (search reads_ℚ) tt ∙ ap (λ z. t i k +ℚ z) (sym nothing_taken)

  pub left_fits : Fits (t i k) → EntryFits t r s i k
  left_fits fits = moved_fits n r s i left.other entries k (t r s) (t i s) y (t i k) refl refl refl refl leaving (fits_by (k == s) fits)

  pub left_value : t i k ≡ pivoted_entry t r s i k
  left_value = value_by (k == s) refl ∙ moved_is n r s i left.other entries k (t r s) (t i s) y (t i k) refl refl refl refl leaving

-- one more row, which was written, or is left alone
module _ (n r s : ℕ) (entries old : List ℚ) where
  abbrev WrittenIn : List ℚ → ℕ → ℕ → Type 0
  WrittenIn xs j k = ¬ (IsLeftAlone (dense_entry n entries) r s j) → get_or xs (j * n + k) (int (pos 0)) ≡ pivoted_entry (dense_entry n entries) r s j k

  pub some_written : (next : List ℚ) (i : ℕ) → ((j k : ℕ) → j ≢ i → k < n → get_or next (j * n + k) (int (pos 0)) ≡ get_or old (j * n + k) (int (pos 0)))
      → ((j k : ℕ) → j < i → k < n → WrittenIn old j k)
      → ((k : ℕ) → k < n → get_or next (i * n + k) (int (pos 0)) ≡ pivoted_entry (dense_entry n entries) r s i k)
      → (j k : ℕ) → j < i + 1 → k < n → WrittenIn next j k
  some_written next i kept before here =
      all_rows n r s entries old old i {P = WrittenIn next} (λ j k less q goes. kept j k (λ e. omega (arith, e, less)) q ∙ before j k less q goes) (λ k q goes. here k q)

  pub none_written : (i : ℕ) → IsLeftAlone (dense_entry n entries) r s i → ((j k : ℕ) → j < i → k < n → WrittenIn old j k) → (j k : ℕ) → j < i + 1 → k < n → WrittenIn old j k
  none_written i alone before = all_rows n r s entries old old i {P = WrittenIn old} before (λ k q goes. absurd (goes alone))

-- all rows, of which each that is not left alone was written
pub taken_rows : (n m r s : ℕ) (entries next new : List ℚ) → r < m
    → ((i k : ℕ) → i < m → k < n → ¬ (IsLeftAlone (dense_entry n entries) r s i) → get_or next (i * n + k) (int (pos 0)) ≡ pivoted_entry (dense_entry n entries) r s i k)
    → ((i k : ℕ) → i < m → k < n → EntryFits (dense_entry n entries) r s i k)
    → ((i : ℕ) → i < m → IsTakenRow n (dense_entry n entries) r s next new i)
    → (i k : ℕ) → i < m → k < n → get_or new (i * n + k) (int (pos 0)) ≡ pivoted_entry (dense_entry n entries) r s i k
taken_rows n m r s entries next new r_within written fits taken i k p q =
    ⊎_elim (λ stays. stays.1 k q ∙ left_value n r s i entries k stays.0 (fits r k r_within q)) (λ goes. goes.1 k q ∙ written i k p q goes.0) (taken i p)

-- ---- numbers over one denominator, which stays

module _ (m n r s : ℕ) (d : ℤ) (numbers : List ℤ) (unwritten marks : List Bool) (next new : List ℤ) (r_within : r < m) (s_within : s < n) (size : length numbers ≡ m * n)
    (short : AreShort numbers) (d_positive : pos 0 <ℤ d) (d_short : IsShort d) (some : whole_number_at numbers (r * n + s) ≢ pos 0)
    (left : AreLeft m n r s numbers unwritten marks) where
  abbrev p : ℤ
  p = whole_number_at numbers (r * n + s)

  short_at : (i k : ℕ) → i < m → k < n → IsShort (whole_number_at numbers (i * n + k))
  short_at i k w v = short (i * n + k) (subst (λ x. i * n + k < x) (sym size) (flat_within n m i k w v))

  kept_by : (i k : ℕ) → i < m → k < n → IsWholeLeft n r s numbers i
      → IsWholeStep (i == r) (k == s) d d p (whole_number_at numbers (r * n + k)) (whole_number_at numbers (i * n + s)) (whole_number_at numbers (i * n + k)) (whole_number_at numbers (i * n + k))
  kept_by i k w v alone =
      step_at (i == r) (k == s) false (k == s) d d p _ _ _ (whole_number_at numbers (i * n + k)) (whole_number_at numbers (i * n + k)) (other_test i r alone.other) refl refl
      (left_step d p d_positive some d_short (short_at r s r_within s_within) _ _ _ (short_at r k r_within v) (short_at i s w s_within) (short_at i k w v) alone.nothing (k == s)
      (λ e. ap (λ j. whole_number_at numbers (i * n + j)) ((Decides-eqb k s).0 e)))

  module _ (written : AreWritten n r s d d numbers marks next (m * n))
      (taken : (i k : ℕ) → i < m → k < n → is_unwritten marks i ≡ false → whole_number_at new (i * n + k) ≡ whole_number_at next (i * n + k))
      (kept : (i k : ℕ) → i < m → k < n → is_unwritten marks i ≡ true → whole_number_at new (i * n + k) ≡ whole_number_at numbers (i * n + k)) where
    some_columns : 0 < n
    some_columns = omega (arith, s_within)

    pub left_written : AreWritten n r s d d numbers unwritten new (m * n)
    left_written at less flag = by (is_unwritten marks (at / n)) refl
      where
        back : at / n * n + at % n ≡ at
        back = div-add-mod' at n

        i_within : at / n < m
        i_within = (div-lt_iff_lt-mul some_columns).1 less

        k_within : at % n < n
        k_within = mod-lt at some_columns

        by : (b : Bool) → is_unwritten marks (at / n) ≡ b → WholeAt n r s d d numbers (whole_number_at new at) at
        by false e =
            let same : whole_number_at next at ≡ whole_number_at new at = ap (whole_number_at next) (sym back) ∙ sym (taken (at / n) (at % n) i_within k_within e) ∙ ap (whole_number_at new) back in
            subst (λ x. WholeAt n r s d d numbers x at) same (written at less e)
        by true e =
            let alone = left.left (at / n) i_within e flag in
            let same : whole_number_at numbers (at / n * n + at % n) ≡ whole_number_at new at = sym (kept (at / n) (at % n) i_within k_within e) ∙ ap (whole_number_at new) back in
            subst (λ x. IsWholeStep (at / n == r) (at % n == s) d d p (whole_number_at numbers (r * n + at % n)) (whole_number_at numbers (at / n * n + s)) (whole_number_at numbers at) x) same
            (subst (λ a. IsWholeStep (at / n == r) (at % n == s) d d p (whole_number_at numbers (r * n + at % n)) (whole_number_at numbers (at / n * n + s)) (whole_number_at numbers a) (whole_number_at numbers (at / n * n + at % n))) back
            (kept_by (at / n) (at % n) i_within k_within alone))

    pub left_within : (limit : ℤ) → AreWithin m n unwritten limit numbers → AreWithin m n marks limit next → AreWithin m n unwritten limit new
    left_within limit before after i k p q flag = by (is_unwritten marks i) refl
      where
        by : (b : Bool) → is_unwritten marks i ≡ b → magnitude (whole_number_at new (i * n + k)) <ℤ limit
        by false e = subst (λ x. magnitude x <ℤ limit) (sym (taken i k p q e)) (after i k p q e)
        by true e = subst (λ x. magnitude x <ℤ limit) (sym (kept i k p q e)) (before i k p q flag)

-- ---- one more entry, or number, of a row copied

module _ (n i : ℕ) (entries next : List ℚ) (at k : ℕ) (k_within : k < n) (at_is : at ≡ i * n + k) (room : at < length entries) (x : ℚ) (x_is : x ≡ dense_entry n next i k) where
  pub taken_more : ((j : ℕ) → j < k → dense_entry n entries i j ≡ dense_entry n next i j) → (j : ℕ) → j < k + 1 → dense_entry n (set entries at x) i j ≡ dense_entry n next i j
  taken_more earlier =
      below_more (λ j. dense_entry n (set entries at x) i j ≡ dense_entry n next i j) k
      (λ j less. get_or-set_other entries at (i * n + j) x (int (pos 0)) (λ e. omega (arith, e, less, at_is)) ∙ earlier j less)
      (subst (λ a. get_or (set entries at x) a (int (pos 0)) ≡ x) at_is (get_or-set_same entries at x (int (pos 0)) room) ∙ x_is)

  pub others_stay : (old : List ℚ) → ((j l : ℕ) → j ≢ i → l < n → dense_entry n entries j l ≡ dense_entry n old j l) → (j l : ℕ) → j ≢ i → l < n → dense_entry n (set entries at x) j l ≡ dense_entry n old j l
  others_stay old before j l other l_within = get_or-set_other entries at (j * n + l) x (int (pos 0)) (λ e. rows_apart n j i l k other l_within k_within (e ∙ at_is)) ∙ before j l other l_within

module _ (n i : ℕ) (numbers next : List ℤ) (at k : ℕ) (k_within : k < n) (at_is : at ≡ i * n + k) (room : at < length numbers) (x : ℤ) (x_is : x ≡ whole_number_at next (i * n + k)) where
  pub number_taken : ((j : ℕ) → j < k → whole_number_at numbers (i * n + j) ≡ whole_number_at next (i * n + j)) → (j : ℕ) → j < k + 1 → whole_number_at (set numbers at x) (i * n + j) ≡ whole_number_at next (i * n + j)
  number_taken earlier =
      below_more (λ j. whole_number_at (set numbers at x) (i * n + j) ≡ whole_number_at next (i * n + j)) k
      (λ j less. get_or-set_other numbers at (i * n + j) x (pos 0) (λ e. omega (arith, e, less, at_is)) ∙ earlier j less)
      (subst (λ a. whole_number_at (set numbers at x) a ≡ x) at_is (get_or-set_same numbers at x (pos 0) room) ∙ x_is)

  pub numbers_stay : (old : List ℤ) → ((j l : ℕ) → j ≢ i → l < n → whole_number_at numbers (j * n + l) ≡ whole_number_at old (j * n + l)) → (j l : ℕ) → j ≢ i → l < n → whole_number_at (set numbers at x) (j * n + l) ≡ whole_number_at old (j * n + l)
  numbers_stay old before j l other l_within = get_or-set_other numbers at (j * n + l) x (pos 0) (λ e. rows_apart n j i l k other l_within k_within (e ∙ at_is)) ∙ before j l other l_within
