-- The entries of all rows stay where a row is written, are the list's where all rows are, and are the coefficients at the slack basis.
use Rattle.std.specs.Prelude.{◌≡◌, ◌≢◌, ℕ, ◌+◌, ◌-◌, ◌*◌, ◌/◌, ◌%◌, ◌<◌, ◌≤◌, ◌==◌, ltb, if◌then◌else◌, List, get_or, length, set, ℤ, pos, unsigned_abs, Bool, true, false}
use Rattle.std.proofs.Common.{refl, sym, ap, subst, ◌∙◌, ⊎_elim, arith, below_more}
use Rattle.std.proofs.lemmas.Bool.{cases_eq, le-ltb}
use Rattle.std.proofs.lemmas.Nat.{div-add-mod'}
use Rattle.std.proofs.lemmas.List.{ext_get_or, get_or-set_same, get_or-set_other}
use Rattle.frac128.specs.Rational.{ℚ, int, ◌*ℚ◌}
use Rattle.frac128.specs.RationalRing.{*ℚ_comm}
use Rattle.frac128.specs.LowestTerms.{quotient_of}
use Rattle.checked_sum.proofs.SumLaws.{sum_below-same}
use Rattle.table_entries.proofs.SumBelowLaws.{if_other}
use Rattle.table_entries.proofs.Pivot.{unit, sum_unit}
use Rattle.table_entries.specs.FlatSteps.{dense_entry}
use Rattle.table_entries.specs.WholeSteps.{whole_number_at, is_unwritten}
use Rattle.table_entries.specs.Listed.{Listed, IsListed}
use Rattle.table_entries.specs.Parts.{slot_entry, unwritten_entry, row_coefficient, any_entry, listed_entries}
use Rattle.table_entries.specs.private.Parts.{slot_number, combined, unwritten_number, IsLight, IsRowTouched}
use Rattle.table_entries.proofs.RowLemmas.{rows_apart}
use Rattle.table_entries.proofs.PartNumbers.{entry_is, unwritten_value, combined_same}
use Rattle.table_entries.proofs.PartExchange.{listed_get, listed_length}

-- ---- one more row that is written

-- numbers have changed in one row, in which no column stands
module _ (m n : ℕ) (coefficients : List ℤ) (slots : ℕ → ℕ) (row : ℕ) (old new : Listed) (was : IsListed old) (touched : IsRowTouched n row old new)
    (apart : (j : ℕ) → j < n → slots j ≢ row) where
  pub number_same : (slot k : ℕ) → slot ≢ row → k < n → slot_number m n new slot k ≡ slot_number m n old slot k
  number_same slot k other q = λ z. if ltb slot m then touched.others slot k other q z else (if k == slot - m then touched.denominator z else pos 0)

  -- rows that are not written keep their numbers
  pub number_still : (i k : ℕ) → k < n → unwritten_number m n new coefficients slots i k ≡ unwritten_number m n old coefficients slots i k
  number_still i k q = combined_same (row_coefficient n coefficients i) (λ j. slot_number m n new (slots j) k) (λ j. slot_number m n old (slots j) k) n (λ j w. number_same (slots j) k (apart j w) q)

  -- and so do the sums of the terms of some columns
  pub front_still : (i k end : ℕ) → k < n → end ≤ n → combined (row_coefficient n coefficients i) (λ j. slot_number m n new (slots j) k) end ≡ combined (row_coefficient n coefficients i) (λ j. slot_number m n old (slots j) k) end
  front_still i k end q within =
      combined_same (row_coefficient n coefficients i) (λ j. slot_number m n new (slots j) k) (λ j. slot_number m n old (slots j) k) end (λ j w. number_same (slots j) k (apart j (omega (arith, w, within))) q)

  pub light_still : (i : ℕ) → IsLight m n old coefficients slots i → IsLight m n new coefficients slots i
  light_still i h = record {
    form = touched.form;
    listed = touched.listed;
    limit = h.limit;
    heaviest = h.heaviest;
    above = h.above;
    room = h.room;
    light = h.light;
    within = λ j k w q. subst (λ x. unsigned_abs x < h.limit) (sym (number_same (slots j) k (apart j w) q)) (h.within j k w q);
  }

  entry_same : (i k : ℕ) → i ≢ row → k < n → dense_entry n new.list i k ≡ dense_entry n old.list i k
  entry_same i k other q = entry_is m n new touched.listed i k ∙ (λ z. quotient_of (touched.others i k other q z) (touched.denominator z)) ∙ sym (entry_is m n old was i k)

  unwritten_same : (i k : ℕ) → k < n → unwritten_entry m n (dense_entry n new.list) slots (row_coefficient n coefficients i) k ≡ unwritten_entry m n (dense_entry n old.list) slots (row_coefficient n coefficients i) k
  unwritten_same i k q =
      unwritten_value m n new touched.listed (row_coefficient n coefficients i) slots k ∙ (λ z. quotient_of (number_still i k q z) (touched.denominator z))
      ∙ sym (unwritten_value m n old was (row_coefficient n coefficients i) slots k)

  -- where the row was written whole, all entries stay, whether it is marked as written or not
  module _ (written : (k : ℕ) → k < n → whole_number_at new.numbers (row * n + k) ≡ unwritten_number m n old coefficients slots row k) where
    row_is : (k : ℕ) → k < n → dense_entry n new.list row k ≡ unwritten_entry m n (dense_entry n old.list) slots (row_coefficient n coefficients row) k
    row_is k q =
        entry_is m n new touched.listed row k ∙ (λ z. quotient_of (written k q z) (touched.denominator z)) ∙ sym (unwritten_value m n old was (row_coefficient n coefficients row) slots k)

    pub row_added : (flags flags' : List Bool) → is_unwritten flags row ≡ true → ((i : ℕ) → i ≢ row → is_unwritten flags' i ≡ is_unwritten flags i)
        → (i k : ℕ) → k < n → any_entry m n coefficients slots flags' new.list i k ≡ any_entry m n coefficients slots flags old.list i k
    row_added flags flags' was_open kept i k q = ⊎_elim here there (cases_eq i row)
      where
        by_row : (b : Bool) → (if b then unwritten_entry m n (dense_entry n new.list) slots (row_coefficient n coefficients row) k else dense_entry n new.list row k) ≡ unwritten_entry m n (dense_entry n old.list) slots (row_coefficient n coefficients row) k
        by_row true = unwritten_same row k q
        by_row false = row_is k q

        here : i ≡ row → any_entry m n coefficients slots flags' new.list i k ≡ any_entry m n coefficients slots flags old.list i k
        here e =
            subst (λ v. any_entry m n coefficients slots flags' new.list v k ≡ any_entry m n coefficients slots flags old.list v k) (sym e)
            (by_row (is_unwritten flags' row)
            ∙ sym (ap (λ b. if b then unwritten_entry m n (dense_entry n old.list) slots (row_coefficient n coefficients row) k else dense_entry n old.list row k) was_open))

        there : ¬ (i ≡ row) → any_entry m n coefficients slots flags' new.list i k ≡ any_entry m n coefficients slots flags old.list i k
        there other = λ z. if kept i other z then unwritten_same i k q z else entry_same i k other q z

-- one more number of the row was written
pub touched_more : (n row k at : ℕ) (number : ℤ) (old now new : Listed) → k < n → at ≡ row * n + k → IsRowTouched n row old now
    → new.is_whole ≡ true → IsListed new → new.denominator ≡ now.denominator → length new.list ≡ length now.list → new.numbers ≡ set now.numbers at number → IsRowTouched n row old new
touched_more n row k at number old now new within at_is before form listed denominator size numbers = record {
  form = form;
  listed = listed;
  denominator = denominator ∙ before.denominator;
  size = size ∙ before.size;
  others = λ i l other q. ap (λ xs. whole_number_at xs (i * n + l)) numbers
      ∙ get_or-set_other now.numbers at (i * n + l) number (pos 0) (λ e. rows_apart n i row l k other q within (e ∙ at_is)) ∙ before.others i l other q;
}

-- numbers have changed in the row, and then again
pub touched_both : (n row : ℕ) (old now new : Listed) → IsRowTouched n row old now → IsRowTouched n row now new → IsRowTouched n row old new
touched_both n row old now new first then_ = record {
  form = then_.form;
  listed = then_.listed;
  denominator = then_.denominator ∙ first.denominator;
  size = then_.size ∙ first.size;
  others = λ i k other q. then_.others i k other q ∙ first.others i k other q;
}

pub touched_none : (n row : ℕ) (old : Listed) → old.is_whole ≡ true → IsListed old → IsRowTouched n row old old
touched_none n row old form listed = record { form = form; listed = listed; denominator = refl; size = refl; others = λ i k other q. refl }

-- the numbers of the row so far
pub written_more : (n row k at : ℕ) (number : ℤ) (now new : Listed) (P : ℕ → ℤ) → at ≡ row * n + k → at < length now.numbers → new.numbers ≡ set now.numbers at number → number ≡ P k
    → ((l : ℕ) → l < k → whole_number_at now.numbers (row * n + l) ≡ P l) → (l : ℕ) → l < k + 1 → whole_number_at new.numbers (row * n + l) ≡ P l
written_more n row k at number now new P at_is within numbers is before =
    below_more (λ l. whole_number_at new.numbers (row * n + l) ≡ P l) k
    (λ l less. ap (λ xs. whole_number_at xs (row * n + l)) numbers ∙ get_or-set_other now.numbers at (row * n + l) number (pos 0) (λ e. omega (arith, e, less, at_is)) ∙ before l less)
    (ap (λ xs. whole_number_at xs (row * n + k)) numbers ∙ ap (λ x. whole_number_at (set now.numbers at number) x) (sym at_is) ∙ get_or-set_same now.numbers at number (pos 0) within ∙ is)

-- and behind it, where it stays
pub rest_more : (n row k at : ℕ) (number : ℤ) (now new : Listed) (P : ℕ → ℤ) → at ≡ row * n + k → new.numbers ≡ set now.numbers at number
    → ((l : ℕ) → k ≤ l → l < n → whole_number_at now.numbers (row * n + l) ≡ P l) → (l : ℕ) → k + 1 ≤ l → l < n → whole_number_at new.numbers (row * n + l) ≡ P l
rest_more n row k at number now new P at_is numbers before l past q =
    ap (λ xs. whole_number_at xs (row * n + l)) numbers ∙ get_or-set_other now.numbers at (row * n + l) number (pos 0) (λ e. omega (arith, e, past, at_is)) ∙ before l (omega (arith, past)) q

-- flags but for one
pub flag_same : (flags : List Bool) (row : ℕ) (b : Bool) → row < length flags → is_unwritten (set flags row b) row ≡ b
flag_same flags row b within = get_or-set_same flags row b false within

pub flag_other : (flags : List Bool) (row i : ℕ) (b : Bool) → i ≢ row → is_unwritten (set flags row b) i ≡ is_unwritten flags i
flag_other flags row i b other = get_or-set_other flags row i b false other

-- what is marked as written stays so
pub flag_still : (flags : List Bool) (row i : ℕ) → row < length flags → is_unwritten flags i ≡ false → is_unwritten (set flags row false) i ≡ false
flag_still flags row i within h = ⊎_elim
    (λ e. subst (λ v. is_unwritten (set flags row false) v ≡ false) (sym e) (flag_same flags row false within))
    (λ other. flag_other flags row i false other ∙ h)
    (cases_eq i row)

-- ---- all rows written

pub all_written : (m n : ℕ) (list : List ℚ) (flags : List Bool) (coefficients : List ℤ) (slots : ℕ → ℕ) → ((i : ℕ) → is_unwritten flags i ≡ false) → length list ≡ m * n
    → listed_entries m n (any_entry m n coefficients slots flags list) ≡ list
all_written m n list flags coefficients slots none size =
    ext_get_or (int (pos 0)) (listed_entries m n all) list (listed_length m n all ∙ sym size)
    (λ at w. let within : at < m * n = subst (λ x. at < x) (listed_length m n all) w in
    listed_get m n all at within
    ∙ ap (λ b. if b then unwritten_entry m n (dense_entry n list) slots (row_coefficient n coefficients (at / n)) (at % n) else dense_entry n list (at / n) (at % n)) (none (at / n))
    ∙ ap (λ x. get_or list x (int (pos 0))) (div-add-mod' at n))
  where
    all : ℕ → ℕ → ℚ
    all = any_entry m n coefficients slots flags list

-- ---- the slack basis

unit_turned : (q k : ℕ) → unit q k ≡ unit k q
unit_turned q k = ⊎_elim here there (cases_eq k q)
  where
    here : k ≡ q → unit q k ≡ unit k q
    here e = subst (λ v. unit q v ≡ unit v q) (sym e) refl

    there : ¬ (k ≡ q) → unit q k ≡ unit k q
    there other = if_other k q (int (pos 1)) (int (pos 0)) other ∙ sym (if_other q k (int (pos 1)) (int (pos 0)) (λ e. other (sym e)))

-- each column stands at its own place: the row has the coefficients
pub slack_row : (m n : ℕ) (t : ℕ → ℕ → ℚ) (slots : ℕ → ℕ) (c : ℕ → ℤ) (k : ℕ) → k < n → ((j : ℕ) → j < n → slots j ≡ m + j) → unwritten_entry m n t slots c k ≡ int (c k)
slack_row m n t slots c k q slack =
    sum_below-same n (λ j. int (c j) *ℚ slot_entry m t (slots j) k) (λ j. unit k j *ℚ int (c j))
    (λ j w. ap (λ x. int (c j) *ℚ x) (ap (λ x. slot_entry m t x k) (slack j w) ∙ ap (λ b. if b then t (m + j) k else unit (m + j - m) k) (le-ltb (m + j) m (omega arith)) ∙ ap (λ x. unit x k) (back j) ∙ unit_turned j k)
    ∙ *ℚ_comm (int (c j)) (unit k j))
    ∙ sum_unit n k (λ j. int (c j)) q
  where
    back : (j : ℕ) → m + j - m ≡ j
    back j = omega arith
