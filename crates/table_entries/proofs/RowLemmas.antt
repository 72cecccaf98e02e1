-- A step by the leaving row after the exchange is the step of the exchange.
use Rattle.std.specs.Prelude.{◌≡◌, ◌≢◌, ℕ, zero, suc, ◌+◌, ◌*◌, ◌/◌, ◌%◌, ◌<◌, ◌==◌, Bool, true, false, List, [], ◌∷◌, get_or, set, length, pos}
use Rattle.std.proofs.Common.{refl, sym, ap, subst, ◌∙◌, arith, below_more}
use Rattle.std.proofs.lemmas.Bool.Decides.{Decides-eqb}
use Rattle.std.proofs.lemmas.Nat.{div-mul-add, div-add-mod'}
use Rattle.std.proofs.Math.Nat.{div-lt_iff_lt-mul, mod-lt}
use Rattle.std.proofs.lemmas.List.{get_or-set_same, get_or-set_other}
use Rattle.frac128.specs.Rational.{ℚ, int, ◌+ℚ◌, ◌*ℚ◌, ◌/ℚ◌, neg_ℚ}
use Rattle.frac128.specs.RationalRing.{ring_ℚ, reads_ℚ}
use Rattle.frac128.specs.Range.{Fits, SumFits}
use Rattle.frac128.proofs.Whole.{Fits-zero, Fits-neg, SumFits-zero}
use Rattle.table_entries.specs.Relaxation.{pivoted_entry}
use Rattle.table_entries.specs.Steps.{PivotStepFits, step_value, EntryFits}
use Rattle.table_entries.specs.FlatSteps.{dense_entry, FlatFits, flat_value}
use Rattle.table_entries.specs.private.RowSteps.{MovedFits, moved_value}
use Rattle.table_entries.proofs.PivotLemmas.{flat_within}

-- ---- numbers

-- the pivot p, the entry x of the leaving row before the exchange and y after it, the entry f of the entering place, and the entry t
module _ (p x f t y : ℚ) (y_is : y ≡ neg_ℚ (x /ℚ p)) where
  product_turned : f *ℚ y ≡ neg_ℚ (f *ℚ (x /ℚ p))
  product_turned = ap (λ z. f *ℚ z) y_is ∙ ring_ℚ (f ∷ (x /ℚ p) ∷ []) (search reads_ℚ) (search reads_ℚ) tt

  product_back : neg_ℚ (f *ℚ y) ≡ f *ℚ (x /ℚ p)
  product_back = ap neg_ℚ product_turned ∙ ring_ℚ (f ∷ (x /ℚ p) ∷ []) (search reads_ℚ) (search reads_ℚ) tt

  pub step_from_moved : (is_place : Bool) → Fits (x /ℚ p) → MovedFits is_place p f y t → PivotStepFits false is_place p x f t
  step_from_moved true q h = h
  step_from_moved false q h = record {
    quotient = q;
    product = subst Fits product_back (Fits-neg (f *ℚ y) h.product);
    difference = subst (SumFits t) product_turned h.sum;
  }

  pub moved_from_step : (is_place : Bool) → PivotStepFits false is_place p x f t → MovedFits is_place p f y t
  moved_from_step true h = h
  moved_from_step false h = record {
    product = subst Fits (sym product_turned) (Fits-neg (f *ℚ (x /ℚ p)) h.product);
    sum = subst (SumFits t) (sym product_turned) h.difference;
  }

  pub moved_is_step : (is_place : Bool) → moved_value is_place p f y t ≡ step_value false is_place p x f t
  moved_is_step true = refl
  moved_is_step false = ap (λ z. t +ℚ z) product_turned

-- where a factor of the product is 0 the entry stays
unmoved : (p f y t : ℚ) → Fits t → f *ℚ y ≡ int (pos 0) → MovedFits false p f y t × (t ≡ moved_value false p f y t)
unmoved p f y t t_fits none = (
  record { product = subst Fits (sym none) Fits-zero; sum = subst (SumFits t) (sym none) (SumFits-zero t t_fits) },
  ring_ℚ (t ∷ []) (search reads_ℚ) (search reads_ℚ) tt ∙ ap (λ z. t +ℚ z) (sym none),
)

pub unmoved_factor : (p f y t : ℚ) → Fits t → f ≡ int (pos 0) → MovedFits false p f y t × (t ≡ moved_value false p f y t)
unmoved_factor p f y t t_fits none = unmoved p f y t t_fits (ap (λ z. z *ℚ y) none ∙ ring_ℚ (y ∷ []) (search reads_ℚ) (search reads_ℚ) tt)

pub unmoved_after : (p f y t : ℚ) → Fits t → y ≡ int (pos 0) → MovedFits false p f y t × (t ≡ moved_value false p f y t)
unmoved_after p f y t t_fits none = unmoved p f y t t_fits (ap (λ z. f *ℚ z) none ∙ ring_ℚ (f ∷ []) (search reads_ℚ) (search reads_ℚ) tt)

-- ---- places

pub same_test : (i : ℕ) → (i == i) ≡ true
same_test i = (Decides-eqb i i).1 refl

pub other_test : (i j : ℕ) → i ≢ j → (i == j) ≡ false
other_test i j other = by (i == j) refl
  where
    by : (t : Bool) → (i == j) ≡ t → t ≡ false
    by true e = absurd (other ((Decides-eqb i j).0 e))
    by false e = refl

-- entries of two rows stand apart
pub rows_apart : (n i j k l : ℕ) → i ≢ j → k < n → l < n → ¬ (i * n + k ≡ j * n + l)
rows_apart n i j k l other p q e = other (sym (div-mul-add i n k p) ∙ ap (λ a. a / n) e ∙ div-mul-add j n l q)

-- ---- one more entry written

module _ (n m r s i : ℕ) (i_within : i < m) (entries next : List ℚ) (at k : ℕ) (k_within : k < n) (at_is : at ≡ i * n + k) (value : ℚ) (size : length next ≡ m * n) where
  abbrev t : ℕ → ℕ → ℚ
  t = dense_entry n entries

  pub row_more : value ≡ pivoted_entry t r s i k → ((j : ℕ) → j < k → get_or next (i * n + j) (int (pos 0)) ≡ pivoted_entry t r s i j)
      → (j : ℕ) → j < k + 1 → get_or (set next at value) (i * n + j) (int (pos 0)) ≡ pivoted_entry t r s i j
  row_more is earlier =
      below_more (λ j. get_or (set next at value) (i * n + j) (int (pos 0)) ≡ pivoted_entry t r s i j) k
      (λ j less. get_or-set_other next at (i * n + j) value (int (pos 0)) (λ e. omega (arith, e, less, at_is)) ∙ earlier j less)
      (subst (λ a. get_or (set next at value) a (int (pos 0)) ≡ value) at_is
      (get_or-set_same next at value (int (pos 0)) (let w = flat_within n m i k i_within k_within in omega (arith, w, at_is, size))) ∙ is)

  pub others_kept : (j l : ℕ) → j ≢ i → l < n → get_or (set next at value) (j * n + l) (int (pos 0)) ≡ get_or next (j * n + l) (int (pos 0))
  others_kept j l other l_within = get_or-set_other next at (j * n + l) value (int (pos 0)) (λ e. rows_apart n j i l k other l_within k_within (e ∙ at_is))

pub fits_more : (n r s i : ℕ) (entries : List ℚ) (k : ℕ) → ((j : ℕ) → j < k → EntryFits (dense_entry n entries) r s i j) → EntryFits (dense_entry n entries) r s i k → (j : ℕ) → j < k + 1 → EntryFits (dense_entry n entries) r s i j
fits_more n r s i entries k earlier here = below_more (λ j. EntryFits (dense_entry n entries) r s i j) k earlier here

-- ---- the leaving row

module _ (n r s : ℕ) (entries : List ℚ) (k : ℕ) (pivot x : ℚ) (pivot_is : pivot ≡ dense_entry n entries r s) (x_is : x ≡ dense_entry n entries r k) where
  leaving_same : PivotStepFits true (k == s) pivot x pivot x ≡ EntryFits (dense_entry n entries) r s r k
  leaving_same = λ i. PivotStepFits (sym (same_test r) i) (k == s) (pivot_is i) (x_is i) (pivot_is i) (x_is i)

  pub leaving_fits : PivotStepFits true (k == s) pivot x pivot x → EntryFits (dense_entry n entries) r s r k
  leaving_fits h = subst (λ X. X) leaving_same h

  pub leaving_fits_back : EntryFits (dense_entry n entries) r s r k → PivotStepFits true (k == s) pivot x pivot x
  leaving_fits_back h = subst (λ X. X) (sym leaving_same) h

  pub leaving_value : step_value true (k == s) pivot x pivot x ≡ pivoted_entry (dense_entry n entries) r s r k
  leaving_value = λ i. step_value (sym (same_test r) i) (k == s) (pivot_is i) (x_is i) (pivot_is i) (x_is i)

-- ---- another row

module _ (n r s i : ℕ) (other : i ≢ r) (entries : List ℚ) (k : ℕ) (pivot f y t : ℚ) (pivot_is : pivot ≡ dense_entry n entries r s) (f_is : f ≡ dense_entry n entries i s)
    (t_is : t ≡ dense_entry n entries i k) (y_is : y ≡ pivoted_entry (dense_entry n entries) r s r k) (leaving : EntryFits (dense_entry n entries) r s r k) where
  abbrev x : ℚ
  x = dense_entry n entries r k

  in_row_same : PivotStepFits false (k == s) pivot x f t ≡ EntryFits (dense_entry n entries) r s i k
  in_row_same = λ j. PivotStepFits (sym (other_test i r other) j) (k == s) (pivot_is j) x (f_is j) (t_is j)

  in_row_value : step_value false (k == s) pivot x f t ≡ pivoted_entry (dense_entry n entries) r s i k
  in_row_value = λ j. step_value (sym (other_test i r other) j) (k == s) (pivot_is j) x (f_is j) (t_is j)

  -- what the leaving row is after the exchange, off the entering place
  after_is : (b : Bool) → b ≡ false → y ≡ step_value true b pivot x pivot x → y ≡ neg_ℚ (x /ℚ pivot)
  after_is b e h = h ∙ ap (λ c. step_value true c pivot x pivot x) e

  quotient_fits : (b : Bool) → b ≡ false → PivotStepFits true b pivot x pivot x → Fits (x /ℚ pivot)
  quotient_fits b e h = subst (λ c. PivotStepFits true c pivot x pivot x) e h

  here : y ≡ step_value true (k == s) pivot x pivot x
  here = y_is ∙ sym (leaving_value n r s entries k pivot x pivot_is refl)

  fits_here : PivotStepFits true (k == s) pivot x pivot x
  fits_here = leaving_fits_back n r s entries k pivot x pivot_is refl leaving

  by_place : (b : Bool) → (k == s) ≡ b → (MovedFits b pivot f y t → PivotStepFits false b pivot x f t) × ((PivotStepFits false b pivot x f t → MovedFits b pivot f y t) × (moved_value b pivot f y t ≡ step_value false b pivot x f t))
  by_place true e = ((λ h. h), ((λ h. h), refl))
  by_place false e =
      let is = after_is (k == s) e here in
      let q = quotient_fits (k == s) e fits_here in
      (step_from_moved pivot x f t y is false q, (moved_from_step pivot x f t y is false, moved_is_step pivot x f t y is false))

  pub moved_fits : MovedFits (k == s) pivot f y t → EntryFits (dense_entry n entries) r s i k
  moved_fits h = subst (λ X. X) in_row_same ((by_place (k == s) refl).0 h)

  pub moved_fits_back : EntryFits (dense_entry n entries) r s i k → MovedFits (k == s) pivot f y t
  moved_fits_back h = (by_place (k == s) refl).1.0 (subst (λ X. X) (sym in_row_same) h)

  pub moved_is : moved_value (k == s) pivot f y t ≡ pivoted_entry (dense_entry n entries) r s i k
  moved_is = (by_place (k == s) refl).1.1 ∙ in_row_value

-- ---- one more row written

module _ (n r s : ℕ) (entries old next : List ℚ) (i : ℕ) where
  abbrev Written : List ℚ → ℕ → ℕ → Type 0
  Written xs j k = get_or xs (j * n + k) (int (pos 0)) ≡ pivoted_entry (dense_entry n entries) r s j k

  pub all_rows : {P : ℕ → ℕ → Type 0} → ((j k : ℕ) → j < i → k < n → P j k) → ((k : ℕ) → k < n → P i k) → (j k : ℕ) → j < i + 1 → k < n → P j k
  all_rows {P} earlier here j k less q = below_more (λ j. (k : ℕ) → k < n → P j k) i (λ j less k q. earlier j k less q) here j less k q

  -- row i was written, and the others kept
  module _ (kept : (j k : ℕ) → j ≢ i → k < n → get_or next (j * n + k) (int (pos 0)) ≡ get_or old (j * n + k) (int (pos 0))) where
    pub leaving_kept : i ≢ r → ((k : ℕ) → k < n → Written old r k) → (k : ℕ) → k < n → Written next r k
    leaving_kept other h k q = kept r k (λ e. other (sym e)) q ∙ h k q

-- ---- from rows and places to the list of entries

module _ (n m r s : ℕ) (entries : List ℚ) (at : ℕ) (within : at < m * n) where
  some : 0 < n
  some = by n refl
    where
      by : (k : ℕ) → n ≡ k → 0 < k
      by zero e = absurd (let none : m * n ≡ 0 = ap (λ j. m * j) e ∙ (let z : m * 0 ≡ 0 = omega arith in z) in omega (arith, none, within))
      by (suc k) e = omega arith

  back : dense_entry n entries (at / n) (at % n) ≡ get_or entries at (int (pos 0))
  back = ap (λ k. get_or entries k (int (pos 0))) (div-add-mod' at n)

  pub flat_fits : ((i k : ℕ) → i < m → k < n → EntryFits (dense_entry n entries) r s i k) → FlatFits n r s entries at
  flat_fits h = subst (λ x. PivotStepFits (at / n == r) (at % n == s) (dense_entry n entries r s) (dense_entry n entries r (at % n)) (dense_entry n entries (at / n) s) x) back
      (h (at / n) (at % n) ((div-lt_iff_lt-mul some).1 within) (mod-lt at some))

  pub flat_written : (next : List ℚ) → ((i k : ℕ) → i < m → k < n → get_or next (i * n + k) (int (pos 0)) ≡ pivoted_entry (dense_entry n entries) r s i k) → get_or next at (int (pos 0)) ≡ flat_value n r s entries at
  flat_written next h =
      ap (λ k. get_or next k (int (pos 0))) (sym (div-add-mod' at n))
      ∙ h (at / n) (at % n) ((div-lt_iff_lt-mul some).1 within) (mod-lt at some)
      ∙ ap (λ x. step_value (at / n == r) (at % n == s) (dense_entry n entries r s) (dense_entry n entries r (at % n)) (dense_entry n entries (at / n) s) x) back
