-- Steps of the loops over rows that are not written.
use Rattle.std.specs.Prelude.{◌≡◌, ◌≢◌, ℕ, suc, ◌+◌, ◌-◌, ◌*◌, ◌<◌, ◌≤◌, ◌==◌, if◌then◌else◌, List, length, set, [], ◌∷◌, ℤ, pos, ◌+ℤ◌, ◌*ℤ◌, unsigned_abs, Bool, true}
use Rattle.std.proofs.Common.{sym, ap, subst, ◌∙◌, ⊎_elim, arith, FitsSigned, to_z, of_z, w64}
use Rattle.std.proofs.Math.Nat.{mul-le-mul_left}
use Rattle.std.proofs.lemmas.Int.{ints, fits_signed_from_abs}
use Rattle.std.proofs.lemmas.Bool.{cases_eq, lt-ltb, le-ltb}
use Rattle.frac128.specs.IntegerRing.{ring_ℤ, reads_ℤ}
use Rattle.table_entries.proofs.SumBelowLaws.{if_same, if_other}
use Rattle.table_entries.specs.WholeSteps.{IsShort, whole_number_at, is_unwritten}
use Rattle.table_entries.specs.Listed.{Listed}
use Rattle.table_entries.specs.Parts.{row_coefficient, weight}
use Rattle.table_entries.specs.private.Parts.{slot_number, combined, IsLight}
use Rattle.table_entries.proofs.PartNumbers.{combined_short, product_short, weight_less}
use Rattle.table_entries.proofs.PartRows.{flag_other}

-- ---- weights

pub weight_next : (c : ℕ → ℤ) (k : ℕ) → weight c (k + 1) ≡ weight c k + unsigned_abs (c k)
weight_next c k = let e : k + 1 ≡ suc k = omega arith in ap (weight c) e

-- the front weighs as much already
pub weight_past : (c : ℕ → ℤ) (k n weight' : ℕ) → k < n → weight c k ≡ weight' → 64 ≤ weight' + unsigned_abs (c k) → 64 ≤ weight c n
weight_past c k n weight' within is past =
    let next : weight c (k + 1) ≡ weight c k + unsigned_abs (c k) = weight_next c k in
    let more : weight c (k + 1) ≤ weight c n = weight_less c (k + 1) n (omega (arith, within)) in
    omega (arith, next, more, is, past)

-- one more row is marked
pub light_more : (columns row : ℕ) (coefficients : List ℤ) (flags : List Bool) (heaviest heaviest' : ℕ) → row < length flags → heaviest ≤ heaviest' → weight (row_coefficient columns coefficients row) columns ≤ heaviest'
    → ((i : ℕ) → is_unwritten flags i ≡ true → weight (row_coefficient columns coefficients i) columns ≤ heaviest)
    → (i : ℕ) → is_unwritten (set flags row true) i ≡ true → weight (row_coefficient columns coefficients i) columns ≤ heaviest'
light_more columns row coefficients flags heaviest heaviest' within more here before i e = ⊎_elim
    (λ same. subst (λ n. weight (row_coefficient columns coefficients n) columns ≤ heaviest') (sym same) here)
    (λ other. let h : weight (row_coefficient columns coefficients i) columns ≤ heaviest = before i (sym (flag_other flags row i true other) ∙ e) in omega (arith, h, more))
    (cases_eq i row)

-- ---- the number of a slot

module _ (rows columns : ℕ) (v : Listed) (slot k : ℕ) where
  pub number_in_row : slot < rows → slot_number rows columns v slot k ≡ whole_number_at v.numbers (slot * columns + k)
  number_in_row h = ap (λ b. if b then whole_number_at v.numbers (slot * columns + k) else (if k == slot - rows then v.denominator else pos 0)) (lt-ltb slot rows h)

  in_place : rows ≤ slot → slot_number rows columns v slot k ≡ (if k == slot - rows then v.denominator else pos 0)
  in_place h = ap (λ b. if b then whole_number_at v.numbers (slot * columns + k) else (if k == slot - rows then v.denominator else pos 0)) (le-ltb slot rows h)

  pub number_own : rows ≤ slot → k ≡ slot - rows → slot_number rows columns v slot k ≡ v.denominator
  number_own h e = in_place h ∙ subst (λ q. (if k == q then v.denominator else pos 0) ≡ v.denominator) e (if_same k v.denominator (pos 0))

  pub number_elsewhere : rows ≤ slot → k ≢ slot - rows → slot_number rows columns v slot k ≡ pos 0
  number_elsewhere h other = in_place h ∙ if_other k (slot - rows) v.denominator (pos 0) other

-- ---- the sum

pub combined_next : (c x : ℕ → ℤ) (k : ℕ) → combined c x (k + 1) ≡ combined c x k +ℤ c k *ℤ x k
combined_next c x k = let e : k + 1 ≡ suc k = omega arith in ap (combined c x) e

pub combined_skip : (c x : ℕ → ℤ) (k : ℕ) → c k ≡ pos 0 → combined c x (k + 1) ≡ combined c x k
combined_skip c x k none = combined_next c x k ∙ ap (λ t. combined c x k +ℤ t *ℤ x k) none ∙ ring_ℤ (combined c x k ∷ x k ∷ []) {y = combined c x k} (search reads_ℤ) (search reads_ℤ) tt

-- the first terms of the sum and each product are short
module _ (rows columns : ℕ) (entries : Listed) (coefficients : List ℤ) (slots : ℕ → ℕ) (i k : ℕ) (k_within : k < columns) (light : IsLight rows columns entries coefficients slots i) where
  abbrev c : ℕ → ℤ
  c = row_coefficient columns coefficients i

  abbrev x : ℕ → ℤ
  x j = slot_number rows columns entries (slots j) k

  pub front_short : (n : ℕ) → n ≤ columns → IsShort (combined c x n)
  front_short n h =
      let less : weight c n ≤ weight c columns = weight_less c n columns h in
      let all = light.light in
      combined_short c x light.limit light.heaviest n light.room light.above (omega (arith, less, all)) (λ j w. light.within j k (omega (arith, w, h)) k_within)

  pub term_short : (j : ℕ) → j < columns → IsShort (c j *ℤ x j)
  term_short j h = product_short c x light.limit light.heaviest columns j light.room light.above light.light h (light.within j k h k_within)

  coefficient_short : (j : ℕ) → j < columns → IsShort (c j)
  coefficient_short j h =
      let more : weight c (suc j) ≤ weight c columns = weight_less c (suc j) columns (omega (arith, h)) in
      let all = light.light in
      let room = light.room in
      let above = light.above in
      let most : (light.heaviest + 1) * 1 ≤ (light.heaviest + 1) * light.limit = mul-le-mul_left (light.heaviest + 1) (let w : 1 ≤ light.limit = omega (arith, above) in w) in
      omega (arith, more, all, room, most)

  number_short : (j : ℕ) → j < columns → IsShort (x j)
  number_short j h =
      let slim = light.within j k h k_within in
      let room = light.room in
      let one : (light.heaviest + 1) * light.limit ≡ light.heaviest * light.limit + light.limit = omega arith in
      omega (arith, slim, room, one)

  short_read : (n m : ℤ) → n ≡ m → IsShort m → to_z w64 (of_z w64 n) ≡ m
  short_read n m e h = omega (arith, ints, e, h)

  pub coefficient_read : (j : ℕ) → j < columns → (n : ℤ) → n ≡ c j → to_z w64 (of_z w64 n) ≡ c j
  coefficient_read j h n e = short_read n (c j) e (coefficient_short j h)

  pub number_read : (j : ℕ) → j < columns → (n : ℤ) → n ≡ x j → to_z w64 (of_z w64 n) ≡ x j
  number_read j h n e = short_read n (x j) e (number_short j h)

  short_fits : (n : ℤ) → IsShort n → FitsSigned w64 n
  short_fits n h = fits_signed_from_abs w64 n (omega (arith, h))

  -- of the total, a coefficient and a number that were read
  module _ (j : ℕ) (within : j < columns) (total a b : ℤ) (a_is : a ≡ c j) (b_is : b ≡ x j) (total_is : total ≡ combined c x j) where
    product_is : a *ℤ b ≡ c j *ℤ x j
    product_is = λ z. a_is z *ℤ b_is z

    pub product_fits : FitsSigned w64 (a *ℤ b)
    product_fits = subst (FitsSigned w64) (sym product_is) (short_fits (c j *ℤ x j) (term_short j within))

    sum_is : total +ℤ to_z w64 (of_z w64 (a *ℤ b)) ≡ combined c x (j + 1)
    sum_is = (λ z. total_is z +ℤ short_read (a *ℤ b) (c j *ℤ x j) product_is (term_short j within) z) ∙ sym (combined_next c x j)

    next_short : IsShort (combined c x (j + 1))
    next_short = front_short (j + 1) (let w : j + 1 ≤ columns = omega (arith, within) in w)

    pub sum_fits : FitsSigned w64 (total +ℤ to_z w64 (of_z w64 (a *ℤ b)))
    sum_fits = subst (FitsSigned w64) (sym sum_is) (short_fits (combined c x (j + 1)) next_short)

    pub sum_next : to_z w64 (of_z w64 (total +ℤ to_z w64 (of_z w64 (a *ℤ b)))) ≡ combined c x (j + 1)
    sum_next = short_read (total +ℤ to_z w64 (of_z w64 (a *ℤ b))) (combined c x (j + 1)) sum_is next_short
