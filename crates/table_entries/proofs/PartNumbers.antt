-- The numbers of a row that is not written: their size, and what they are over the denominator.
use Rattle.std.specs.Prelude.{◌≡◌, ◌≢◌, ℕ, zero, suc, ◌+◌, ◌*◌, ◌^◌, ◌<◌, ◌≤◌, ◌-◌, ◌==◌, ltb, if◌then◌else◌, length, [], ◌∷◌, ℤ, pos, ◌<ℤ◌, ◌+ℤ◌, ◌*ℤ◌, unsigned_abs, Bool, true, false}
use Rattle.std.proofs.Common.{refl, sym, ap, ap₂, subst, ◌∙◌, ⊎_elim, get_or, arith}
use Rattle.std.proofs.lemmas.Bool.{cases_lt}
use Rattle.std.proofs.Math.Nat.{mul-le-mul_right, mul-le-mul_left}
use Rattle.std.proofs.lemmas.Int.{ints, unsigned_abs-mul}
use Rattle.std.proofs.lemmas.List.{length-map}
use Rattle.frac128.specs.Rational.{int, ◌+ℚ◌, ◌*ℚ◌}
use Rattle.frac128.specs.IntegerRing.{ring_ℤ, reads_ℤ}
use Rattle.frac128.specs.RationalRing.{*ℚ_comm}
use Rattle.frac128.specs.LowestTerms.{quotient_of}
use Rattle.frac128.specs.Sums.{sum_below}
use Rattle.checked_sum.proofs.SumLaws.{sum_below-same}
use Rattle.table_entries.specs.Steps.{PivotStepFits}
use Rattle.table_entries.specs.FlatSteps.{dense_entry}
use Rattle.table_entries.specs.WholeSteps.{IsShort, whole_number_at}
use Rattle.table_entries.specs.Listed.{Listed, IsListed}
use Rattle.table_entries.specs.Parts.{slot_entry, unwritten_entry, weight}
use Rattle.table_entries.specs.private.Parts.{slot_number, combined}
use Rattle.whole_sums.proofs.SumLemmas.{zero_over}
use Rattle.table_entries.proofs.ListedLemmas.{over_at}
use Rattle.table_entries.proofs.WholeLemmas.{steps_fit}
use Rattle.whole_sums.proofs.SumLemmas.{sum_is, product_is, start_is}

-- ---- size

abs_add : (a b : ℤ) (m n : ℕ) → unsigned_abs a ≤ m → unsigned_abs b ≤ n → unsigned_abs (a +ℤ b) ≤ m + n
abs_add a b m n h k = omega (arith, ints)

combined_within : (c x : ℕ → ℤ) (bound n : ℕ) → ((j : ℕ) → j < n → unsigned_abs (x j) ≤ bound) → unsigned_abs (combined c x n) ≤ weight c n * bound
combined_within c x bound zero h = omega arith
combined_within c x bound (suc n) h =
    let before : unsigned_abs (combined c x n) ≤ weight c n * bound = combined_within c x bound n (λ j p. h j (omega (arith, p))) in
    let here : unsigned_abs (c n *ℤ x n) ≤ unsigned_abs (c n) * bound =
    subst (λ m. m ≤ unsigned_abs (c n) * bound) (sym (unsigned_abs-mul (c n) (x n))) (mul-le-mul_left (unsigned_abs (c n)) (h n (omega arith))) in
    let over : weight c n * bound + unsigned_abs (c n) * bound ≡ (weight c n + unsigned_abs (c n)) * bound = omega arith in
    subst (λ m. unsigned_abs (combined c x n +ℤ c n *ℤ x n) ≤ m) over (abs_add (combined c x n) (c n *ℤ x n) (weight c n * bound) (unsigned_abs (c n) * bound) before here)

-- with a limit of the numbers of which so many have room below 2 ^ 62
pub combined_short : (c x : ℕ → ℤ) (limit heaviest n : ℕ) → (heaviest + 1) * limit ≤ 2 ^ 62 → 0 < limit → weight c n ≤ heaviest → ((j : ℕ) → j < n → unsigned_abs (x j) < limit) → IsShort (combined c x n)
combined_short c x limit heaviest n room some light h =
    let size : unsigned_abs (combined c x n) ≤ weight c n * limit = combined_within c x limit n (λ j p. let w = h j p in omega (arith, w)) in
    let most : weight c n * limit ≤ heaviest * limit = mul-le-mul_right limit light in
    let one : (heaviest + 1) * limit ≡ heaviest * limit + limit = omega arith in
    omega (arith, size, most, one, room, some)

-- the first terms weigh no more
pub weight_less : (c : ℕ → ℤ) (m n : ℕ) → m ≤ n → weight c m ≤ weight c n
weight_less c m zero h = let e : m ≡ 0 = omega (arith, h) in subst (λ k. weight c k ≤ 0) (sym e) (omega arith)
weight_less c m (suc n) h = ⊎_elim
    (λ below. let less : weight c m ≤ weight c n = weight_less c m n (omega (arith, below)) in omega (arith, less))
    (λ past. let e : m ≡ suc n = omega (arith, h, past) in subst (λ k. weight c k ≤ weight c (suc n)) (sym e) (omega arith))
    (cases_lt m (suc n))

-- each product is short, too
pub product_short : (c x : ℕ → ℤ) (limit heaviest n j : ℕ) → (heaviest + 1) * limit ≤ 2 ^ 62 → 0 < limit → weight c n ≤ heaviest → j < n → unsigned_abs (x j) < limit → IsShort (c j *ℤ x j)
product_short c x limit heaviest n j room some light within slim =
    let here : unsigned_abs (c j) ≤ heaviest = (let more : weight c (suc j) ≤ weight c n = weight_less c (suc j) n (omega (arith, within)) in omega (arith, more, light)) in
    let size : unsigned_abs (c j) * unsigned_abs (x j) ≤ unsigned_abs (c j) * limit = mul-le-mul_left (unsigned_abs (c j)) (omega (arith, slim)) in
    let most : unsigned_abs (c j) * limit ≤ heaviest * limit = mul-le-mul_right limit here in
    let one : (heaviest + 1) * limit ≡ heaviest * limit + limit = omega arith in
    subst (λ m. m < 2 ^ 62) (sym (unsigned_abs-mul (c j) (x j))) (omega (arith, size, most, one, room, some))

-- ---- value

product_turned : (n f d : ℤ) → pos 0 <ℤ d → int n *ℚ quotient_of f d ≡ quotient_of (n *ℤ f) d
product_turned n f d h = *ℚ_comm (int n) (quotient_of f d) ∙ product_is f n d h ∙ ap (λ m. quotient_of m d) (ring_ℤ (f ∷ n ∷ []) {y = n *ℤ f} (search reads_ℤ) (search reads_ℤ) tt)

combined_value : (c x : ℕ → ℤ) (d : ℤ) → pos 0 <ℤ d → (n : ℕ) → quotient_of (combined c x n) d ≡ sum_below n (λ j. int (c j) *ℚ quotient_of (x j) d)
combined_value c x d h zero = zero_over d h
combined_value c x d h (suc n) =
    sym (sum_is (combined c x n) (c n *ℤ x n) d) ∙ ap₂ ◌+ℚ◌ (combined_value c x d h n) (sym (product_turned (c n) (x n) d h))

pub combined_same : (c x y : ℕ → ℤ) (n : ℕ) → ((j : ℕ) → j < n → x j ≡ y j) → combined c x n ≡ combined c y n
combined_same c x y zero h = refl
combined_same c x y (suc n) h = ap₂ ◌+ℤ◌ (combined_same c x y n (λ j p. h j (omega (arith, p)))) (ap (λ z. c n *ℤ z) (h n (omega arith)))

-- ---- entries by their numbers

module _ (rows columns : ℕ) (v : Listed) (is : IsListed v) where
  pub entry_is : (i k : ℕ) → dense_entry columns v.list i k ≡ quotient_of (whole_number_at v.numbers (i * columns + k)) v.denominator
  entry_is i k = ap (λ xs. get_or xs (i * columns + k) (int (pos 0))) is.list ∙ over_at v.denominator v.numbers is.are_over.positive (i * columns + k)

  one_over : quotient_of v.denominator v.denominator ≡ int (pos 1)
  one_over =
      let one : v.denominator ≡ pos 1 *ℤ v.denominator = ring_ℤ (v.denominator ∷ []) {y = pos 1 *ℤ v.denominator} (search reads_ℤ) (search reads_ℤ) tt in
      ap (λ x. quotient_of x v.denominator) one ∙ start_is (pos 1) v.denominator is.are_over.positive

  own : (b : Bool) → (if b then int (pos 1) else int (pos 0)) ≡ quotient_of (if b then v.denominator else pos 0) v.denominator
  own true = sym one_over
  own false = sym (zero_over v.denominator is.are_over.positive)

  pub slot_value : (slot k : ℕ) → slot_entry rows (dense_entry columns v.list) slot k ≡ quotient_of (slot_number rows columns v slot k) v.denominator
  slot_value slot k = by (ltb slot rows)
    where
      by : (b : Bool) → (if b then dense_entry columns v.list slot k else (if k == slot - rows then int (pos 1) else int (pos 0))) ≡ quotient_of (if b then whole_number_at v.numbers (slot * columns + k) else (if k == slot - rows then v.denominator else pos 0)) v.denominator
      by true = entry_is slot k
      by false = own (k == slot - rows)

  -- what the code forms
  pub unwritten_value : (c : ℕ → ℤ) (slots : ℕ → ℕ) (k : ℕ) → unwritten_entry rows columns (dense_entry columns v.list) slots c k ≡ quotient_of (combined c (λ j. slot_number rows columns v (slots j) k) columns) v.denominator
  unwritten_value c slots k =
      sum_below-same columns (λ j. int (c j) *ℚ slot_entry rows (dense_entry columns v.list) (slots j) k) (λ j. int (c j) *ℚ quotient_of (slot_number rows columns v (slots j) k) v.denominator)
      (λ j w. ap (λ x. int (c j) *ℚ x) (slot_value (slots j) k))
      ∙ sym (combined_value c (λ j. slot_number rows columns v (slots j) k) v.denominator is.are_over.positive columns)

  pub numbers_length : length v.numbers ≡ length v.list
  numbers_length = sym (ap length is.list ∙ length-map v.numbers (λ n. quotient_of n v.denominator))

-- ---- room

-- each step of an exchange to an entry of such a row has room, where the numbers of its columns are below the limit
pub unwritten_fits : (D p : ℤ) → pos 0 <ℤ D → p ≢ pos 0 → IsShort D → IsShort p → (c : ℕ → ℤ) (n limit heaviest : ℕ) → (heaviest + 1) * limit ≤ 2 ^ 62 → 0 < limit → weight c n ≤ heaviest
    → (x y : ℕ → ℤ) → ((j : ℕ) → j < n → unsigned_abs (x j) < limit) → ((j : ℕ) → j < n → unsigned_abs (y j) < limit) → (in_row : ℤ) → IsShort in_row → (is_place : Bool)
    → PivotStepFits false is_place (quotient_of p D) (quotient_of in_row D) (quotient_of (combined c x n) D) (quotient_of (combined c y n) D)
unwritten_fits D p positive some D_short p_short c n limit heaviest room above light x y x_slim y_slim in_row row_short is_place =
    steps_fit D p positive some D_short p_short in_row (combined c x n) (combined c y n) row_short (combined_short c x limit heaviest n room above light x_slim) (combined_short c y limit heaviest n room above light y_slim)
    false is_place
