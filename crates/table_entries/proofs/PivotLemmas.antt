-- From the list of entries, row by row, to rows and places.
use Rattle.std.specs.Prelude.{◌≡◌, ℕ, ◌+◌, ◌*◌, ◌/◌, ◌%◌, ◌<◌, ◌≤◌, ◌==◌, if◌then◌else◌, List, get_or, set, length, pos}
use Rattle.std.proofs.Common.{sym, subst, ◌∙◌, arith, ⊎_elim}
use Rattle.std.proofs.lemmas.Bool.{cases_eq}
use Rattle.std.proofs.lemmas.Nat.{div-mul-add, mod-mul-add, div-add-mod'}
use Rattle.std.proofs.Math.Nat.{mul-le-mul_right}
use Rattle.std.proofs.lemmas.List.{get_or-set_same, get_or-set_other, get_or_default, length-set}
use Rattle.frac128.specs.Rational.{ℚ, int}
use Rattle.table_entries.specs.Relaxation.{pivoted_entry, updated}
use Rattle.table_entries.proofs.SumBelowLaws.{if_same, if_other}
use Rattle.table_entries.specs.Steps.{PivotStepFits, step_value, EntryFits}
use Rattle.table_entries.specs.FlatSteps.{dense_entry, FlatFits, flat_value}

module _ (n r s : ℕ) (entries : List ℚ) (i k : ℕ) (k_within : k < n) where
  row_is : (i * n + k) / n ≡ i
  row_is = div-mul-add i n k k_within

  place_is : (i * n + k) % n ≡ k
  place_is = mod-mul-add i n k k_within

  pub entry_fits : FlatFits n r s entries (i * n + k) → EntryFits (dense_entry n entries) r s i k
  entry_fits h =
      let same : FlatFits n r s entries (i * n + k) ≡ EntryFits (dense_entry n entries) r s i k =
      λ j. PivotStepFits (row_is j == r) (place_is j == s) (dense_entry n entries r s) (dense_entry n entries r (place_is j)) (dense_entry n entries (row_is j) s) (get_or entries (i * n + k) (int (pos 0))) in
      subst (λ X. X) same h

  pub entry_value : flat_value n r s entries (i * n + k) ≡ pivoted_entry (dense_entry n entries) r s i k
  entry_value = λ j. step_value (row_is j == r) (place_is j == s) (dense_entry n entries r s) (dense_entry n entries r (place_is j)) (dense_entry n entries (row_is j) s) (get_or entries (i * n + k) (int (pos 0)))

pub flat_within : (n m i k : ℕ) → i < m → k < n → i * n + k < m * n
flat_within n m i k p q =
    let all : (i + 1) * n ≤ m * n = mul-le-mul_right n (let w : i + 1 ≤ m = omega arith in w) in
    let first : (i + 1) * n ≡ i * n + n = omega arith in
    omega (arith, all, first, q)

-- one element of a list changed
pub get_or-updated : (xs : List ℕ) (r i value : ℕ) → r < length xs → get_or (set xs r value) i 0 ≡ updated (λ j. get_or xs j 0) r value i
get_or-updated xs r i value within = ⊎_elim here there (cases_eq i r)
  where
    here : i ≡ r → get_or (set xs r value) i 0 ≡ updated (λ j. get_or xs j 0) r value i
    here e = subst (λ v. get_or (set xs r value) v 0 ≡ updated (λ j. get_or xs j 0) r value v) (sym e) (get_or-set_same xs r value 0 within ∙ sym (if_same r value (get_or xs r 0)))

    there : ¬ (i ≡ r) → get_or (set xs r value) i 0 ≡ updated (λ j. get_or xs j 0) r value i
    there other = get_or-set_other xs r i value 0 other ∙ sym (if_other i r value (get_or xs i 0) other)

-- two elements changed
pub get_or-updated_twice : (xs : List ℕ) (a b x y : ℕ) → a < length xs → b < length xs → (i : ℕ) → get_or (set (set xs a y) b x) i 0 ≡ updated (updated (λ j. get_or xs j 0) a y) b x i
get_or-updated_twice xs a b x y a_within b_within i =
    get_or-updated (set xs a y) b i x (subst (λ n. b < n) (sym (length-set xs a y)) b_within)
    ∙ (λ j. if i == b then x else get_or-updated xs a i y a_within j)

pub read_number : (xs : List ℕ) (i x : ℕ) → i < length xs → x ≡ get_or xs i x → x ≡ get_or xs i 0
read_number xs i x within is = is ∙ get_or_default xs i x 0 within

-- `read` is what the entries were read from
module _ (n m r s : ℕ) (entries read next : List ℚ) (read_is : read ≡ entries) where
  pub all_fit : ((at : ℕ) → at < m * n → FlatFits n r s read at) → (i k : ℕ) → i < m → k < n → EntryFits (dense_entry n entries) r s i k
  all_fit h i k p q = entry_fits n r s entries i k q (subst (λ xs. FlatFits n r s xs (i * n + k)) read_is (h (i * n + k) (flat_within n m i k p q)))

  pub earlier_fit : (at : ℕ) → ((j : ℕ) → j < at → FlatFits n r s read j) → (i k : ℕ) → k < n → i * n + k < at / n * n + at % n → EntryFits (dense_entry n entries) r s i k
  earlier_fit at h i k q less =
      let back : at / n * n + at % n ≡ at = div-add-mod' at n in
      entry_fits n r s entries i k q (subst (λ xs. FlatFits n r s xs (i * n + k)) read_is (h (i * n + k) (omega (arith, less, back))))
