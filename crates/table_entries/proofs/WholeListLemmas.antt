-- Lists of numbers over a common denominator: one more written, a row left out, and numbers that stay short or below a limit.
use Rattle.std.specs.Prelude.{◌≡◌, ℕ, ◌+◌, ◌-◌, ◌*◌, ◌/◌, ◌%◌, ◌^◌, ◌<◌, ◌==◌, ◌<ℤ◌, ◌≤ℤ◌, Bool, true, false, List, set, length, ℤ, pos}
use Rattle.std.proofs.Common.{sym, ap, subst, ◌∙◌, ⊎_elim, arith, below_more}
use Rattle.std.proofs.lemmas.Bool.{cases_eq, cases_lt, false≢true}
use Rattle.std.proofs.lemmas.Int.{ints}
use Rattle.std.proofs.lemmas.Nat.{div-mul-add, mod-mul-add}
use Rattle.std.proofs.lemmas.List.{get_or-set_same, get_or-set_other, length-set}
use Rattle.table_entries.specs.WholeSteps.{IsShort, IsWholeStep, WholeAt, AreShort, AreWithin, AreWritten, is_unwritten, magnitude, whole_number_at}
use Rattle.table_entries.proofs.PivotLemmas.{flat_within}

module _ (n r s : ℕ) (d after : ℤ) (numbers : List ℤ) (unwritten : List Bool) (next : List ℤ) (i k : ℕ) (k_within : k < n) (d' after' pivot in_row in_place entry w : ℤ)
    (d_is : d' ≡ d) (after_is : after' ≡ after) (pivot_is : pivot ≡ whole_number_at numbers (r * n + s)) (row_is : in_row ≡ whole_number_at numbers (r * n + k)) (place_is : in_place ≡ whole_number_at numbers (i * n + s)) (entry_is : entry ≡ whole_number_at numbers (i * n + k)) where
  at_row : (i * n + k) / n ≡ i
  at_row = div-mul-add i n k k_within

  at_place : (i * n + k) % n ≡ k
  at_place = mod-mul-add i n k k_within

  pub whole_here : IsWholeStep (i == r) (k == s) d' after' pivot in_row in_place entry w → WholeAt n r s d after numbers w (i * n + k)
  whole_here h =
      let row_here : in_row ≡ whole_number_at numbers (r * n + (i * n + k) % n) = row_is ∙ ap (λ t. whole_number_at numbers (r * n + t)) (sym at_place) in
      let place_here : in_place ≡ whole_number_at numbers ((i * n + k) / n * n + s) = place_is ∙ ap (λ t. whole_number_at numbers (t * n + s)) (sym at_row) in
      let same : IsWholeStep (i == r) (k == s) d' after' pivot in_row in_place entry w ≡ WholeAt n r s d after numbers w (i * n + k) =
      λ j. IsWholeStep (sym at_row j == r) (sym at_place j == s) (d_is j) (after_is j) (pivot_is j) (row_here j) (place_here j) (entry_is j) w in
      subst (λ X. X) same h

  pub step_written : (at : ℕ) → at ≡ i * n + k → at < length next → (w' : ℤ) → w' ≡ w → IsWholeStep (i == r) (k == s) d' after' pivot in_row in_place entry w
      → AreWritten n r s d after numbers unwritten next (i * n + k) → AreWritten n r s d after numbers unwritten (set next at w') (i * n + (k + 1))
  step_written at at_is within w' w_is h earlier j less written =
      below_more (λ x. is_unwritten unwritten (x / n) ≡ false → WholeAt n r s d after numbers (whole_number_at (set next at w') x) x) (i * n + k)
      (λ x q flag. subst (λ m. WholeAt n r s d after numbers m x) (sym (get_or-set_other next at x w' (pos 0) (λ e. omega (arith, e, q, at_is)))) (earlier x q flag))
      (λ flag. subst (λ m. WholeAt n r s d after numbers m (i * n + k)) (sym (ap (λ x. whole_number_at (set next at w') x) (sym at_is) ∙ get_or-set_same next at w' (pos 0) within ∙ w_is)) (whole_here h))
      j (omega (arith, less)) written

-- a row that is not written is left out
pub row_left_out : (n r s : ℕ) (d after : ℤ) (numbers : List ℤ) (unwritten : List Bool) (next : List ℤ) (i : ℕ) → is_unwritten unwritten i ≡ true
    → AreWritten n r s d after numbers unwritten next (i * n) → AreWritten n r s d after numbers unwritten next ((i + 1) * n)
row_left_out n r s d after numbers unwritten next i out earlier at less written =
    ⊎_elim (λ before. earlier at before written)
    (λ past.
    let at_is : at ≡ i * n + (at - i * n) = omega (arith, past) in
    let row_is : at / n ≡ i = ap (λ x. x / n) at_is ∙ div-mul-add i n (at - i * n) (omega (arith, less, past)) in
    absurd (false≢true (sym written ∙ ap (is_unwritten unwritten) row_is ∙ out)))
    (cases_lt at (i * n))

-- ---- short numbers, and numbers below a limit

pub short_more : (next : List ℤ) (at : ℕ) (w : ℤ) → IsShort w → AreShort next → AreShort (set next at w)
short_more next at w w_short short j less = ⊎_elim same other (cases_eq j at)
  where
    within : j < length next
    within = let e = length-set next at w in omega (arith, e, less)

    same : j ≡ at → IsShort (whole_number_at (set next at w) j)
    same e = subst IsShort (sym (ap (whole_number_at (set next at w)) e ∙ get_or-set_same next at w (pos 0) (subst (λ x. x < length next) e within))) w_short

    other : ¬ (j ≡ at) → IsShort (whole_number_at (set next at w) j)
    other apart = subst IsShort (sym (get_or-set_other next at j w (pos 0) apart)) (short j within)

short_below : (n limit : ℤ) → pos (2 ^ 62) ≤ℤ limit → IsShort n → magnitude n <ℤ limit
short_below n limit most short = omega (arith, ints)

-- short numbers are below a limit of 2 ^ 62 and more
pub all_within : (rows columns : ℕ) (unwritten : List Bool) (limit : ℤ) (numbers : List ℤ) → pos (2 ^ 62) ≤ℤ limit → length numbers ≡ rows * columns → AreShort numbers → AreWithin rows columns unwritten limit numbers
all_within rows columns unwritten limit numbers most size short i k i_within k_within written =
    short_below (whole_number_at numbers (i * columns + k)) limit most (short (i * columns + k) (subst (λ x. i * columns + k < x) (sym size) (flat_within columns rows i k i_within k_within)))

-- one more row, all of whose numbers are below the limit if it is written
pub row_within : (rows columns : ℕ) (unwritten : List Bool) (limit : ℤ) (numbers : List ℤ) → AreWithin rows columns unwritten limit numbers
    → (is_unwritten unwritten rows ≡ false → (k : ℕ) → k < columns → magnitude (whole_number_at numbers (rows * columns + k)) <ℤ limit) → AreWithin (rows + 1) columns unwritten limit numbers
row_within rows columns unwritten limit numbers earlier here i k i_within k_within written =
    below_more (λ x. is_unwritten unwritten x ≡ false → magnitude (whole_number_at numbers (x * columns + k)) <ℤ limit) rows
    (λ x less flag. earlier x k less k_within flag) (λ flag. here flag k k_within) i i_within written
