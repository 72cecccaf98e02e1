-- Numbers that stay in an exchange over the same denominator, since the leaving row has none at their places.
use Rattle.std.specs.Prelude.{◌≡◌, ◌≢◌, ℕ, ◌+◌, ◌-◌, ◌*◌, ◌/◌, ◌%◌, ◌<◌, ◌≤◌, ◌==◌, ◌<ℤ◌, Bool, false, List, length, ℤ, pos}
use Rattle.std.proofs.Common.{refl, sym, ap, subst, ◌∙◌, ⊎_elim, arith}
use Rattle.std.proofs.lemmas.Bool.{cases_lt}
use Rattle.std.proofs.lemmas.Nat.{div-add-mod'}
use Rattle.std.proofs.Math.Nat.{div-lt_iff_lt-mul, mod-lt}
use Rattle.table_entries.specs.WholeSteps.{IsShort, IsWholeStep, WholeAt, AreShort, AreWritten, by_sign, magnitude, whole_number_at}
use Rattle.table_entries.specs.private.NextEntries.{HasNoEntryBetween}
use Rattle.table_entries.proofs.RowLemmas.{other_test}
use Rattle.table_entries.proofs.PivotLemmas.{flat_within}
use Rattle.table_entries.proofs.WholeLemmas.{way_step, step_at}
use Rattle.table_entries.proofs.WayLemmas.{same_is, one_scaled, no_number}
use Rattle.table_entries.proofs.WholeListLemmas.{whole_here}

-- where the leaving row has nothing, and the denominator stays, the number stays
run_step : (D p : ℤ) → pos 0 <ℤ D → p ≢ pos 0 → IsShort D → IsShort p → (x f e : ℤ) → IsShort x → IsShort f → IsShort e → x ≡ pos 0 → IsWholeStep false false D D p x f e e
run_step D p D_positive some D_short p_short x f e x_short f_short e_short none =
    way_step D D p D_positive D_positive some D_short p_short x f e x_short f_short e_short (by_sign p f) (magnitude p) (magnitude p) (pos 1) e e_short false false
    (same_is D p f some p_short f_short) (one_scaled e (magnitude p) (magnitude p) (pos 1) refl refl ∙ no_number e (magnitude p) (by_sign p f) x (pos 1) none)

module _ (m n r s : ℕ) (d : ℤ) (numbers : List ℤ) (unwritten : List Bool) (r_within : r < m) (s_within : s < n) (size : length numbers ≡ m * n)
    (short : AreShort numbers) (d_positive : pos 0 <ℤ d) (d_short : IsShort d) (some : whole_number_at numbers (r * n + s) ≢ pos 0) where
  short_at : (i k : ℕ) → i < m → k < n → IsShort (whole_number_at numbers (i * n + k))
  short_at i k w v = short (i * n + k) (subst (λ x. i * n + k < x) (sym size) (flat_within n m i k w v))

  stays_at : (next : List ℤ) (i j : ℕ) → i < m → i ≢ r → j < n → whole_number_at numbers (r * n + j) ≡ pos 0 → whole_number_at next (i * n + j) ≡ whole_number_at numbers (i * n + j)
      → WholeAt n r s d d numbers (whole_number_at next (i * n + j)) (i * n + j)
  stays_at next i j i_within other j_within none copied =
      let apart : j ≢ s = λ e. some (ap (λ k. whole_number_at numbers (r * n + k)) (sym e) ∙ none) in
      whole_here n r s d d numbers unwritten next i j j_within d d _ _ _ _ (whole_number_at next (i * n + j)) refl refl refl refl refl refl
      (step_at (i == r) (j == s) false false d d _ _ _ _ (whole_number_at numbers (i * n + j)) (whole_number_at next (i * n + j)) (other_test i r other) (other_test j s apart) copied
      (run_step d _ d_positive some d_short (short_at r s r_within s_within) _ _ _ (short_at r j r_within j_within) (short_at i s i_within s_within) (short_at i j i_within j_within) none))

  -- up to the next entry of the leaving row the copy of a row is its numbers after the exchange
  pub run_written : (next : List ℤ) (i k q : ℕ) → i < m → i ≢ r → q ≤ n → HasNoEntryBetween n numbers r k q
      → ((j : ℕ) → k ≤ j → j < n → whole_number_at next (i * n + j) ≡ whole_number_at numbers (i * n + j))
      → AreWritten n r s d d numbers unwritten next (i * n + k) → AreWritten n r s d d numbers unwritten next (i * n + q)
  run_written next i k q i_within other within none copied earlier at less flag =
      ⊎_elim (λ before. earlier at before flag)
      (λ past.
      let j = at - i * n in
      let at_is : at ≡ i * n + j = omega (arith, past) in
      let from : k ≤ j = omega (arith, past) in
      let below : j < q = omega (arith, past, less) in
      let j_within : j < n = omega (arith, below, within) in
      subst (λ x. WholeAt n r s d d numbers (whole_number_at next x) x) (sym at_is) (stays_at next i j i_within other j_within (none j from below) (copied j from j_within)))
      (cases_lt at (i * n + k))

-- rows before one that is copied stay as they were written
pub copied_written : (n r s : ℕ) (d after : ℤ) (numbers : List ℤ) (unwritten : List Bool) (old new : List ℤ) (i : ℕ) → s < n
    → ((j k : ℕ) → j ≢ i → k < n → whole_number_at new (j * n + k) ≡ whole_number_at old (j * n + k))
    → AreWritten n r s d after numbers unwritten old (i * n) → AreWritten n r s d after numbers unwritten new (i * n)
copied_written n r s d after numbers unwritten old new i s_within others earlier at less flag =
    let some : 0 < n = omega (arith, s_within) in
    let back : at / n * n + at % n ≡ at = div-add-mod' at n in
    let above : at / n < i = (div-lt_iff_lt-mul some).1 less in
    let same : whole_number_at old at ≡ whole_number_at new at = ap (whole_number_at old) (sym back) ∙ sym (others (at / n) (at % n) (λ e. omega (arith, above, e)) (mod-lt at some)) ∙ ap (whole_number_at new) back in
    subst (λ x. WholeAt n r s d after numbers x at) same (earlier at less flag)
