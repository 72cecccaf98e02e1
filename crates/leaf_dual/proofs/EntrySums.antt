-- A sum over a column's entries is the sum over all rows: a row without an entry makes no step.
use Rattle.std.specs.Prelude.{◌≡◌, ℕ, zero, suc, ◌+◌, ◌<◌, ◌≤◌, false, nat_eq, List, [], ◌∷◌, length, pos, Ok}
use Rattle.std.proofs.Common.{refl, sym, ap, subst, ◌∙◌, inl, inr, arith, eq-eqb}
use Rattle.std.proofs.lemmas.Bool.{cases_order, ne_eqb}
use Rattle.frac128.specs.Rational.{ℚ, int, ◌+ℚ◌, ◌*ℚ◌}
use Rattle.frac128.specs.RationalRing.{ring, reads_ℚ}
use Rattle.frac128.specs.Sums.{sum_below}
use Rattle.checked_sum.specs.Steps.{StepFits, StepFitsAt, AllFit, IsFirstWide, IsCheckedSum, partial}
use Rattle.checked_sum.proofs.StepLaws.{skip_number, partial_none, fits_more}
use Rattle.lp_model.specs.Program.{entry_of}
use Rattle.lp_model.specs.Lawful.{AreEntries}
use Rattle.lp_model.specs.declared.types.RowId.{RowId}
use Rattle.lp_model.proofs.EntryLemmas.{entry_of-later}
use Rattle.leaf_dual.specs.Parts.{entry_row, entry_number}

-- ---- sums whose numbers are 0 from a place on

pub partial_suc : (start : ℚ) (a x : ℕ → ℚ) (k : ℕ) → partial start a x (suc k) ≡ partial start a x k +ℚ a k *ℚ x k
partial_suc start a x k = ring (start ∷ sum_below k (λ j. a j *ℚ x j) ∷ a k ∷ x k ∷ []) (search reads_ℚ) tt

fits_suc : (start : ℚ) (a x : ℕ → ℚ) (k : ℕ) → AllFit start a x k → StepFitsAt start a x k → AllFit start a x (suc k)
fits_suc start a x k before here = let e : k + 1 ≡ suc k = omega arith in subst (AllFit start a x) e (fits_more start a x k before here)

module _ (start : ℚ) (a x : ℕ → ℚ) (n : ℕ) (fits : AllFit start a x n) where
  skipped : (t : ℕ) → n ≤ t → ((i : ℕ) → n ≤ i → i < t → x i ≡ int (pos 0)) → AllFit start a x t × (partial start a x n ≡ partial start a x t)
  skipped zero low zeros = let e : n ≡ 0 = omega arith in (subst (AllFit start a x) e fits, ap (partial start a x) e)
  skipped (suc t) low zeros =
      elim (cases_order n (suc t)) [
        | inl e ↦ (subst (AllFit start a x) e fits, ap (partial start a x) e)
        | inr apart ↦ elim apart [
          | inl below ↦
              let upto = skipped t (omega arith) (λ i h k. zeros i h (omega arith)) in
              let none = skip_number (partial start a x t) (a t) (x t) (zeros t (omega arith) (omega arith)) in
              (fits_suc start a x t upto.0 none.0, upto.1 ∙ none.1 ∙ sym (partial_suc start a x t))
          | inr above ↦ absurd (omega arith)
        ]
      ]

-- ---- entries by place

row_in : (from to : ℕ) (es : List (RowId × ℚ)) → AreEntries from to es → (k : ℕ) → k < length es → (from ≤ entry_row es k) × (entry_row es k < to)
row_in from to [] h k below = absurd (omega arith)
row_in from to (e ∷ es) h zero below = (h.0, h.1)
row_in from to (e ∷ es) h (suc k) below =
    let within : k < length es = omega arith in
    let low = h.0 in
    let later = row_in (suc e.0.0) to es h.3 k within in
    let first = later.0 in
    (omega arith, later.1)

row_rises : (from to : ℕ) (es : List (RowId × ℚ)) → AreEntries from to es → (k : ℕ) → suc k < length es → entry_row es k < entry_row es (suc k)
row_rises from to [] h k below = absurd (omega arith)
row_rises from to (e ∷ es) h zero below = let within : 0 < length es = omega arith in let later = (row_in (suc e.0.0) to es h.3 0 within).0 in omega arith
row_rises from to (e ∷ es) h (suc k) below = let within : suc k < length es = omega arith in row_rises (suc e.0.0) to es h.3 k within

-- the row after the k-th entry's predecessor
after : List (RowId × ℚ) → ℕ → ℕ
after es zero = 0
after es (suc k) = suc (entry_row es k)

number_at_row : (from to : ℕ) (es : List (RowId × ℚ)) → AreEntries from to es → (k : ℕ) → k < length es → entry_of (entry_row es k) es ≡ entry_number es k
number_at_row from to [] h k below = absurd (omega arith)
number_at_row from to (e ∷ es) h zero below = rw (eq-eqb e.0.0 e.0.0 refl) refl
number_at_row from to (e ∷ es) h (suc k) below =
    let within : k < length es = omega arith in
    let later = (row_in (suc e.0.0) to es h.3 k within).0 in
    let apart : nat_eq e.0.0 (entry_row es k) ≡ false = ne_eqb e.0.0 (entry_row es k) (λ same. absurd (omega arith)) in
    rw apart (number_at_row (suc e.0.0) to es h.3 k within)

-- no entry names a row between an entry and the next, or after the last
none_between : (from to : ℕ) (es : List (RowId × ℚ)) → AreEntries from to es → (k i : ℕ) → k ≤ length es → after es k ≤ i → (k < length es → i < entry_row es k) → entry_of i es ≡ int (pos 0)
unfolding after
none_between from to [] h k i within low high = refl
none_between from to (e ∷ es) h zero i within low high =
    let some : 0 < suc (length es) = omega arith in
    let below : i < e.0.0 = high some in
    let apart : nat_eq e.0.0 i ≡ false = ne_eqb e.0.0 i (λ same. absurd (omega arith)) in
    let later : i < suc e.0.0 = omega arith in
    rw apart (entry_of-later (suc e.0.0) to es i h.3 later)
none_between from to (e ∷ es) h (suc zero) i within low high =
    let apart : nat_eq e.0.0 i ≡ false = ne_eqb e.0.0 i (λ same. absurd (omega arith)) in
    rw apart (none_between (suc e.0.0) to es h.3 zero i (omega arith) (omega arith) (λ b. high (omega arith)))
none_between from to (e ∷ es) h (suc (suc k)) i within low high =
    let there : k < length es = omega arith in
    let later = (row_in (suc e.0.0) to es h.3 k there).0 in
    let apart : nat_eq e.0.0 i ≡ false = ne_eqb e.0.0 i (λ same. absurd (omega arith)) in
    rw apart (none_between (suc e.0.0) to es h.3 (suc k) i (omega arith) low (λ b. high (omega arith)))

-- ---- the sum over the entries

module _ (es : List (RowId × ℚ)) (to : ℕ) (h : AreEntries 0 to es) (start : ℚ) (a : ℕ → ℚ) where
  after_rises : (k : ℕ) → k < length es → after es k ≤ entry_row es k
  unfolding after
  after_rises zero below = omega arith
  after_rises (suc k) below = row_rises 0 to es h k below

  after_within : (k : ℕ) → k ≤ length es → after es k ≤ to
  unfolding after
  after_within zero below = omega arith
  after_within (suc k) below = (row_in 0 to es h k below).1

  -- the sum over the entries before the k-th is the sum over the rows before a row
  SameBefore : ℕ → ℕ → Type 0
  SameBefore k i = AllFit start a (λ r. entry_of r es) i × (partial start (λ e. a (entry_row es e)) (entry_number es) k ≡ partial start a (λ r. entry_of r es) i)

  at_row : (k : ℕ) → k < length es → SameBefore k (after es k) → SameBefore k (entry_row es k)
  unfolding SameBefore
  at_row k below before =
      let within : k ≤ length es = omega arith in
      let upto = skipped start a (λ r. entry_of r es) (after es k) before.0 (entry_row es k) (after_rises k below) (λ i low high. none_between 0 to es h k i within low (λ b. high)) in
      (upto.0, before.1 ∙ upto.1)

  step_is : (k : ℕ) → k < length es → SameBefore k (entry_row es k) → StepFitsAt start (λ e. a (entry_row es e)) (entry_number es) k ≡ StepFitsAt start a (λ r. entry_of r es) (entry_row es k)
  unfolding SameBefore
  step_is k below same i = StepFits (same.1 i) (a (entry_row es k)) (sym (number_at_row 0 to es h k below) i)

  reached : (k : ℕ) → k ≤ length es → AllFit start (λ e. a (entry_row es e)) (entry_number es) k → SameBefore k (after es k)
  unfolding SameBefore after
  reached zero below fits = ((λ i b. absurd (omega arith)), sym (partial_none start (λ e. a (entry_row es e)) (entry_number es)) ∙ partial_none start a (λ r. entry_of r es))
  reached (suc k) below fits =
      let same = at_row k below (reached k (omega arith) (λ j b. fits j (omega arith))) in
      let here = subst (λ P. P) (step_is k below same) (fits k (omega arith)) in (
        fits_suc start a (λ r. entry_of r es) (entry_row es k) same.0 here,
        partial_suc start (λ e. a (entry_row es e)) (entry_number es) k
            ∙ (λ i. same.1 i +ℚ a (entry_row es k) *ℚ sym (number_at_row 0 to es h k below) i)
            ∙ sym (partial_suc start a (λ r. entry_of r es) (entry_row es k)),
      )

  pub over_rows-ok : (v : ℚ) → IsCheckedSum {P = ℕ} start (λ e. a (entry_row es e)) (entry_number es) (length es) (λ k. k) (Ok v) → AllFit start a (λ r. entry_of r es) to × (v ≡ partial start a (λ r. entry_of r es) to)
  unfolding SameBefore
  over_rows-ok v answer =
      let n = length es in
      let all : n ≤ length es = omega arith in
      let last = reached n all answer.0 in
      let upto = skipped start a (λ r. entry_of r es) (after es n) last.0 to (after_within n all) (λ i low high. none_between 0 to es h n i all low (λ b. absurd (omega arith))) in
      (upto.0, answer.1 ∙ last.1 ∙ upto.1)

  pub over_rows-wide : (k : ℕ) → IsFirstWide start (λ e. a (entry_row es e)) (entry_number es) (length es) k → IsFirstWide start a (λ r. entry_of r es) to (entry_row es k)
  unfolding SameBefore
  over_rows-wide k wide =
      let below = wide.within in
      let same = at_row k below (reached k (omega arith) wide.before) in
      record { within = (row_in 0 to es h k below).1; before = same.0; here = λ fits. wide.here (subst (λ P. P) (sym (step_is k below same)) fits) }
