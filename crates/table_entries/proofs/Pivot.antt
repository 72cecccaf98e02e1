-- An exchange leads from a table of a basis to the table of the exchanged one, and a basis has one table.
use Rattle.std.specs.Prelude.{◌≡◌, ◌≢◌, ℕ, ◌<◌, [], ◌∷◌, pos, if◌then◌else◌, ◌==◌}
use Rattle.std.proofs.Common.{ap₂, refl, sym, ap, subst, ◌∙◌, ⊎_elim}
use Rattle.std.proofs.lemmas.Bool.{cases_eq}
use Rattle.frac128.specs.Rational.{ℚ, int, ◌+ℚ◌, ◌-ℚ◌, ◌*ℚ◌, ◌/ℚ◌, inverse}
use Rattle.frac128.specs.RationalRing.{ring, reads_ℚ}
use Rattle.frac128.proofs.Division.{ring_from}
use Rattle.frac128.proofs.Rounding.{*ℚ-inverse}
use Rattle.frac128.specs.Sums.{sum_below}
use Rattle.table_entries.specs.Relaxation.{Relaxation, Table, Rows, row_value, IsTable, slack_table, pivoted_entry, pivoted}
use Rattle.checked_sum.proofs.SumLaws.{sum_below-same}
use Rattle.table_entries.proofs.SumBelowLaws.{if_same, if_other, sum_below-zero, sum_below-changed}
use Rattle.table_entries.proofs.Exchange.{moved, sum_moved}

-- the weights that are 1 at s alone
abbrev pub unit : ℕ → ℕ → ℚ
unit s k = if k == s then int (pos 1) else int (pos 0)

-- a sum of these weights times numbers
pub sum_unit : (n s : ℕ) (x : ℕ → ℚ) → s < n → sum_below n (λ k. unit s k *ℚ x k) ≡ x s
sum_unit n s x within =
    let f : ℕ → ℚ = λ k. unit s k *ℚ x k in
    let g : ℕ → ℚ = λ k. int (pos 0) in
    let changed : sum_below n f +ℚ g s ≡ sum_below n g +ℚ f s = sum_below-changed n s f g within
    (λ k p other. ap (λ t. t *ℚ x k) (if_other k s (int (pos 1)) (int (pos 0)) other) ∙ ring (x k ∷ []) (search reads_ℚ) tt) in
    let none : sum_below n g ≡ int (pos 0) = sum_below-zero n g (λ k p. refl) in
    let all : sum_below n f +ℚ int (pos 0) ≡ int (pos 0) +ℚ int (pos 1) *ℚ x s = changed ∙ ap₂ ◌+ℚ◌ none (ap (λ t. t *ℚ x s) (if_same s (int (pos 1)) (int (pos 0)))) in
    ring_from (sum_below n f ∷ x s ∷ []) all (search reads_ℚ depth 9) tt

module _ (t : ℕ → ℕ → ℚ) (r s : ℕ) where
  -- the entries by row: that of r is the weight of s alone, moved
  pub pivoted-row : (k : ℕ) → pivoted_entry t r s r k ≡ moved (unit s) (t r) s k
  pivoted-row k = ⊎_elim here there (cases_eq k s)
    where
      here : k ≡ s → pivoted_entry t r s r k ≡ moved (unit s) (t r) s k
      here e =
          subst (λ v. pivoted_entry t r s r v ≡ moved (unit s) (t r) s v) (sym e)
          (if_same r _ _ ∙ if_same s _ _ ∙ sym (if_same s _ _ ∙ ap (λ v. v *ℚ inverse (t r s)) (if_same s (int (pos 1)) (int (pos 0))) ∙ ring (inverse (t r s) ∷ []) (search reads_ℚ) tt))

      there : ¬ (k ≡ s) → pivoted_entry t r s r k ≡ moved (unit s) (t r) s k
      there other =
          if_same r _ _ ∙ if_other k s _ _ other
          ∙ sym (if_other k s _ _ other ∙ ap₂ (λ v w. v -ℚ w *ℚ (t r k /ℚ t r s)) (if_other k s (int (pos 1)) (int (pos 0)) other) (if_same s (int (pos 1)) (int (pos 0))) ∙ ring (t r k ∷ inverse (t r s) ∷ []) (search reads_ℚ depth 9) tt)

  pub pivoted-other : (i k : ℕ) → ¬ (i ≡ r) → pivoted_entry t r s i k ≡ moved (t i) (t r) s k
  pivoted-other i k other = if_other i r _ _ other

module _ (p : Relaxation) (d : Table) (r s : ℕ) (s_within : s < p.columns) (some : d.entry r s ≢ int (pos 0)) (x : ℕ → ℚ) where
  -- how far the variable of row r is from what its row says
  abbrev gap : ℚ
  gap = x (d.basic r) -ℚ row_value p d x r

  leaves : (k : ℕ) → k < p.columns → ¬ (k ≡ s) → x ((pivoted d r s).nonbasic k) ≡ x (d.nonbasic k)
  leaves k within other = ap x (if_other k s (d.basic r) (d.nonbasic k) other)

  enters : x ((pivoted d r s).nonbasic s) ≡ x (d.basic r)
  enters = ap x (if_same s (d.basic r) (d.nonbasic s))

  -- any weights of the nonbasic variables, moved
  pub moved_value : (a : ℕ → ℚ) → sum_below p.columns (λ k. moved a (d.entry r) s k *ℚ x ((pivoted d r s).nonbasic k)) ≡ sum_below p.columns (λ k. a k *ℚ x (d.nonbasic k)) +ℚ (a s /ℚ d.entry r s) *ℚ gap
  moved_value a =
      sum_moved p.columns s a (d.entry r) (λ k. x (d.nonbasic k)) (λ k. x ((pivoted d r s).nonbasic k)) s_within some leaves
      ∙ ap (λ v. sum_below p.columns (λ k. a k *ℚ x (d.nonbasic k)) +ℚ (a s /ℚ d.entry r s) *ℚ (v -ℚ row_value p d x r)) enters

  pub new_row : row_value p (pivoted d r s) x r ≡ x (d.nonbasic s) +ℚ inverse (d.entry r s) *ℚ gap
  new_row =
      sum_below-same p.columns _ _ (λ k q. ap (λ v. v *ℚ x ((pivoted d r s).nonbasic k)) (pivoted-row d.entry r s k))
      ∙ moved_value (unit s)
      ∙ ap₂ (λ v w. v +ℚ (w *ℚ inverse (d.entry r s)) *ℚ gap) (sum_unit p.columns s (λ k. x (d.nonbasic k)) s_within) (if_same s (int (pos 1)) (int (pos 0)))
      ∙ ring (x (d.nonbasic s) ∷ inverse (d.entry r s) ∷ x (d.basic r) ∷ row_value p d x r ∷ []) (search reads_ℚ depth 9) tt

  pub other_row : (i : ℕ) → ¬ (i ≡ r) → row_value p (pivoted d r s) x i ≡ row_value p d x i +ℚ (d.entry i s /ℚ d.entry r s) *ℚ gap
  other_row i other =
      sum_below-same p.columns _ _ (λ k q. ap (λ v. v *ℚ x ((pivoted d r s).nonbasic k)) (pivoted-other d.entry r s i k other))
      ∙ moved_value (d.entry i)

  -- what no gap gives, and what gives none
  closed_gap : gap ≡ int (pos 0) → (v w : ℚ) → v +ℚ w *ℚ gap ≡ v
  closed_gap e v w = ap (λ g. v +ℚ w *ℚ g) e ∙ ring (v ∷ w ∷ []) (search reads_ℚ depth 9) tt

  gap_closed : (v : ℚ) → v ≡ v +ℚ inverse (d.entry r s) *ℚ gap → gap ≡ int (pos 0)
  gap_closed v e =
      let none : inverse (d.entry r s) *ℚ gap ≡ int (pos 0) = ring_from (v ∷ inverse (d.entry r s) ∷ x (d.basic r) ∷ row_value p d x r ∷ []) (sym e) (search reads_ℚ depth 9) tt in
      ring (x (d.basic r) ∷ row_value p d x r ∷ []) {y = int (pos 1) *ℚ gap} (search reads_ℚ depth 9) tt
      ∙ ap (λ v. v *ℚ gap) (sym (*ℚ-inverse (d.entry r s) some))
      ∙ ring (d.entry r s ∷ inverse (d.entry r s) ∷ x (d.basic r) ∷ row_value p d x r ∷ []) {y = d.entry r s *ℚ (inverse (d.entry r s) *ℚ gap)} (search reads_ℚ depth 9) tt
      ∙ ap (λ v. d.entry r s *ℚ v) none
      ∙ ring (d.entry r s ∷ []) (search reads_ℚ) tt

  no_gap : x (d.basic r) ≡ row_value p d x r → gap ≡ int (pos 0)
  no_gap e = ap (λ v. v -ℚ row_value p d x r) e ∙ ring (row_value p d x r ∷ []) (search reads_ℚ) tt

  from_gap : gap ≡ int (pos 0) → x (d.basic r) ≡ row_value p d x r
  from_gap e = ring_from (x (d.basic r) ∷ row_value p d x r ∷ []) e (search reads_ℚ depth 9) tt

  pub rows_after : r < p.activities → Rows p d x → Rows p (pivoted d r s) x
  rows_after r_within rows i within = ⊎_elim here there (cases_eq i r)
    where
      here : i ≡ r → x ((pivoted d r s).basic i) ≡ row_value p (pivoted d r s) x i
      here e =
          subst (λ v. x ((pivoted d r s).basic v) ≡ row_value p (pivoted d r s) x v) (sym e)
          (ap x (if_same r (d.nonbasic s) (d.basic r)) ∙ sym (closed_gap (no_gap (rows r r_within)) _ _) ∙ sym new_row)

      there : ¬ (i ≡ r) → x ((pivoted d r s).basic i) ≡ row_value p (pivoted d r s) x i
      there other = ap x (if_other i r (d.nonbasic s) (d.basic i) other) ∙ rows i within ∙ sym (closed_gap (no_gap (rows r r_within)) _ _) ∙ sym (other_row i other)

  pub rows_before : r < p.activities → Rows p (pivoted d r s) x → Rows p d x
  rows_before r_within rows i within = ⊎_elim here there (cases_eq i r)
    where
      closed : gap ≡ int (pos 0)
      closed = gap_closed (x (d.nonbasic s)) (sym (ap x (if_same r (d.nonbasic s) (d.basic r))) ∙ rows r r_within ∙ new_row)

      here : i ≡ r → x (d.basic i) ≡ row_value p d x i
      here e = subst (λ v. x (d.basic v) ≡ row_value p d x v) (sym e) (from_gap closed)

      there : ¬ (i ≡ r) → x (d.basic i) ≡ row_value p d x i
      there other = sym (ap x (if_other i r (d.nonbasic s) (d.basic i) other)) ∙ rows i within ∙ other_row i other ∙ closed_gap closed _ _

-- the pivot keeps the table's meaning
pub IsTable-pivoted : (p : Relaxation) (d : Table) (r s : ℕ) → r < p.activities → s < p.columns → d.entry r s ≢ int (pos 0) → IsTable p d → IsTable p (pivoted d r s)
IsTable-pivoted p d r s r_within s_within some is = record {
  holds = λ x h. rows_after p d r s s_within some x r_within (is.holds x h);
  suffices = λ x h. is.suffices x (rows_before p d r s s_within some x r_within h);
}

pub IsTable-slack : (p : Relaxation) → IsTable p (slack_table p)
IsTable-slack p = record { holds = λ x h. h; suffices = λ x h. h }
