-- Reduced costs, multipliers and Farkas multipliers at a table.
use Rattle.std.specs.Prelude.{◌≡◌, ℕ, ◌+◌, ◌-◌, ◌<◌, [], ◌∷◌, pos, if◌then◌else◌, ltb, true, false}
use Rattle.std.proofs.Common.{ap₂, refl, sym, ap, ◌∙◌, arith}
use Rattle.std.proofs.lemmas.Bool.{lt-ltb, le-ltb}
use Rattle.frac128.specs.Rational.{ℚ, int, ◌+ℚ◌, ◌*ℚ◌, neg_ℚ}
use Rattle.frac128.specs.RationalRing.{ring, reads_ℚ, zero-+ℚ}
use Rattle.frac128.proofs.Division.{ring_from}
use Rattle.frac128.specs.Sums.{sum_below}
use Rattle.table_entries.specs.Relaxation.{Relaxation, Table, Solves, Rows, row_value, IsTable, IsArranged, reduced_cost, total_cost, multipliers, row_weights, left_of}
use Rattle.checked_sum.proofs.SumLaws.{sum_below-same, sum_below-add, sum_below-scale, sum_below_exchange}
use Rattle.table_entries.proofs.SumBelowLaws.{sum_below-zero}
use Rattle.table_entries.proofs.Pivot.{unit, sum_unit}
use Rattle.table_entries.proofs.Arranged.{assigned-basic, assigned-nonbasic, sum_assigned, sum_below-split}

module _ (p : Relaxation) (d : Table) (arranged : IsArranged p d) (x : ℕ → ℚ) (rows : Rows p d x) where
  -- cost times number over all variables is reduced cost times number over the nonbasic ones
  pub value-reduced : (c : ℕ → ℚ) → total_cost p c x ≡ sum_below p.columns (λ k. reduced_cost p d c k *ℚ x (d.nonbasic k))
  value-reduced c =
      let saved : ℕ → ℚ = λ k. sum_below p.activities (λ i. c (d.basic i) *ℚ d.entry i k) in
      let basics : sum_below p.activities (λ i. c (d.basic i) *ℚ x (d.basic i)) ≡ sum_below p.columns (λ k. saved k *ℚ x (d.nonbasic k)) =
      sum_below-same p.activities _ (λ i. sum_below p.columns (λ k. c (d.basic i) *ℚ (d.entry i k *ℚ x (d.nonbasic k))))
      (λ i q. ap (λ t. c (d.basic i) *ℚ t) (rows i q) ∙ sym (sum_below-scale p.columns (c (d.basic i)) (λ k. d.entry i k *ℚ x (d.nonbasic k))))
      ∙ sum_below_exchange p.activities p.columns (λ i k. c (d.basic i) *ℚ (d.entry i k *ℚ x (d.nonbasic k)))
      ∙ sum_below-same p.columns _ _ (λ k q.
      sum_below-same p.activities _ (λ i. x (d.nonbasic k) *ℚ (c (d.basic i) *ℚ d.entry i k)) (λ i w. ring (c (d.basic i) ∷ d.entry i k ∷ x (d.nonbasic k) ∷ []) (search reads_ℚ) tt)
      ∙ sum_below-scale p.activities (x (d.nonbasic k)) (λ i. c (d.basic i) *ℚ d.entry i k)
      ∙ ring (x (d.nonbasic k) ∷ saved k ∷ []) (search reads_ℚ) tt) in
      arranged.sums (λ v. c v *ℚ x v)
      ∙ ap (λ t. t +ℚ sum_below p.columns (λ k. c (d.nonbasic k) *ℚ x (d.nonbasic k))) basics
      ∙ sym (sum_below-add p.columns (λ k. saved k *ℚ x (d.nonbasic k)) (λ k. c (d.nonbasic k) *ℚ x (d.nonbasic k)))
      ∙ sum_below-same p.columns _ _ (λ k q. ring (saved k ∷ x (d.nonbasic k) ∷ c (d.nonbasic k) ∷ []) (search reads_ℚ) tt)

  -- the multipliers give the same as the costs
  pub value-multipliers : (c : ℕ → ℚ) → total_cost p c x ≡ total_cost p (multipliers p d c) x
  value-multipliers c =
      value-reduced c
      ∙ sym (sum_assigned p d arranged (λ i. int (pos 0)) (reduced_cost p d c) x
      ∙ ap (λ t. t +ℚ sum_below p.columns (λ k. reduced_cost p d c k *ℚ x (d.nonbasic k))) (sum_below-zero p.activities _ (λ i q. ring (x (d.basic i) ∷ []) (search reads_ℚ) tt))
      ∙ zero-+ℚ _)

  -- a row's weights give 0
  pub value-row_weights : (r : ℕ) → r < p.activities → total_cost p (row_weights p d r) x ≡ int (pos 0)
  value-row_weights r within =
      sum_assigned p d arranged (unit r) (λ k. neg_ℚ (d.entry r k)) x
      ∙ ap₂ ◌+ℚ◌ (sum_unit p.activities r (λ i. x (d.basic i)) within ∙ rows r within)
      (sum_below-same p.columns _ (λ k. neg_ℚ (int (pos 1)) *ℚ (d.entry r k *ℚ x (d.nonbasic k))) (λ k q. ring (d.entry r k ∷ x (d.nonbasic k) ∷ []) (search reads_ℚ depth 9) tt)
      ∙ sum_below-scale p.columns (neg_ℚ (int (pos 1))) (λ k. d.entry r k *ℚ x (d.nonbasic k)))
      ∙ ring (row_value p d x r ∷ []) (search reads_ℚ depth 9) tt

-- ---- from all solutions to each column

-- the solution at which column j is 1 and the others are 0
abbrev pub unit_solution : Relaxation → ℕ → ℕ → ℚ
unit_solution p j v = if ltb v p.columns then unit j v else p.coefficient (v - p.columns) j

module _ (p : Relaxation) (j : ℕ) (j_within : j < p.columns) where
  unit_solution-column : (k : ℕ) → k < p.columns → unit_solution p j k ≡ unit j k
  unit_solution-column k within = let yes : ltb k p.columns ≡ true = lt-ltb k p.columns within in ap (λ t. if t then unit j k else p.coefficient (k - p.columns) j) yes

  unit_solution-activity : (i : ℕ) → unit_solution p j (p.columns + i) ≡ p.coefficient i j
  unit_solution-activity i =
      let no : ltb (p.columns + i) p.columns ≡ false = le-ltb (p.columns + i) p.columns (omega arith) in
      let back : p.columns + i - p.columns ≡ i = omega arith in
      ap (λ t. if t then unit j (p.columns + i) else p.coefficient (p.columns + i - p.columns) j) no ∙ ap (λ l. p.coefficient l j) back

  unit_sum : (f : ℕ → ℚ) → sum_below p.columns (λ k. f k *ℚ unit_solution p j k) ≡ f j
  unit_sum f = sum_below-same p.columns _ (λ k. unit j k *ℚ f k) (λ k q. ap (λ t. f k *ℚ t) (unit_solution-column k q) ∙ ring (f k ∷ unit j k ∷ []) (search reads_ℚ) tt) ∙ sum_unit p.columns j f j_within

  pub Solves-unit_solution : Solves p (unit_solution p j)
  Solves-unit_solution i within = unit_solution-activity i ∙ sym (unit_sum (p.coefficient i))

  pub value-unit_solution : (c : ℕ → ℚ) → total_cost p c (unit_solution p j) ≡ c j +ℚ sum_below p.activities (λ i. c (p.columns + i) *ℚ p.coefficient i j)
  value-unit_solution c =
      sum_below-split p.columns p.activities (λ v. c v *ℚ unit_solution p j v)
      ∙ ap₂ ◌+ℚ◌ (unit_sum c) (sum_below-same p.activities _ _ (λ i q. ap (λ t. c (p.columns + i) *ℚ t) (unit_solution-activity i)))

  -- weights that give the same as the costs at every solution leave at column j what they have there
  pub left_of_same : (c w : ℕ → ℚ) → ((i : ℕ) → i < p.activities → c (p.columns + i) ≡ int (pos 0)) → ((x : ℕ → ℚ) → Solves p x → total_cost p c x ≡ total_cost p w x) → left_of p c w j ≡ w j
  left_of_same c w free same =
      let saved = sum_below p.activities (λ i. w (p.columns + i) *ℚ p.coefficient i j) in
      let none : sum_below p.activities (λ i. c (p.columns + i) *ℚ p.coefficient i j) ≡ int (pos 0) =
      sum_below-zero p.activities _ (λ i q. ap (λ t. t *ℚ p.coefficient i j) (free i q) ∙ ring (p.coefficient i j ∷ []) (search reads_ℚ) tt) in
      let all : c j +ℚ int (pos 0) ≡ w j +ℚ saved =
      ap (λ t. c j +ℚ t) (sym none) ∙ sym (value-unit_solution c) ∙ same (unit_solution p j) Solves-unit_solution ∙ value-unit_solution w in
      ring_from (c j ∷ w j ∷ saved ∷ []) all (search reads_ℚ depth 9) tt

module _ (p : Relaxation) (d : Table) (is : IsTable p d) (arranged : IsArranged p d) where
  -- e(X) of a column: its reduced cost if it is nonbasic, 0 if it is basic
  pub left_of-multipliers : (c : ℕ → ℚ) → ((i : ℕ) → i < p.activities → c (p.columns + i) ≡ int (pos 0)) → (j : ℕ) → j < p.columns → left_of p c (multipliers p d c) j ≡ multipliers p d c j
  left_of-multipliers c free j within = left_of_same p j within c (multipliers p d c) free (λ x h. value-multipliers p d arranged x (is.holds x h) c)

  pub left_of-nonbasic : (c : ℕ → ℚ) → ((i : ℕ) → i < p.activities → c (p.columns + i) ≡ int (pos 0)) → (k : ℕ) → k < p.columns → d.nonbasic k < p.columns → left_of p c (multipliers p d c) (d.nonbasic k) ≡ reduced_cost p d c k
  left_of-nonbasic c free k within column = left_of-multipliers c free (d.nonbasic k) column ∙ assigned-nonbasic p d arranged _ _ k within

  pub left_of-basic : (c : ℕ → ℚ) → ((i : ℕ) → i < p.activities → c (p.columns + i) ≡ int (pos 0)) → (i : ℕ) → i < p.activities → d.basic i < p.columns → left_of p c (multipliers p d c) (d.basic i) ≡ int (pos 0)
  left_of-basic c free i within column = left_of-multipliers c free (d.basic i) column ∙ assigned-basic p d arranged _ _ i within

  -- with costs 0 the weights of a row leave at each column what they have there
  pub left_of-row_weights : (r : ℕ) → r < p.activities → (j : ℕ) → j < p.columns → left_of p (λ v. int (pos 0)) (row_weights p d r) j ≡ row_weights p d r j
  left_of-row_weights r r_within j within =
      left_of_same p j within (λ v. int (pos 0)) (row_weights p d r) (λ i q. refl)
      (λ x h. sum_below-zero (p.columns + p.activities) _ (λ v q. ring (x v ∷ []) (search reads_ℚ) tt) ∙ sym (value-row_weights p d arranged x (is.holds x h) r r_within))
