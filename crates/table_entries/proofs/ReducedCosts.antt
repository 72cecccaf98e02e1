-- Reduced costs after an exchange, and those of a part in which one variable alone has a cost.
use Rattle.std.specs.Prelude.{◌≡◌, ◌≢◌, ℕ, ◌<◌, [], ◌∷◌, pos}
use Rattle.std.proofs.Common.{ap₂, refl, sym, ap, subst, ◌∙◌, ⊎_elim}
use Rattle.std.proofs.lemmas.Bool.{cases_eq}
use Rattle.frac128.specs.Rational.{ℚ, int, ◌+ℚ◌, ◌-ℚ◌, ◌*ℚ◌, ◌/ℚ◌, neg_ℚ, inverse}
use Rattle.frac128.specs.RationalRing.{ring, reads_ℚ}
use Rattle.frac128.proofs.Division.{ring_from}
use Rattle.frac128.proofs.Rounding.{*ℚ-inverse}
use Rattle.frac128.specs.Sums.{sum_below}
use Rattle.table_entries.specs.Relaxation.{Relaxation, Table, IsArranged, pivoted_entry, pivoted, reduced_cost}
use Rattle.checked_sum.proofs.SumLaws.{sum_below-add, sum_below-scale}
use Rattle.table_entries.proofs.SumBelowLaws.{if_same, if_other, sum_below-zero, sum_below-changed}
use Rattle.table_entries.proofs.Exchange.{moved}

module _ (p : Relaxation) (d : Table) (r s : ℕ) (r_within : r < p.activities) (some : d.entry r s ≢ int (pos 0)) (c : ℕ → ℚ) where
  abbrev saved : ℕ → ℚ
  saved k = sum_below p.activities (λ i. c (d.basic i) *ℚ d.entry i k)

  abbrev after : ℕ → ℕ → ℚ
  after k i = c ((pivoted d r s).basic i) *ℚ pivoted_entry d.entry r s i k

  abbrev pivot : ℚ
  pivot = d.entry r s

  cost_r : c ((pivoted d r s).basic r) ≡ c (d.nonbasic s)
  cost_r = ap c (if_same r (d.nonbasic s) (d.basic r))

  cost_other : (i : ℕ) → ¬ (i ≡ r) → c ((pivoted d r s).basic i) ≡ c (d.basic i)
  cost_other i other = ap c (if_other i r (d.nonbasic s) (d.basic i) other)

  one : pivot *ℚ inverse pivot ≡ int (pos 1)
  one = *ℚ-inverse pivot some

  reduced_other : (k : ℕ) → ¬ (k ≡ s) → reduced_cost p (pivoted d r s) c k ≡ moved (reduced_cost p d c) (d.entry r) s k
  reduced_other k k_other =
      let part = d.entry r k /ℚ pivot in
      let g : ℕ → ℚ = λ i. c (d.basic i) *ℚ d.entry i k +ℚ neg_ℚ part *ℚ (c (d.basic i) *ℚ d.entry i s) in
      let changed : sum_below p.activities (after k) +ℚ g r ≡ sum_below p.activities g +ℚ after k r =
      sum_below-changed p.activities r (after k) g r_within
      (λ i q other. ap₂ ◌*ℚ◌ (cost_other i other) (if_other i r _ _ other ∙ if_other k s _ _ k_other)
      ∙ ring (c (d.basic i) ∷ d.entry i k ∷ d.entry i s ∷ d.entry r k ∷ inverse pivot ∷ []) (search reads_ℚ depth 9) tt) in
      let sum_g : sum_below p.activities g ≡ saved k +ℚ neg_ℚ part *ℚ saved s =
      sum_below-add p.activities (λ i. c (d.basic i) *ℚ d.entry i k) (λ i. neg_ℚ part *ℚ (c (d.basic i) *ℚ d.entry i s))
      ∙ ap (λ t. saved k +ℚ t) (sum_below-scale p.activities (neg_ℚ part) (λ i. c (d.basic i) *ℚ d.entry i s)) in
      let g_r : g r ≡ int (pos 0) =
      ring (c (d.basic r) ∷ d.entry r k ∷ pivot ∷ inverse pivot ∷ []) {y = c (d.basic r) *ℚ d.entry r k -ℚ (c (d.basic r) *ℚ d.entry r k) *ℚ (pivot *ℚ inverse pivot)} (search reads_ℚ depth 9) tt
      ∙ ap (λ t. c (d.basic r) *ℚ d.entry r k -ℚ (c (d.basic r) *ℚ d.entry r k) *ℚ t) one ∙ ring (c (d.basic r) ∷ d.entry r k ∷ []) (search reads_ℚ depth 9) tt in
      let after_r : after k r ≡ c (d.nonbasic s) *ℚ neg_ℚ part = ap₂ ◌*ℚ◌ cost_r (if_same r _ _ ∙ if_other k s _ _ k_other) in
      let all : sum_below p.activities (after k) +ℚ int (pos 0) ≡ (saved k +ℚ neg_ℚ part *ℚ saved s) +ℚ c (d.nonbasic s) *ℚ neg_ℚ part =
      ap (λ t. sum_below p.activities (after k) +ℚ t) (sym g_r) ∙ changed ∙ ap₂ ◌+ℚ◌ sum_g after_r in
      ap (λ v. c v +ℚ sum_below p.activities (after k)) (if_other k s (d.basic r) (d.nonbasic k) k_other)
      ∙ ring_from (sum_below p.activities (after k) ∷ saved k ∷ saved s ∷ c (d.nonbasic s) ∷ c (d.nonbasic k) ∷ d.entry r k ∷ inverse pivot ∷ []) {y = reduced_cost p d c k -ℚ reduced_cost p d c s *ℚ part} all (search reads_ℚ depth 9) tt
      ∙ sym (if_other k s _ _ k_other)

  reduced_s : reduced_cost p (pivoted d r s) c s ≡ moved (reduced_cost p d c) (d.entry r) s s
  reduced_s =
      let g : ℕ → ℚ = λ i. inverse pivot *ℚ (c (d.basic i) *ℚ d.entry i s) in
      let changed : sum_below p.activities (after s) +ℚ g r ≡ sum_below p.activities g +ℚ after s r =
      sum_below-changed p.activities r (after s) g r_within
      (λ i q other. ap₂ ◌*ℚ◌ (cost_other i other) (if_other i r _ _ other ∙ if_same s _ _) ∙ ring (c (d.basic i) ∷ d.entry i s ∷ inverse pivot ∷ []) (search reads_ℚ depth 9) tt) in
      let g_r : g r ≡ c (d.basic r) =
      ring (c (d.basic r) ∷ pivot ∷ inverse pivot ∷ []) {y = c (d.basic r) *ℚ (pivot *ℚ inverse pivot)} (search reads_ℚ depth 9) tt
      ∙ ap (λ t. c (d.basic r) *ℚ t) one ∙ ring (c (d.basic r) ∷ []) (search reads_ℚ) tt in
      let after_r : after s r ≡ c (d.nonbasic s) *ℚ inverse pivot = ap₂ ◌*ℚ◌ cost_r (if_same r _ _ ∙ if_same s _ _) in
      let all : sum_below p.activities (after s) +ℚ c (d.basic r) ≡ inverse pivot *ℚ saved s +ℚ c (d.nonbasic s) *ℚ inverse pivot =
      ap (λ t. sum_below p.activities (after s) +ℚ t) (sym g_r) ∙ changed ∙ ap₂ ◌+ℚ◌ (sum_below-scale p.activities (inverse pivot) (λ i. c (d.basic i) *ℚ d.entry i s)) after_r in
      ap (λ v. c v +ℚ sum_below p.activities (after s)) (if_same s (d.basic r) (d.nonbasic s))
      ∙ ring_from (sum_below p.activities (after s) ∷ saved s ∷ c (d.nonbasic s) ∷ c (d.basic r) ∷ inverse pivot ∷ []) {y = reduced_cost p d c s /ℚ pivot} all (search reads_ℚ depth 9) tt
      ∙ sym (if_same s _ _)

  -- the reduced costs move as a row does
  pub reduced-pivoted : (k : ℕ) → reduced_cost p (pivoted d r s) c k ≡ moved (reduced_cost p d c) (d.entry r) s k
  reduced-pivoted k = ⊎_elim (λ e. subst (λ v. reduced_cost p (pivoted d r s) c v ≡ moved (reduced_cost p d c) (d.entry r) s v) (sym e) reduced_s) (reduced_other k) (cases_eq k s)

-- ---- costs of one variable alone

module _ (p : Relaxation) (d : Table) (is : IsArranged p d) (c : ℕ → ℚ) where
  -- a basic one
  pub reduced_alone-basic : (r k : ℕ) → r < p.activities → k < p.columns → ((u : ℕ) → ¬ (u ≡ d.basic r) → c u ≡ int (pos 0)) → reduced_cost p d c k ≡ c (d.basic r) *ℚ d.entry r k
  reduced_alone-basic r k r_within k_within alone =
      let f : ℕ → ℚ = λ i. c (d.basic i) *ℚ d.entry i k in
      let none : ℕ → ℚ = λ i. int (pos 0) in
      let changed : sum_below p.activities f +ℚ none r ≡ sum_below p.activities none +ℚ f r =
      sum_below-changed p.activities r f none r_within
      (λ i q other. ap (λ t. t *ℚ d.entry i k) (alone (d.basic i) (λ e. other (is.basic_once i r q r_within e))) ∙ ring (d.entry i k ∷ []) (search reads_ℚ) tt) in
      let zeros : sum_below p.activities none ≡ int (pos 0) = sum_below-zero p.activities none (λ i q. refl) in
      let all : sum_below p.activities f +ℚ int (pos 0) ≡ int (pos 0) +ℚ f r = changed ∙ ap (λ t. t +ℚ f r) zeros in
      ap (λ t. t +ℚ sum_below p.activities f) (alone (d.nonbasic k) (λ e. is.apart r k r_within k_within (sym e)))
      ∙ ring_from (sum_below p.activities f ∷ c (d.basic r) ∷ d.entry r k ∷ []) all (search reads_ℚ depth 9) tt

  -- a nonbasic one
  pub reduced_alone-nonbasic : (l k : ℕ) → l < p.columns → k < p.columns → ((u : ℕ) → ¬ (u ≡ d.nonbasic l) → c u ≡ int (pos 0)) → reduced_cost p d c k ≡ c (d.nonbasic k)
  reduced_alone-nonbasic l k l_within k_within alone =
      ap (λ t. c (d.nonbasic k) +ℚ t) (sum_below-zero p.activities _ (λ i q. ap (λ t. t *ℚ d.entry i k) (alone (d.basic i) (is.apart i l q l_within)) ∙ ring (d.entry i k ∷ []) (search reads_ℚ) tt))
      ∙ ring (c (d.nonbasic k) ∷ []) (search reads_ℚ) tt
