-- A ray and a lawful state exclude each other.
use Rattle.std.specs.Prelude.{◌≡◌, ℕ, ◌+◌, ◌<◌, [], ◌∷◌, pos, Option, Some, None, is_none}
use Rattle.std.proofs.Common.{sym, ap, subst, ◌∙◌, ⊎_elim}
use Rattle.std.proofs.lemmas.Bool.{false≢true}
use Rattle.frac128.specs.Rational.{ℚ, int, ◌*ℚ◌, ◌≤ℚ◌, ◌<ℚ◌}
use Rattle.frac128.specs.RationalRing.{ring, reads_ℚ}
use Rattle.frac128.specs.RationalOrder.{≤ℚ_of_<ℚ, ≤ℚ_of_≡, ≤ℚ_or_>ℚ, ≤ℚ_antisymm, not_both_ℚ, mul-≤ℚ, mul-≤ℚ_nonpositive}
use Rattle.frac128.specs.Sums.{sum_below}
use Rattle.checked_sum.proofs.SumLaws.{sum_below-same, sum_below-≤ℚ}
use Rattle.table_entries.specs.declared.stand.Stand.TheVariants.{Low, High}
use Rattle.table_entries.specs.Relaxation.{Relaxation, Table, reduced_cost, total_cost}
use Rattle.table_entries.specs.States.{State, Standing, IsGood, reduced_parts}
use Rattle.table_entries.specs.Directions.{IsRelaxationRay}
use Rattle.table_entries.proofs.SumBelowLaws.{sum_below-zero}
use Rattle.table_entries.proofs.BringIn.{nonbasic_within}
use Rattle.table_entries.proofs.Duality.{value-reduced}
use Rattle.table_entries.proofs.Lag.{lawful_first}

there : (o : Option ℚ) (x : ℚ) → o ≡ Some x → ¬ (o ≡ None)
there o x e none = false≢true (ap (λ y. is_none y) (sym e ∙ none))

module _ (p : Relaxation) (parts : ℕ → ℕ → ℚ) (costs : (v : ℕ) → parts 0 v ≡ p.cost v) (st : State) (good : IsGood p parts st) (x : ℕ → ℚ) (ray : IsRelaxationRay p x) where
  abbrev d : Table
  d = st.table

  no_less : (k : ℕ) → k < p.columns → int (pos 0) ≤ℚ reduced_cost p d (parts 0) k *ℚ x (d.nonbasic k)
  no_less k q = ⊎_elim (λ low. ⊎_elim (none low) below (≤ℚ_or_>ℚ (int (pos 0)) r)) above (≤ℚ_or_>ℚ r (int (pos 0)))
    where
      r : ℚ
      r = reduced_cost p d (parts 0) k

      within : d.nonbasic k < p.columns + p.activities
      within = nonbasic_within p d good.arranged k q

      above : int (pos 0) <ℚ reduced_cost p d (parts 0) k → int (pos 0) ≤ℚ reduced_cost p d (parts 0) k *ℚ x (d.nonbasic k)
      above h =
          let low : Standing p (d.nonbasic k) Low (st.at k) = subst (λ s. Standing p (d.nonbasic k) s (st.at k)) ((lawful_first (st.stand k) (reduced_parts p parts d k) (good.lawful.lawful k q)).0 h) (good.lawful.stands k q) in
          subst (λ t. t ≤ℚ reduced_cost p d (parts 0) k *ℚ x (d.nonbasic k)) (ring (reduced_cost p d (parts 0) k ∷ []) {x = reduced_cost p d (parts 0) k *ℚ int (pos 0)} (search reads_ℚ) tt)
          (mul-≤ℚ (≤ℚ_of_<ℚ h) (ray.low (d.nonbasic k) within (there (p.low (d.nonbasic k)) (st.at k) low)))

      below : reduced_cost p d (parts 0) k <ℚ int (pos 0) → int (pos 0) ≤ℚ reduced_cost p d (parts 0) k *ℚ x (d.nonbasic k)
      below h =
          let high : Standing p (d.nonbasic k) High (st.at k) = subst (λ s. Standing p (d.nonbasic k) s (st.at k)) ((lawful_first (st.stand k) (reduced_parts p parts d k) (good.lawful.lawful k q)).1 h) (good.lawful.stands k q) in
          subst (λ t. t ≤ℚ reduced_cost p d (parts 0) k *ℚ x (d.nonbasic k)) (ring (reduced_cost p d (parts 0) k ∷ []) {x = reduced_cost p d (parts 0) k *ℚ int (pos 0)} (search reads_ℚ) tt)
          (mul-≤ℚ_nonpositive (≤ℚ_of_<ℚ h) (ray.high (d.nonbasic k) within (there (p.high (d.nonbasic k)) (st.at k) high)))

      none : reduced_cost p d (parts 0) k ≤ℚ int (pos 0) → int (pos 0) ≤ℚ reduced_cost p d (parts 0) k → int (pos 0) ≤ℚ reduced_cost p d (parts 0) k *ℚ x (d.nonbasic k)
      none h g = ≤ℚ_of_≡ (sym (ap (λ t. t *ℚ x (d.nonbasic k)) (≤ℚ_antisymm h g) ∙ ring (x (d.nonbasic k) ∷ []) (search reads_ℚ) tt))

  pub no_ray : ⊥
  no_ray =
      let is : total_cost p p.cost x ≡ sum_below p.columns (λ k. reduced_cost p d (parts 0) k *ℚ x (d.nonbasic k)) =
      sum_below-same (p.columns + p.activities) _ _ (λ v q. ap (λ t. t *ℚ x v) (sym (costs v))) ∙ value-reduced p d good.arranged x (good.table.holds x ray.solves) (parts 0) in
      let none : sum_below p.columns (λ k. int (pos 0)) ≡ int (pos 0) = sum_below-zero p.columns _ (λ k q. λ i. int (pos 0)) in
      not_both_ℚ (subst (λ t. t ≤ℚ sum_below p.columns (λ k. reduced_cost p d (parts 0) k *ℚ x (d.nonbasic k))) none (sum_below-≤ℚ p.columns (λ k. int (pos 0)) _ no_less)) (subst (λ t. t <ℚ int (pos 0)) is ray.improves)
