-- Sums over all variables at a state are sums over rows or places.
use Rattle.std.specs.Prelude.{◌≡◌, ℕ, ℤ, ◌<◌, ◌<ℤ◌, [], ◌∷◌, pos, Result, Ok, Err, if◌then◌else◌, ◌==◌}
use Rattle.std.proofs.Common.{refl, sym, ap, ap₂, subst, ◌∙◌}
use Rattle.frac128.specs.Rational.{ℚ, int, ◌+ℚ◌, ◌*ℚ◌, neg_ℚ}
use Rattle.frac128.specs.RationalRing.{ring, reads_ℚ, *ℚ_comm}
use Rattle.frac128.specs.Sums.{sum_below}
use Rattle.checked_sum.specs.Steps.{AllFit, IsFirstWide, IsCheckedSum}
use Rattle.checked_sum.proofs.SumLaws.{sum_below-same}
use Rattle.table_entries.specs.Relaxation.{IsArranged, reduced_cost, point, multipliers, row_weights}
use Rattle.table_entries.specs.States.{basic_value}
use Rattle.table_entries.specs.Steps.{nothing, at_nonbasic, at_basic}
use Rattle.table_entries.proofs.SumBelowLaws.{sum_below-zero, if_same, if_other}
use Rattle.table_entries.proofs.Arranged.{assigned-basic, assigned-nonbasic}
use Rattle.whole_sums.specs.Wholes.{IsWholeTerm}
use Rattle.whole_sums.proofs.SumLemmas.{term_of_nothing}
use Rattle.basic_solution.specs.Held.{Held, IsSided, relaxation, state, table, variables}
use Rattle.basic_solution.specs.Numbers.{ValueFits, CostsFit, IsValueNamed, IsCostNamed, IsNumberAnswer, IsMultiplierAnswer}
use Rattle.basic_solution.specs.private.Numbers.{IsBasicValueAnswer, IsReducedCostAnswer}
use Rattle.lp_model.specs.declared.types.WideStep.{WideStep}

-- a variable without a cost makes no step
pub without_cost : (a x : ℚ) (d : ℤ) → pos 0 <ℤ d → a ≡ int (pos 0) → IsWholeTerm d a x (pos 0) (pos 0)
without_cost a x d h none =
    let turned = term_of_nothing x a d h none in
    record { factor_short = turned.factor_short; number_short = turned.number_short; product = *ℚ_comm a x ∙ turned.product }

module _ (s : Held) (sided : IsSided s) where
  abbrev arranged : IsArranged (relaxation s) (table s)
  arranged = sided.table.arranged

  pub none_at_row : (c : ℕ → ℚ) (v row : ℕ) → row < s.tableau.activities → (table s).basic row ≡ v → at_nonbasic (relaxation s) (table s) c v ≡ int (pos 0)
  none_at_row c v row within e = ap (at_nonbasic (relaxation s) (table s) c) (sym e) ∙ assigned-basic (relaxation s) (table s) arranged nothing c row within

  pub own_at_place : (c : ℕ → ℚ) (v place : ℕ) → place < s.tableau.columns → (table s).nonbasic place ≡ v → at_nonbasic (relaxation s) (table s) c v ≡ c place
  own_at_place c v place within e = ap (at_nonbasic (relaxation s) (table s) c) (sym e) ∙ assigned-nonbasic (relaxation s) (table s) arranged nothing c place within

  pub own_standing : (v place : ℕ) → place < s.tableau.columns → (table s).nonbasic place ≡ v → at_nonbasic (relaxation s) (table s) (state s).at v ≡ (state s).at place
  own_standing v place within e = own_at_place (state s).at v place within e

  pub no_standing : (v row : ℕ) → row < s.tableau.activities → (table s).basic row ≡ v → at_nonbasic (relaxation s) (table s) (state s).at v ≡ int (pos 0)
  no_standing v row within e = none_at_row (state s).at v row within e

  pub own_entry : (row v place : ℕ) → place < s.tableau.columns → (table s).nonbasic place ≡ v → at_nonbasic (relaxation s) (table s) ((table s).entry row) v ≡ (table s).entry row place
  own_entry row v place within e = own_at_place ((table s).entry row) v place within e

  pub no_entry : (row v i : ℕ) → i < s.tableau.activities → (table s).basic i ≡ v → at_nonbasic (relaxation s) (table s) ((table s).entry row) v ≡ int (pos 0)
  no_entry row v i within e = none_at_row ((table s).entry row) v i within e

  pub own_saved : (place v row : ℕ) → row < s.tableau.activities → (table s).basic row ≡ v → at_basic (relaxation s) (table s) (λ i. (table s).entry i place) v ≡ (table s).entry row place
  own_saved place v row within e = ap (at_basic (relaxation s) (table s) (λ i. (table s).entry i place)) (sym e) ∙ assigned-basic (relaxation s) (table s) arranged (λ i. (table s).entry i place) nothing row within

  pub no_saved : (place v k : ℕ) → k < s.tableau.columns → (table s).nonbasic k ≡ v → at_basic (relaxation s) (table s) (λ i. (table s).entry i place) v ≡ int (pos 0)
  no_saved place v k within e = ap (at_basic (relaxation s) (table s) (λ i. (table s).entry i place)) (sym e) ∙ assigned-nonbasic (relaxation s) (table s) arranged (λ i. (table s).entry i place) nothing k within

  pub own_at_row : (b : ℕ → ℚ) (v row : ℕ) → row < s.tableau.activities → (table s).basic row ≡ v → at_basic (relaxation s) (table s) b v ≡ b row
  own_at_row b v row within e = ap (at_basic (relaxation s) (table s) b) (sym e) ∙ assigned-basic (relaxation s) (table s) arranged b nothing row within

  pub none_at_place : (b : ℕ → ℚ) (v place : ℕ) → place < s.tableau.columns → (table s).nonbasic place ≡ v → at_basic (relaxation s) (table s) b v ≡ int (pos 0)
  none_at_place b v place within e = ap (at_basic (relaxation s) (table s) b) (sym e) ∙ assigned-nonbasic (relaxation s) (table s) arranged b nothing place within

  -- a sum over all variables of terms that are there at the nonbasic ones alone
  sum_of_places : (f g : ℕ → ℚ) → sum_below (variables s) (λ v. at_nonbasic (relaxation s) (table s) f v *ℚ at_nonbasic (relaxation s) (table s) g v) ≡ sum_below s.tableau.columns (λ k. f k *ℚ g k)
  sum_of_places f g =
      arranged.sums (λ v. at_nonbasic (relaxation s) (table s) f v *ℚ at_nonbasic (relaxation s) (table s) g v)
      ∙ ap₂ ◌+ℚ◌
      (sum_below-zero s.tableau.activities _ (λ i q. ap₂ ◌*ℚ◌ (none_at_row f ((table s).basic i) i q refl) (none_at_row g ((table s).basic i) i q refl) ∙ ring [] (search reads_ℚ) tt))
      (sum_below-same s.tableau.columns _ (λ k. f k *ℚ g k) (λ k q. ap₂ ◌*ℚ◌ (own_at_place f ((table s).nonbasic k) k q refl) (own_at_place g ((table s).nonbasic k) k q refl)))
      ∙ ring (sum_below s.tableau.columns (λ k. f k *ℚ g k) ∷ []) (search reads_ℚ) tt

  -- and at the basic ones alone
  pub sum_of_rows : (c b : ℕ → ℚ) → sum_below (variables s) (λ v. c v *ℚ at_basic (relaxation s) (table s) b v) ≡ sum_below s.tableau.activities (λ i. c ((table s).basic i) *ℚ b i)
  sum_of_rows c b =
      arranged.sums (λ v. c v *ℚ at_basic (relaxation s) (table s) b v)
      ∙ ap₂ ◌+ℚ◌
      (sum_below-same s.tableau.activities _ (λ i. c ((table s).basic i) *ℚ b i) (λ i q. ap (λ t. c ((table s).basic i) *ℚ t) (own_at_row b ((table s).basic i) i q refl)))
      (sum_below-zero s.tableau.columns _ (λ k q. ap (λ t. c ((table s).nonbasic k) *ℚ t) (none_at_place b ((table s).nonbasic k) k q refl) ∙ ring (c ((table s).nonbasic k) ∷ []) (search reads_ℚ) tt))
      ∙ ring (sum_below s.tableau.activities (λ i. c ((table s).basic i) *ℚ b i) ∷ []) (search reads_ℚ) tt

  -- what the sum of a basic variable's value answers
  pub value_answer : (row : ℕ) (start x : ℚ) → start ≡ int (pos 0) → IsCheckedSum {P = ℕ} start (at_nonbasic (relaxation s) (table s) ((table s).entry row)) (at_nonbasic (relaxation s) (table s) (state s).at) (variables s) (λ k. k) (Ok x)
      → IsBasicValueAnswer s row (Ok x)
  value_answer row start x none h = (
    subst (λ z. AllFit z (at_nonbasic (relaxation s) (table s) ((table s).entry row)) (at_nonbasic (relaxation s) (table s) (state s).at) (variables s)) none h.0,
    h.1 ∙ ap₂ ◌+ℚ◌ none (sum_of_places ((table s).entry row) (state s).at) ∙ ring (basic_value (relaxation s) (state s) row ∷ []) (search reads_ℚ) tt,
  )

  pub value_refusal : (row b k e : ℕ) (start : ℚ) → start ≡ int (pos 0) → row < s.tableau.activities → b ≡ (table s).basic row → k ≡ e
      → IsCheckedSum {P = ℕ} start (at_nonbasic (relaxation s) (table s) ((table s).entry row)) (at_nonbasic (relaxation s) (table s) (state s).at) (variables s) (λ k. k) (Err e) → IsValueNamed s row b k
  value_refusal row b k e start none within b_is k_is h = record {
    within = within;
    basic = b_is;
    first = subst (λ z. IsFirstWide z (at_nonbasic (relaxation s) (table s) ((table s).entry row)) (at_nonbasic (relaxation s) (table s) (state s).at) (variables s) k) none
        (subst (IsFirstWide start (at_nonbasic (relaxation s) (table s) ((table s).entry row)) (at_nonbasic (relaxation s) (table s) (state s).at) (variables s)) (sym (k_is ∙ h.1.1)) h.1.0);
  }

  -- what the sum of a reduced cost answers
  pub cost_answer : (place : ℕ) (start x : ℚ) → start ≡ (relaxation s).cost ((table s).nonbasic place) → IsCheckedSum {P = ℕ} start (relaxation s).cost (at_basic (relaxation s) (table s) (λ i. (table s).entry i place)) (variables s) (λ k. k) (Ok x)
      → IsReducedCostAnswer s place (Ok x)
  cost_answer place start x own h = (
    subst (λ z. AllFit z (relaxation s).cost (at_basic (relaxation s) (table s) (λ i. (table s).entry i place)) (variables s)) own h.0,
    h.1 ∙ ap₂ ◌+ℚ◌ own (sum_of_rows (relaxation s).cost (λ i. (table s).entry i place)),
  )

  pub cost_refusal : (place k b e : ℕ) (start : ℚ) → start ≡ (relaxation s).cost ((table s).nonbasic place) → place < s.tableau.columns → k ≡ (table s).nonbasic place → b ≡ e
      → IsCheckedSum {P = ℕ} start (relaxation s).cost (at_basic (relaxation s) (table s) (λ i. (table s).entry i place)) (variables s) (λ k. k) (Err e) → IsCostNamed s place k b
  cost_refusal place k b e start own within k_is b_is h = record {
    within = within;
    nonbasic = k_is;
    first = subst (λ z. IsFirstWide z (relaxation s).cost (at_basic (relaxation s) (table s) (λ i. (table s).entry i place)) (variables s) b) own
        (subst (IsFirstWide start (relaxation s).cost (at_basic (relaxation s) (table s) (λ i. (table s).entry i place)) (variables s)) (sym (b_is ∙ h.1.1)) h.1.0);
  }

  -- ---- the point and the multipliers, variable by variable

  pub point_basic : (v row : ℕ) → row < s.tableau.activities → (table s).basic row ≡ v → basic_value (relaxation s) (state s) row ≡ point (relaxation s) (table s) (state s).at v
  point_basic v row within e = sym (ap (point (relaxation s) (table s) (state s).at) (sym e) ∙ assigned-basic (relaxation s) (table s) arranged _ (state s).at row within)

  pub point_nonbasic : (v k : ℕ) → k < s.tableau.columns → (table s).nonbasic k ≡ v → (state s).at k ≡ point (relaxation s) (table s) (state s).at v
  point_nonbasic v k within e = sym (ap (point (relaxation s) (table s) (state s).at) (sym e) ∙ assigned-nonbasic (relaxation s) (table s) arranged _ (state s).at k within)

  pub multiplier_basic : (v row : ℕ) → row < s.tableau.activities → (table s).basic row ≡ v → int (pos 0) ≡ multipliers (relaxation s) (table s) (relaxation s).cost v
  multiplier_basic v row within e =
      sym (ap (multipliers (relaxation s) (table s) (relaxation s).cost) (sym e) ∙ assigned-basic (relaxation s) (table s) arranged _ (reduced_cost (relaxation s) (table s) (relaxation s).cost) row within)

  pub multiplier_nonbasic : (v k : ℕ) → k < s.tableau.columns → (table s).nonbasic k ≡ v → reduced_cost (relaxation s) (table s) (relaxation s).cost k ≡ multipliers (relaxation s) (table s) (relaxation s).cost v
  multiplier_nonbasic v k within e =
      sym (ap (multipliers (relaxation s) (table s) (relaxation s).cost) (sym e) ∙ assigned-nonbasic (relaxation s) (table s) arranged _ (reduced_cost (relaxation s) (table s) (relaxation s).cost) k within)

  -- a basic variable has the value of its row, and another one the number at which it stands
  pub number_basic : (v row : ℕ) → row < s.tableau.activities → (table s).basic row ≡ v → (r : Result ℚ WideStep) → IsBasicValueAnswer s row r → IsNumberAnswer s v r
  number_basic v row within e (Ok x) h = ((λ i q f. subst (λ j. ValueFits s j (variables s)) (arranged.basic_once row i within q (e ∙ sym f)) h.0), h.1 ∙ point_basic v row within e)
  number_basic v row within e (Err step) h = (row, (e, h))

  pub number_nonbasic : (v k : ℕ) → k < s.tableau.columns → (table s).nonbasic k ≡ v → (x : ℚ) → x ≡ (state s).at k → IsNumberAnswer s v (Ok x)
  number_nonbasic v k within e x is = ((λ i q f. absurd (arranged.apart i k q within (f ∙ sym e))), is ∙ point_nonbasic v k within e)

  -- a basic variable has the multiplier 0, and another one its reduced cost
  pub multiplied_basic : (v row : ℕ) → row < s.tableau.activities → (table s).basic row ≡ v → (x : ℚ) → x ≡ int (pos 0) → IsMultiplierAnswer s v (Ok x)
  multiplied_basic v row within e x is = ((λ k q f. absurd (arranged.apart row k within q (e ∙ sym f))), is ∙ multiplier_basic v row within e)

  pub multiplied_nonbasic : (v k : ℕ) → k < s.tableau.columns → (table s).nonbasic k ≡ v → (r : Result ℚ WideStep) → IsReducedCostAnswer s k r → IsMultiplierAnswer s v r
  multiplied_nonbasic v k within e (Ok x) h = ((λ l q f. subst (λ j. CostsFit s j (variables s)) (arranged.nonbasic_once k l within q (e ∙ sym f)) h.0), h.1 ∙ multiplier_nonbasic v k within e)
  multiplied_nonbasic v k within e (Err step) h = (k, (e, h))

  pub weight_leaving : (r v i : ℕ) → i ≡ r → i < s.tableau.activities → (table s).basic i ≡ v → int (pos 1) ≡ row_weights (relaxation s) (table s) r v
  weight_leaving r v i same within e =
      sym (ap (row_weights (relaxation s) (table s) r) (sym e) ∙ assigned-basic (relaxation s) (table s) arranged _ (λ k. neg_ℚ ((table s).entry r k)) i within
      ∙ ap (λ j. if j == r then int (pos 1) else int (pos 0)) same ∙ if_same r (int (pos 1)) (int (pos 0)))

  pub weight_basic : (r v i : ℕ) → ¬ (i ≡ r) → i < s.tableau.activities → (table s).basic i ≡ v → int (pos 0) ≡ row_weights (relaxation s) (table s) r v
  weight_basic r v i other within e =
      sym (ap (row_weights (relaxation s) (table s) r) (sym e) ∙ assigned-basic (relaxation s) (table s) arranged _ (λ k. neg_ℚ ((table s).entry r k)) i within ∙ if_other i r (int (pos 1)) (int (pos 0)) other)

  pub weight_nonbasic : (r v k : ℕ) → k < s.tableau.columns → (table s).nonbasic k ≡ v → neg_ℚ ((table s).entry r k) ≡ row_weights (relaxation s) (table s) r v
  weight_nonbasic r v k within e = sym (ap (row_weights (relaxation s) (table s) r) (sym e) ∙ assigned-nonbasic (relaxation s) (table s) arranged _ (λ l. neg_ℚ ((table s).entry r l)) k within)
