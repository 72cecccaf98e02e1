-- Sums over the rows whose basic variable has a cost are sums over all rows.
use Rattle.std.specs.Prelude.{◌≡◌, ◌⊎◌, ℕ, suc, ◌+◌, ◌*◌, ◌<◌, ◌≤◌, ◌^◌, [], ◌∷◌, List, length, get_or, set, ℤ, pos, ◌<ℤ◌, unsigned_abs}
use Rattle.std.proofs.Common.{refl, sym, ap, subst, ◌∙◌, ⊎_elim, inl, inr, arith, below_more}
use Rattle.std.proofs.lemmas.List.{get_or-set_same, get_or-set_other, length-set}
use Rattle.frac128.specs.Rational.{ℚ, int, ◌+ℚ◌, ◌*ℚ◌}
use Rattle.frac128.specs.RationalRing.{ring, reads_ℚ}
use Rattle.frac128.specs.Sums.{sum_below}
use Rattle.frac128.specs.LowestTerms.{quotient_of}
use Rattle.checked_sum.specs.Steps.{partial}
use Rattle.checked_sum.proofs.SumLaws.{sum_below-same}
use Rattle.table_entries.specs.WholeSteps.{IsShort, whole_number_at}
use Rattle.basic_solution.specs.Held.{Held, IsSided, table, variables}
use Rattle.basic_solution.specs.Numbers.{CostsFit}
use Rattle.basic_solution.specs.RowTotals.{IsSmallNumber, HasSmallTerm, IsCostTotal}
use Rattle.basic_solution.specs.Priced.{ArePricedTo, row_cost}
use Rattle.basic_solution.proofs.PointLemmas.{without_cost}
use Rattle.basic_solution.proofs.ReadLemmas.{none_small}
use Rattle.basic_solution.proofs.RowTotalLemmas.{place_cost, costs_fit, total_of_rows}

-- ---- one row more

pub priced_none : (s : Held) (rows : List ℕ) (numbers : List ℤ) → ArePricedTo s 0 rows numbers 0
priced_none s rows numbers = record {
  few = omega arith;
  size = omega arith;
  numbers_size = omega arith;
  within = λ j q. absurd (omega (arith, q));
  columns = λ j q. absurd (omega (arith, q));
  small = λ j q. absurd (omega (arith, q));
  costs = λ j q. absurd (omega (arith, q));
  others = λ i q. absurd (omega (arith, q));
  sums = λ f. refl;
}

longer : (v : ℕ) → v + 1 ≡ suc v
longer v = omega arith

-- the first r terms
abbrev sum_to : Held → (ℕ → ℚ) → ℕ → ℚ
sum_to s f r = sum_below r (λ i. row_cost s i *ℚ f i)

-- one whose variable has no cost
pub priced_skip : (s : Held) (r n : ℕ) (rows : List ℕ) (numbers : List ℤ) → ArePricedTo s r rows numbers n → row_cost s r ≡ int (pos 0) → ArePricedTo s (r + 1) rows numbers n
priced_skip s r n rows numbers h none = record {
  few = let w = h.few in omega (arith, w);
  size = h.size;
  numbers_size = h.numbers_size;
  within = λ j q. let w = h.within j q in omega (arith, w);
  columns = h.columns;
  small = h.small;
  costs = h.costs;
  others = λ i q. below_more (λ i. (row_cost s i ≡ int (pos 0)) ⊎ ((j : ℕ) × ((j < n) × (get_or rows j 0 ≡ i)))) r h.others (inl none) i q;
  sums = λ f. ap (sum_to s f) (longer r) ∙ ap (λ z. sum_to s f r +ℚ z *ℚ f r) none
      ∙ ring (sum_to s f r ∷ f r ∷ []) {y = sum_to s f r} (search reads_ℚ) tt ∙ h.sums f;
}

-- one whose variable has a cost
module _ (s : Held) (r n : ℕ) (rows : List ℕ) (numbers : List ℤ) (number : ℤ) (room : n < length rows) (numbers_room : n < length numbers) where
  abbrev rows' : List ℕ
  rows' = set rows n r

  abbrev numbers' : List ℤ
  numbers' = set numbers n number

  row_same : (j : ℕ) → j < n → get_or rows' j 0 ≡ get_or rows j 0
  row_same j q = get_or-set_other rows n j r 0 (λ e. omega (arith, e, q))

  row_here : get_or rows' n 0 ≡ r
  row_here = get_or-set_same rows n r 0 room

  number_same : (j : ℕ) → j < n → whole_number_at numbers' j ≡ whole_number_at numbers j
  number_same j q = get_or-set_other numbers n j number (pos 0) (λ e. omega (arith, e, q))

  number_here : whole_number_at numbers' n ≡ number
  number_here = get_or-set_same numbers n number (pos 0) numbers_room

  abbrev listed : List ℕ → (ℕ → ℚ) → ℕ → ℚ
  listed xs f k = sum_below k (λ j. row_cost s (get_or xs j 0) *ℚ f (get_or xs j 0))

  sum_same : (f : ℕ → ℚ) → listed rows' f n ≡ listed rows f n
  sum_same f = sum_below-same n _ _ (λ j q. ap (λ i. row_cost s i *ℚ f i) (row_same j q))

  pub priced_push : ArePricedTo s r rows numbers n → (table s).basic r < s.tableau.columns → IsSmallNumber number → row_cost s r ≡ int number → ArePricedTo s (r + 1) rows' numbers' (n + 1)
  priced_push h column small cost = record {
    few = let w = h.few in omega (arith, w);
    size = let e = length-set rows n r in omega (arith, e, room);
    numbers_size = let e = length-set numbers n number in omega (arith, e, numbers_room);
    within = below_more (λ j. get_or rows' j 0 < r + 1) n (λ j q. let w = h.within j q in let e = row_same j q in omega (arith, w, e)) (let e = row_here in omega (arith, e));
    columns = below_more (λ j. (table s).basic (get_or rows' j 0) < s.tableau.columns) n
        (λ j q. subst (λ i. (table s).basic i < s.tableau.columns) (sym (row_same j q)) (h.columns j q)) (subst (λ i. (table s).basic i < s.tableau.columns) (sym row_here) column);
    small = below_more (λ j. IsSmallNumber (whole_number_at numbers' j)) n (λ j q. subst IsSmallNumber (sym (number_same j q)) (h.small j q)) (subst IsSmallNumber (sym number_here) small);
    costs = below_more (λ j. row_cost s (get_or rows' j 0) ≡ int (whole_number_at numbers' j)) n
        (λ j q. ap (row_cost s) (row_same j q) ∙ h.costs j q ∙ ap int (sym (number_same j q)))
        (ap (row_cost s) row_here ∙ cost ∙ ap int (sym number_here));
    others = λ i q. below_more (λ i. (row_cost s i ≡ int (pos 0)) ⊎ ((j : ℕ) × ((j < n + 1) × (get_or rows' j 0 ≡ i)))) r
        (λ i q. ⊎_elim (λ none. inl none) (λ found. inr (found.0, ((let w = found.1.0 in omega (arith, w)), row_same found.0 found.1.0 ∙ found.1.1))) (h.others i q))
        (inr (n, (omega arith, row_here))) i q;
    sums = λ f. ap (sum_to s f) (longer r)
        ∙ (λ t. (h.sums f ∙ sym (sum_same f)) t +ℚ row_cost s (sym row_here t) *ℚ f (sym row_here t))
        ∙ sym (ap (listed rows' f) (longer n));
  }

-- ---- the reduced cost of a place

module _ (s : Held) (sided : IsSided s) (few : variables s < 2 ^ 32) (place : ℕ) (d : ℤ) (h : pos 0 <ℤ d) (d_short : IsShort d)
    (start : ℤ) (start_small : IsSmallNumber start) (own : place_cost s place ≡ int start)
    (rows : List ℕ) (numbers : List ℤ) (n : ℕ) (priced : ArePricedTo s s.tableau.activities rows numbers n)
    (terms : (j : ℕ) → j < n → HasSmallTerm d (row_cost s (get_or rows j 0)) ((table s).entry (get_or rows j 0) place)) where
  all_terms : (i : ℕ) → i < s.tableau.activities → HasSmallTerm d (row_cost s i) ((table s).entry i place)
  all_terms i q = ⊎_elim
      (λ none. (pos 0, (pos 0, (without_cost (row_cost s i) ((table s).entry i place) d h none, none_small))))
      (λ found. subst (λ k. HasSmallTerm d (row_cost s k) ((table s).entry k place)) found.1.1 (terms found.0 found.1.0))
      (priced.others i q)

  pub priced_fit : CostsFit s place (variables s)
  priced_fit = costs_fit s sided few place d h d_short start start_small own all_terms

  pub total_of_priced : (total : ℤ) → unsigned_abs total ≤ (n + 1) * 2 ^ 93
      → quotient_of total d ≡ partial (place_cost s place) (λ j. row_cost s (get_or rows j 0)) (λ j. (table s).entry (get_or rows j 0) place) n → IsCostTotal s place d total
  total_of_priced total size value =
      total_of_rows s sided few place d h d_short start start_small own all_terms total
      (let most = priced.few in omega (arith, most, size))
      (value ∙ ap (λ t. place_cost s place +ℚ t) (sym (priced.sums (λ i. (table s).entry i place))))
