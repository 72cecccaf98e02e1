-- Why each term of a value, or of a reduced cost, has room where its products are small: their sum over any of the variables is a number below 2 ^ 126 over the denominator.
use Rattle.std.specs.Prelude.{◌≡◌, ℕ, zero, suc, ◌+◌, ◌-◌, ◌*◌, ◌<◌, ◌≤◌, ◌^◌, [], ◌∷◌, ℤ, pos, ◌<ℤ◌, ◌+ℤ◌, ◌*ℤ◌, unsigned_abs, true, IsTrue, ◌↔◌, int_lt}
use Rattle.std.proofs.Common.{refl, sym, ap, subst, ◌∙◌, ⊎_elim, inl, arith}
use Rattle.std.proofs.Math.Nat.{mul-le-mul_right}
use Rattle.std.proofs.lemmas.Bool.{cases_lt}
use Rattle.std.proofs.lemmas.Int.{ints, unsigned_abs-mul}
use mathlib.Core.Path.{subst₂}
use Rattle.frac128.specs.Rational.{ℚ, int, ◌+ℚ◌, ◌*ℚ◌, ◌<ℚ◌}
use Rattle.frac128.specs.IntegerRing.{ring_ℤ, reads_ℤ}
use Rattle.frac128.specs.Lowest.{reduced-<ℚ}
use Rattle.frac128.specs.RationalRing.{int_is, zero-+ℚ, ring, reads_ℚ}
use Rattle.frac128.specs.LowestTerms.{quotient_of}
use Rattle.frac128.proofs.Terms.{denominator_is}
use Rattle.frac128.specs.Sums.{sum_below}
use Rattle.checked_sum.specs.Steps.{AllFit, partial}
use Rattle.checked_sum.proofs.StepLaws.{partial_none}
use Rattle.table_entries.specs.States.{basic_value}
use Rattle.table_entries.specs.Steps.{at_nonbasic, at_basic}
use Rattle.table_entries.proofs.Arranged.{sum_below-split}
use Rattle.table_entries.proofs.OneTable.{covered}
use Rattle.table_entries.proofs.SumBelowLaws.{sum_below-zero}
use Rattle.table_entries.specs.WholeSteps.{IsShort}
use Rattle.whole_sums.specs.Wholes.{IsWholeTerm, HasMargin}
use Rattle.whole_sums.proofs.SumLemmas.{term_of_nothing, start_is, total_more, fits_more_over}
use Rattle.basic_solution.specs.Held.{Held, IsSided, relaxation, state, table, variables}
use Rattle.basic_solution.specs.RowTotals.{IsSmallNumber, HasSmallTerm, AreFreeFrom, IsCostTotal}
use Rattle.basic_solution.specs.Numbers.{ValueFits, CostsFit}
use Rattle.basic_solution.specs.private.RowTotals.{IsRowTotal}
use Rattle.basic_solution.proofs.PointLemmas.{no_standing, own_standing, own_entry, no_saved, own_saved, sum_of_rows}

no_term : (a x : ℚ) (d : ℤ) → pos 0 <ℤ d → x ≡ int (pos 0) → HasSmallTerm d a x
no_term a x d h none = (pos 0, (pos 0, (term_of_nothing a x d h none, omega arith)))

pub small_product : (f n : ℤ) → IsShort f → IsSmallNumber n → unsigned_abs (f *ℤ n) ≤ 2 ^ 93
small_product f n h k =
    let left : unsigned_abs f * unsigned_abs n ≤ 2 ^ 62 * unsigned_abs n = mul-le-mul_right (unsigned_abs n) (omega arith) in
    rw unsigned_abs-mul (omega arith)

-- one product more
pub size_more : (total f n : ℤ) (k : ℕ) → IsShort f → IsSmallNumber n → unsigned_abs total ≤ k * 2 ^ 93 → unsigned_abs (total +ℤ f *ℤ n) ≤ (k + 1) * 2 ^ 93
size_more total f n k h small size = more total (f *ℤ n) k (small_product f n h small) size
  where
    more : (a b : ℤ) (k : ℕ) → unsigned_abs b ≤ 2 ^ 93 → unsigned_abs a ≤ k * 2 ^ 93 → unsigned_abs (a +ℤ b) ≤ (k + 1) * 2 ^ 93
    more a b k p q = omega (arith, ints)

pub margin_of : (total : ℤ) (k : ℕ) → k < 2 ^ 33 → unsigned_abs total ≤ k * 2 ^ 93 → HasMargin total
margin_of total k few size = omega (arith, few, size)

pub start_size : (n d : ℤ) → IsSmallNumber n → IsShort d → unsigned_abs (n *ℤ d) ≤ 2 ^ 93
start_size n d small short =
    let turned : d *ℤ n ≡ n *ℤ d = ring_ℤ (d ∷ n ∷ []) (search reads_ℤ) (search reads_ℤ) tt in
    subst (λ t. unsigned_abs t ≤ 2 ^ 93) turned (small_product d n short small)

-- the sum of the first k products from a start, over the denominator
module _ (start : ℤ) (start_small : IsSmallNumber start) (a x : ℕ → ℚ) (d : ℤ) (h : pos 0 <ℤ d) (d_short : IsShort d) where
  record AddsUp (k : ℕ) : Type 0 where
    total : ℤ
    size : unsigned_abs total ≤ (k + 1) * 2 ^ 93
    value : quotient_of total d ≡ partial (int start) a x k
    fits : AllFit (int start) a x k

  adds_none : AddsUp 0
  adds_none = record {
    total = start *ℤ d;
    size = let size = start_size start d start_small d_short in omega (arith, size);
    value = start_is start d h ∙ partial_none (int start) a x;
    fits = λ j below. absurd (omega arith);
  }

  adds_more : (k : ℕ) → k + 1 < 2 ^ 32 → AddsUp k → (f n : ℤ) → IsWholeTerm d (a k) (x k) f n → IsSmallNumber n → AddsUp (k + 1)
  adds_more k few before f n term small =
      let next = before.total +ℤ f *ℤ n in
      let size : unsigned_abs next ≤ (k + 1 + 1) * 2 ^ 93 = size_more before.total f n (k + 1) term.factor_short small before.size in
      let margin : HasMargin before.total = margin_of before.total (k + 1) (omega (arith, few)) before.size in
      let next_margin : HasMargin next = margin_of next (k + 1 + 1) (omega (arith, few)) size in
      record {
        total = next;
        size = size;
        value = total_more (int start) a x k d before.total (record { positive = h; short = d_short }) margin f n term next refl next_margin before.value;
        fits = fits_more_over (int start) a x k d before.total (record { positive = h; short = d_short }) margin f n term next refl next_margin before.value before.fits;
      }

  adds_up : (k : ℕ) → k < 2 ^ 32 → ((j : ℕ) → j < k → HasSmallTerm d (a j) (x j)) → AddsUp k
  adds_up zero few terms = adds_none
  adds_up (suc k) few terms =
      let here = terms k (omega arith) in
      let longer : k + 1 ≡ suc k = omega arith in
      subst AddsUp longer (adds_more k (omega (arith, few)) (adds_up k (omega (arith, few)) (λ j q. terms j (omega (arith, q)))) here.0 here.1.0 here.1.1.0 here.1.1.1)

  pub all_fit : (k : ℕ) → k < 2 ^ 32 → ((j : ℕ) → j < k → HasSmallTerm d (a j) (x j)) → AllFit (int start) a x k
  all_fit k few terms = (adds_up k few terms).fits

-- of the terms by variable each is that of a place, or makes no step
module _ (s : Held) (sided : IsSided s) (few : variables s < 2 ^ 32) (row : ℕ) (d : ℤ) (h : pos 0 <ℤ d) (d_short : IsShort d)
    (terms : (k : ℕ) → k < s.tableau.columns → HasSmallTerm d ((table s).entry row k) ((state s).at k)) where
  by_variable : (v : ℕ) → v < variables s → HasSmallTerm d (at_nonbasic (relaxation s) (table s) ((table s).entry row) v) (at_nonbasic (relaxation s) (table s) (state s).at v)
  by_variable v q =
      ⊎_elim
      (λ found. no_term _ _ d h (no_standing s sided v found.0 found.1 (sym found.2)))
      (λ found. subst₂ (HasSmallTerm d) (sym (own_entry s sided row v found.0 found.1 (sym found.2))) (sym (own_standing s sided v found.0 found.1 (sym found.2))) (terms found.0 found.1))
      (covered (relaxation s) (table s) sided.table.arranged v q)

  -- the sizes alone give room
  pub value_fits : ValueFits s row (variables s)
  value_fits = all_fit (pos 0) (omega arith) (at_nonbasic (relaxation s) (table s) ((table s).entry row)) (at_nonbasic (relaxation s) (table s) (state s).at) d h d_short (variables s) few by_variable

  pub total_of_row : (total : ℤ) → unsigned_abs total ≤ s.tableau.columns * 2 ^ 93 → quotient_of total d ≡ partial (int (pos 0)) ((table s).entry row) (state s).at s.tableau.columns → IsRowTotal s row d total
  total_of_row total size value = record {
    margin = margin_of total s.tableau.columns (omega (arith, few)) size;
    fits = value_fits;
    value = value ∙ zero-+ℚ (basic_value (relaxation s) (state s) row);
  }

-- ---- a reduced cost likewise, from the cost of its place: behind the last variable that has a cost no term makes a step

abbrev pub place_cost : Held → ℕ → ℚ
place_cost s place = (relaxation s).cost ((table s).nonbasic place)

-- the entry of a variable at the place, 0 where it is not basic
abbrev pub saved : Held → ℕ → ℕ → ℚ
saved s place v = at_basic (relaxation s) (table s) (λ i. (table s).entry i place) v

module _ (start : ℚ) (a x : ℕ → ℚ) (end : ℕ) (none : (v : ℕ) → end ≤ v → a v ≡ int (pos 0)) where
  free_fit : (n : ℕ) → AllFit start a x end → AllFit start a x n
  free_fit n h k w = ⊎_elim (λ q. h k q) (λ q. inl (none k q)) (cases_lt k end)

  nothing_more : (m : ℕ) → sum_below (end + m) (λ j. a j *ℚ x j) ≡ sum_below end (λ j. a j *ℚ x j)
  nothing_more m =
      sum_below-split end m (λ j. a j *ℚ x j)
      ∙ ap (λ t. sum_below end (λ j. a j *ℚ x j) +ℚ t) (sum_below-zero m (λ i. a (end + i) *ℚ x (end + i))
      (λ i w. ap (λ t. t *ℚ x (end + i)) (none (end + i) (omega arith)) ∙ ring (x (end + i) ∷ []) {y = int (pos 0)} (search reads_ℚ) tt))
      ∙ ring (sum_below end (λ j. a j *ℚ x j) ∷ []) {y = sum_below end (λ j. a j *ℚ x j)} (search reads_ℚ) tt

  pub free_value : (m : ℕ) → partial start a x end ≡ partial start a x (end + m)
  free_value m = ap (λ t. start +ℚ t) (sym (nothing_more m))

module _ (s : Held) (sided : IsSided s) (few : variables s < 2 ^ 32) (place : ℕ) (d : ℤ) (h : pos 0 <ℤ d) (d_short : IsShort d)
    (start : ℤ) (start_small : IsSmallNumber start) (own : place_cost s place ≡ int start) (end : ℕ) (within : end ≤ variables s) (free : AreFreeFrom s.cost end)
    (terms : (v : ℕ) → v < end → HasSmallTerm d ((relaxation s).cost v) (saved s place v)) where
  pub total_of_place : (total : ℤ) → unsigned_abs total ≤ (end + 1) * 2 ^ 93 → quotient_of total d ≡ partial (place_cost s place) (relaxation s).cost (saved s place) end → IsCostTotal s place d total
  total_of_place total size value =
      let behind : end + (variables s - end) ≡ variables s = omega (arith, within) in
      record {
        margin = margin_of total (end + 1) (omega (arith, few, within)) size;
        fits = subst (λ z. AllFit z (relaxation s).cost (saved s place) (variables s)) (sym own)
            (free_fit (int start) (relaxation s).cost (saved s place) end free (variables s) (all_fit start start_small (relaxation s).cost (saved s place) d h d_short end (omega (arith, few, within)) terms));
        value = value ∙ free_value (place_cost s place) (relaxation s).cost (saved s place) end free (variables s - end)
            ∙ ap (partial (place_cost s place) (relaxation s).cost (saved s place)) behind
            ∙ ap (λ t. place_cost s place +ℚ t) (sum_of_rows s sided (relaxation s).cost (λ i. (table s).entry i place));
      }

-- ---- the same by rows

-- the cost of the basic variable of a row
abbrev pub basic_cost : Held → ℕ → ℚ
basic_cost s i = (relaxation s).cost ((table s).basic i)

module _ (s : Held) (sided : IsSided s) (few : variables s < 2 ^ 32) (place : ℕ) (d : ℤ) (h : pos 0 <ℤ d) (d_short : IsShort d)
    (start : ℤ) (start_small : IsSmallNumber start) (own : place_cost s place ≡ int start)
    (terms : (i : ℕ) → i < s.tableau.activities → HasSmallTerm d (basic_cost s i) ((table s).entry i place)) where
  cost_by_variable : (v : ℕ) → v < variables s → HasSmallTerm d ((relaxation s).cost v) (saved s place v)
  cost_by_variable v q =
      ⊎_elim
      (λ found. subst₂ (HasSmallTerm d) (ap (relaxation s).cost (sym found.2)) (sym (own_saved s sided place v found.0 found.1 (sym found.2))) (terms found.0 found.1))
      (λ found. no_term _ _ d h (no_saved s sided place v found.0 found.1 (sym found.2)))
      (covered (relaxation s) (table s) sided.table.arranged v q)

  -- the sizes alone give room
  pub costs_fit : CostsFit s place (variables s)
  costs_fit = subst (λ z. AllFit z (relaxation s).cost (saved s place) (variables s)) (sym own) (all_fit start start_small (relaxation s).cost (saved s place) d h d_short (variables s) few cost_by_variable)

  pub total_of_rows : (total : ℤ) → unsigned_abs total ≤ (s.tableau.activities + 1) * 2 ^ 93 → quotient_of total d ≡ partial (place_cost s place) (basic_cost s) (λ i. (table s).entry i place) s.tableau.activities → IsCostTotal s place d total
  total_of_rows total size value = record {
    margin = margin_of total (s.tableau.activities + 1) (omega (arith, few)) size;
    fits = costs_fit;
    value = value;
  }

-- ---- a total over a denominator beside a whole number

module _ (t d n : ℤ) (b : ℚ) (h : pos 0 <ℤ d) (is : b ≡ int n) where
  over_one : b ≡ quotient_of n (pos 1)
  over_one = is ∙ int_is n

  by_one : (a : ℤ) → a *ℤ pos 1 ≡ a
  by_one a = ring_ℤ (a ∷ []) (search reads_ℤ) (search reads_ℤ) tt

  pub below_whole : (t <ℤ (n *ℤ d)) ↔ (quotient_of t d <ℚ b)
  below_whole =
      subst₂ (λ x y. (x <ℤ (n *ℤ y)) ↔ (quotient_of t d <ℚ b)) (by_one t) (denominator_is d h)
      (subst (λ z. ((t *ℤ pos 1) <ℤ (n *ℤ pos (suc (unsigned_abs d - 1)))) ↔ (quotient_of t d <ℚ z)) (sym over_one) (reduced-<ℚ t n (unsigned_abs d - 1) 0))

  pub above_whole : ((n *ℤ d) <ℤ t) ↔ (b <ℚ quotient_of t d)
  above_whole =
      subst₂ (λ x y. ((n *ℤ y) <ℤ x) ↔ (b <ℚ quotient_of t d)) (by_one t) (denominator_is d h)
      (subst (λ z. ((n *ℤ pos (suc (unsigned_abs d - 1))) <ℤ (t *ℤ pos 1)) ↔ (z <ℚ quotient_of t d)) (sym over_one) (reduced-<ℚ n t 0 (unsigned_abs d - 1)))

int_lt-decides : (m n : ℤ) → IsTrue (int_lt m n) ↔ (m <ℤ n)
int_lt-decides m n = ((λ e. omega (arith, ints)), (λ h. let e : true ≡ int_lt m n = omega (arith, ints) in sym e))

-- numbers that were read as t' and l
module _ (t d n t' l : ℤ) (b : ℚ) (h : pos 0 <ℤ d) (is : b ≡ int n) (t_is : t' ≡ t) (l_is : l ≡ n *ℤ d) where
  pub below_decided : IsTrue (int_lt t' l) ↔ (quotient_of t d <ℚ b)
  below_decided = (
    (λ e. (below_whole t d n b h is).0 (subst₂ (λ x y. x <ℤ y) t_is l_is ((int_lt-decides t' l).0 e))),
    (λ k. (int_lt-decides t' l).1 (subst₂ (λ x y. x <ℤ y) (sym t_is) (sym l_is) ((below_whole t d n b h is).1 k))),
  )

  pub above_decided : IsTrue (int_lt l t') ↔ (b <ℚ quotient_of t d)
  above_decided = (
    (λ e. (above_whole t d n b h is).0 (subst₂ (λ x y. x <ℤ y) l_is t_is ((int_lt-decides l t').0 e))),
    (λ k. (int_lt-decides l t').1 (subst₂ (λ x y. x <ℤ y) (sym l_is) (sym t_is) ((above_whole t d n b h is).1 k))),
  )
