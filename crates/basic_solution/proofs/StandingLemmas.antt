-- Sums over the variables that stand at other numbers than 0 are sums over all variables.
use Rattle.std.specs.Prelude.{◌≡◌, ◌⊎◌, ℕ, suc, ◌+◌, ◌*◌, ◌<◌, ◌≤◌, ◌^◌, [], ◌∷◌, List, length, get_or, set, ℤ, pos, ◌<ℤ◌, unsigned_abs, Ok}
use Rattle.std.proofs.Common.{refl, sym, ap, subst, ◌∙◌, ⊎_elim, inl, inr, arith, below_more}
use Rattle.std.proofs.lemmas.Bool.{cases_lt, cases_eq}
use Rattle.std.proofs.lemmas.List.{get_or-set_same, get_or-set_other, length-set}
use Rattle.frac128.specs.Rational.{ℚ, int, ◌+ℚ◌, ◌*ℚ◌}
use Rattle.frac128.specs.RationalRing.{ring, reads_ℚ}
use Rattle.frac128.specs.LowestTerms.{quotient_of}
use Rattle.checked_sum.specs.Steps.{StepFits, StepFitsAt, AllFit, IsFirstWide, partial}
use Rattle.checked_sum.proofs.SumLaws.{sum_below-same}
use Rattle.table_entries.specs.Steps.{at_nonbasic}
use Rattle.table_entries.specs.WholeSteps.{IsShort, whole_number_at}
use Rattle.basic_solution.specs.Held.{Held, IsSided, relaxation, state, table, variables}
use Rattle.basic_solution.specs.RowTotals.{IsSmallNumber, HasSmallTerm}
use Rattle.basic_solution.specs.Standing.{AreStandingTo, AreStandingNumbers, listed_number, listed_sum, listed_variable, sum_to}
use Rattle.basic_solution.specs.private.Numbers.{IsBasicValueAnswer}
use Rattle.basic_solution.specs.private.RowTotals.{IsRowTotal}
use Rattle.basic_solution.proofs.PointLemmas.{own_at_place, own_entry, own_standing, value_answer}
use Rattle.basic_solution.proofs.RowTotalLemmas.{all_fit, margin_of}

-- ---- one variable more

pub standing_none : (s : Held) (places : List ℕ) → AreStandingTo s 0 places 0
standing_none s places = record {
  few = omega arith;
  size = omega arith;
  within = λ j q. absurd (omega (arith, q));
  below = λ j q. absurd (omega (arith, q));
  rising = λ i j less q. absurd (omega (arith, q));
  others = λ u q. absurd (omega (arith, q));
  earlier = λ f j q. absurd (omega (arith, q));
  sums = λ f. refl;
}

pub numbers_none : (s : Held) (places : List ℕ) (numbers : List ℤ) → AreStandingNumbers s places numbers 0
numbers_none s places numbers = record { size = omega arith; short = λ j q. absurd (omega (arith, q)); stands = λ j q. absurd (omega (arith, q)) }

longer : (v : ℕ) → v + 1 ≡ suc v
longer v = omega arith

-- one that stands at 0, or is basic
pub standing_skip : (s : Held) (v n : ℕ) (places : List ℕ) → AreStandingTo s v places n → at_nonbasic (relaxation s) (table s) (state s).at v ≡ int (pos 0) → AreStandingTo s (v + 1) places n
standing_skip s v n places h none = record {
  few = let w = h.few in omega (arith, w);
  size = h.size;
  within = h.within;
  below = λ j q. let w = h.below j q in omega (arith, w);
  rising = h.rising;
  others = λ u q. below_more (λ u. (at_nonbasic (relaxation s) (table s) (state s).at u ≡ int (pos 0)) ⊎ ((j : ℕ) × ((j < n) × (listed_variable s places j ≡ u)))) v h.others (inl none) u q;
  earlier = h.earlier;
  sums = λ f. ap (sum_to s f) (longer v) ∙ ap (λ z. sum_to s f v +ℚ at_nonbasic (relaxation s) (table s) f v *ℚ z) none
      ∙ ring (sum_to s f v ∷ at_nonbasic (relaxation s) (table s) f v ∷ []) {y = sum_to s f v} (search reads_ℚ) tt ∙ h.sums f;
}

-- one that stands at another number
module _ (s : Held) (place n : ℕ) (places : List ℕ) (room : n < length places) where
  abbrev places' : List ℕ
  places' = set places n place

  place_same : (j : ℕ) → j < n → get_or places' j 0 ≡ get_or places j 0
  place_same j q = get_or-set_other places n j place 0 (λ e. omega (arith, e, q))

  place_here : get_or places' n 0 ≡ place
  place_here = get_or-set_same places n place 0 room

  variable_same : (j : ℕ) → j < n → listed_variable s places' j ≡ listed_variable s places j
  variable_same j q = ap (table s).nonbasic (place_same j q)

  sum_same : (f : ℕ → ℚ) (j : ℕ) → j ≤ n → listed_sum s places' f j ≡ listed_sum s places f j
  sum_same f j within = sum_below-same j _ _ (λ i q. λ t. f (place_same i (omega (arith, q, within)) t) *ℚ (state s).at (place_same i (omega (arith, q, within)) t))

  pub standing_push : (v : ℕ) → IsSided s → AreStandingTo s v places n → place < s.tableau.columns → (table s).nonbasic place ≡ v → AreStandingTo s (v + 1) places' (n + 1)
  standing_push v sided h place_within is =
      let variable_here : listed_variable s places' n ≡ v = ap (table s).nonbasic place_here ∙ is in
      record {
        few = let w = h.few in omega (arith, w);
        size = let e = length-set places n place in omega (arith, e, room);
        within = below_more (λ j. get_or places' j 0 < s.tableau.columns) n (λ j q. subst (λ x. x < s.tableau.columns) (sym (place_same j q)) (h.within j q)) (subst (λ x. x < s.tableau.columns) (sym place_here) place_within);
        below = below_more (λ j. listed_variable s places' j < v + 1) n (λ j q. let w = h.below j q in let e = variable_same j q in omega (arith, w, e)) (let e = variable_here in omega (arith, e));
        rising = λ i j less q. below_more (λ j. (i : ℕ) → i < j → listed_variable s places' i < listed_variable s places' j) n
            (λ j q i less. let w = h.rising i j less q in let e = variable_same i (omega (arith, less, q)) in let f = variable_same j q in omega (arith, w, e, f))
            (λ i less. let w = h.below i less in let e = variable_same i less in let f = variable_here in omega (arith, w, e, f)) j q i less;
        others = λ u q. below_more (λ u. (at_nonbasic (relaxation s) (table s) (state s).at u ≡ int (pos 0)) ⊎ ((j : ℕ) × ((j < n + 1) × (listed_variable s places' j ≡ u)))) v
            (λ u q. ⊎_elim (λ none. inl none) (λ found. inr (found.0, ((let w = found.1.0 in omega (arith, w)), variable_same found.0 found.1.0 ∙ found.1.1))) (h.others u q))
            (inr (n, (omega arith, variable_here))) u q;
        earlier = λ f j q. below_more (λ j. sum_to s f (listed_variable s places' j) ≡ listed_sum s places' f j) n
            (λ j q. ap (sum_to s f) (variable_same j q) ∙ h.earlier f j q ∙ sym (sum_same f j (omega (arith, q))))
            (ap (sum_to s f) variable_here ∙ h.sums f ∙ sym (sum_same f n (omega arith))) j q;
        sums = λ f. ap (sum_to s f) (longer v)
            ∙ (λ t. (h.sums f ∙ sym (sum_same f n (omega arith))) t +ℚ own_at_place s sided f v place place_within is t *ℚ own_standing s sided v place place_within is t)
            ∙ (λ t. listed_sum s places' f n +ℚ f (sym place_here t) *ℚ (state s).at (sym place_here t))
            ∙ sym (ap (listed_sum s places' f) (longer n));
      }

  pub numbers_push : (numbers : List ℤ) (number : ℤ) → AreStandingNumbers s places numbers n → IsShort number → (IsSmallNumber number → (state s).at place ≡ int number) → n < length numbers → AreStandingNumbers s places' (set numbers n number) (n + 1)
  numbers_push numbers number h short stands numbers_room =
      let same : (j : ℕ) → j < n → whole_number_at (set numbers n number) j ≡ whole_number_at numbers j = λ j q. get_or-set_other numbers n j number (pos 0) (λ e. omega (arith, e, q)) in
      let here : whole_number_at (set numbers n number) n ≡ number = get_or-set_same numbers n number (pos 0) numbers_room in
      record {
        size = let e = length-set numbers n number in omega (arith, e, numbers_room);
        short = below_more (λ j. IsShort (whole_number_at (set numbers n number) j)) n (λ j q. subst IsShort (sym (same j q)) (h.short j q)) (subst IsShort (sym here) short);
        stands = below_more (λ j. IsSmallNumber (whole_number_at (set numbers n number) j) → listed_number s places' j ≡ int (whole_number_at (set numbers n number) j)) n
            (λ j q small. ap (state s).at (place_same j q) ∙ h.stands j q (subst IsSmallNumber (same j q) small) ∙ ap int (sym (same j q)))
            (λ small. ap (state s).at place_here ∙ stands (subst IsSmallNumber here small) ∙ ap int (sym here));
      }

-- ---- the value of a basic variable

module _ (s : Held) (sided : IsSided s) (few : variables s < 2 ^ 32) (row : ℕ) (places : List ℕ) (n : ℕ) (h : AreStandingTo s (variables s) places n) where
  abbrev a : ℕ → ℚ
  a = at_nonbasic (relaxation s) (table s) ((table s).entry row)

  abbrev x : ℕ → ℚ
  x = at_nonbasic (relaxation s) (table s) (state s).at

  -- the factors and the numbers by the list
  abbrev pub factor : ℕ → ℚ
  factor j = (table s).entry row (get_or places j 0)

  abbrev pub number : ℕ → ℚ
  number j = listed_number s places j

  abbrev variable : ℕ → ℕ
  variable j = listed_variable s places j

  step_same : (j : ℕ) → j < n → StepFitsAt (int (pos 0)) factor number j ≡ StepFitsAt (int (pos 0)) a x (variable j)
  step_same j q =
      let total : partial (int (pos 0)) a x (variable j) ≡ partial (int (pos 0)) factor number j = ap (λ t. int (pos 0) +ℚ t) (h.earlier ((table s).entry row) j q) in
      let a_is : a (variable j) ≡ factor j = own_entry s sided row (variable j) (get_or places j 0) (h.within j q) refl in
      let x_is : x (variable j) ≡ number j = own_standing s sided (variable j) (get_or places j 0) (h.within j q) refl in
      λ t. StepFits (sym total t) (sym a_is t) (sym x_is t)

  fits_to : (v : ℕ) → v ≤ variables s → ((j : ℕ) → j < n → variable j < v → StepFitsAt (int (pos 0)) factor number j) → AllFit (int (pos 0)) a x v
  fits_to v within fits u q =
      ⊎_elim (λ none. inr (inl none))
      (λ found. subst (λ w. StepFitsAt (int (pos 0)) a x w) found.1.1 (subst (λ X. X) (step_same found.0 found.1.0) (fits found.0 found.1.0 (subst (λ w. w < v) (sym found.1.1) q))))
      (h.others u (omega (arith, q, within)))

  pub standing_answer : (value : ℚ) → AllFit (int (pos 0)) factor number n → value ≡ partial (int (pos 0)) factor number n → IsBasicValueAnswer s row (Ok value)
  standing_answer value fits is =
      value_answer s sided row (int (pos 0)) value refl
      (fits_to (variables s) (omega arith) (λ j q below. fits j q), is ∙ sym (ap (λ t. int (pos 0) +ℚ t) (h.sums ((table s).entry row))))

  pub standing_refusal : (turn : ℕ) → IsFirstWide (int (pos 0)) factor number n turn → IsFirstWide (int (pos 0)) a x (variables s) (variable turn)
  standing_refusal turn wide = record {
    within = h.below turn wide.within;
    before = fits_to (variable turn) (let w = h.below turn wide.within in omega (arith, w)) (λ j q less. wide.before j (first j q less));
    here = λ fits. wide.here (subst (λ X. X) (sym (step_same turn wide.within)) fits);
  }
    where
      first : (j : ℕ) → j < n → variable j < variable turn → j < turn
      first j q less = ⊎_elim (λ before. before)
          (λ past. ⊎_elim (λ same. absurd (let e : variable turn ≡ variable j = ap (λ i. listed_variable s places i) same in omega (arith, e, less)))
          (λ other. absurd (let w = h.rising turn j (omega (arith, past, other)) q in omega (arith, w, less))) (cases_eq turn j))
          (cases_lt j turn)

  pub standing_total_of : (d : ℤ) → pos 0 <ℤ d → IsShort d → ((j : ℕ) → j < n → HasSmallTerm d (factor j) (number j)) → (total : ℤ) → unsigned_abs total ≤ n * 2 ^ 93
      → quotient_of total d ≡ partial (int (pos 0)) factor number n → IsRowTotal s row d total
  standing_total_of d positive short terms total size value =
      let most = h.few in
      let answer = standing_answer (quotient_of total d) (all_fit (pos 0) (omega arith) factor number d positive short n (omega (arith, most, few)) terms) value in
      record { margin = margin_of total n (omega (arith, most, few)) size; fits = answer.0; value = answer.1 }
