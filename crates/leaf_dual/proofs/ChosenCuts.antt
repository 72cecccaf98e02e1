-- Cuts at chosen places of a longer list, the others of which have the weight 0: the number is the same.
-- Idea: a sum over the longer list goes from one chosen place to the next (`sum_reached`), and makes no step between
-- (`sum_skipped`).
use Rattle.std.specs.Prelude.{◌≡◌, ◌≢◌, ◌⊎◌, ℕ, zero, suc, ◌<◌, ◌≤◌, List, [], ◌∷◌, length, get_or, pos, Some, None}
use Rattle.std.proofs.Common.{refl, sym, ap, subst, ◌∙◌, inl, inr, arith}
use Rattle.std.proofs.lemmas.Bool.{cases_order, cases_eq}
use Rattle.frac128.specs.Rational.{ℚ, int, ◌+ℚ◌, ◌-ℚ◌, ◌*ℚ◌, neg_ℚ}
use Rattle.frac128.specs.RationalRing.{ring, reads_ℚ}
use Rattle.frac128.specs.Sums.{sum_below}
use Rattle.checked_sum.specs.Steps.{StepFits, StepFitsAt, AllFit, partial}
use Rattle.checked_sum.proofs.StepLaws.{skip_factor}
use Rattle.lp_model.specs.Elements.{of_element}
use Rattle.lp_model.specs.Program.{Program, coefficient}
use Rattle.lp_model.specs.Formulations.{formulation, cut_coefficient, cut_high}
use Rattle.lp_model.specs.CutTerms.{term_of}
use Rattle.lp_model.specs.declared.types.CutRow.{CutRow}
use Rattle.lp_model.proofs.ElementLemmas.{element, of_element-get}
use Rattle.leaf_dual.specs.declared.dual.LagValue.{LagValue}
use Rattle.leaf_dual.specs.declared.dual.LagValue.TheVariants.{Num}
use Rattle.leaf_dual.specs.Dual.{needed_side, left_by_rows, cut_side, times, plus, total_below, column_reduced_cost}
use Rattle.leaf_dual.specs.Answers.{side_number, rows_total, cut_number, LacksCutSide}
use Rattle.leaf_dual.proofs.EntrySums.{partial_suc}
use Rattle.leaf_dual.proofs.LikeCuts.{IsLike}
use Rattle.leaf_dual.proofs.FurtherCut.{plus-none, side-none}

-- ---- places that rise

-- the place after that of the element before
abbrev after : (ℕ → ℕ) → ℕ → ℕ
after g zero = 0
after g (suc k) = suc (g k)

module _ (g : ℕ → ℕ) (n : ℕ) (rises : (j k : ℕ) → j < k → k < n → g j < g k) where
  after-low : (k : ℕ) → k < n → after g k ≤ g k
  after-low zero below = omega arith
  after-low (suc k) below = rises k (suc k) (omega arith) below

  before-after : (j k : ℕ) → j < k → k ≤ n → g j < after g k
  before-after j zero less within = absurd (omega arith)
  before-after j (suc k) less within = elim (cases_order j k) [
    | inl e ↦ let same : g j ≡ g k = ap g e in omega arith
    | inr o ↦ elim o [ inl below ↦ let h = rises j k below (omega arith) in omega (arith, h) | inr above ↦ absurd (omega arith) ]
  ]

  -- no element has a place between one and the next, or after the last
  between : (k i : ℕ) → k ≤ n → after g k ≤ i → (k < n → i < g k) → (j : ℕ) → j < n → g j ≢ i
  between k i within low high j there e = elim (cases_order j k) [
    | inl same ↦ let place : g j ≡ g k = ap g same in let h = high (omega arith) in absurd (omega (arith, e, place, h))
    | inr o ↦ elim o [
      | inl earlier ↦ let h = before-after j k earlier within in absurd (omega (arith, e, h, low))
      | inr later ↦ let h = high (omega arith) in let r = rises k j later there in absurd (omega (arith, e, h, r))
    ]
  ]

-- a place is one of the first n, or none of them
found_or_not : (g : ℕ → ℕ) (p n : ℕ) → ((k : ℕ) × ((k < n) × (g k ≡ p))) ⊎ ((k : ℕ) → k < n → g k ≢ p)
found_or_not g p zero = inr (λ k below. absurd (omega arith))
found_or_not g p (suc n) = elim (found_or_not g p n) [
  | inl h ↦ let w = h.1.0 in inl (h.0, (omega (arith, w), h.1.1))
  | inr none ↦ elim (cases_eq (g n) p) [
    | inl e ↦ inl (n, (omega arith, e))
    | inr other ↦ inr (λ k below e. elim (cases_order k n) [
      | inl same ↦ other (ap g (sym same) ∙ e)
      | inr o ↦ elim o [ inl less ↦ none k less e | inr above ↦ omega arith ]
    ])
  ]
]

-- ---- sums

module _ (g : ℕ → ℕ) (n m : ℕ) (rises : (j k : ℕ) → j < k → k < n → g j < g k) (there : (k : ℕ) → k < n → g k < m) where
  end-within : after g n ≤ m
  end-within = by n refl
    where
      by : (k : ℕ) → n ≡ k → after g k ≤ m
      by zero e = omega arith
      by (suc k) e = let h = there k (omega (arith, e)) in omega (arith, h)

  module _ (start : ℚ) (a x b v : ℕ → ℚ) (same_a : (k : ℕ) → k < n → b (g k) ≡ a k) (same_x : (k : ℕ) → k < n → v (g k) ≡ x k)
      (none : (p : ℕ) → p < m → ((k : ℕ) → k < n → g k ≢ p) → b p ≡ int (pos 0)) where
    sum_skipped : (i t : ℕ) → i ≤ t → ((p : ℕ) → i ≤ p → p < t → b p ≡ int (pos 0)) → partial start b v i ≡ partial start b v t
    sum_skipped i zero low zeros = let e : i ≡ 0 = omega arith in ap (partial start b v) e
    sum_skipped i (suc t) low zeros = elim (cases_order i (suc t)) [
      | inl e ↦ ap (partial start b v) e
      | inr apart ↦ elim apart [
        | inl below ↦ sum_skipped i t (omega arith) (λ p h k. zeros p h (omega arith)) ∙ (skip_factor (partial start b v t) (b t) (v t) (zeros t (omega arith) (omega arith))).1 ∙ sym (partial_suc start b v t)
        | inr above ↦ absurd (omega arith)
      ]
    ]

    sum_reached : (k : ℕ) → k ≤ n → partial start a x k ≡ partial start b v (after g k)
    sum_reached zero within = refl
    sum_reached (suc k) within =
        let below : k < n = omega arith in
        let here : partial start a x k ≡ partial start b v (g k) =
        sum_reached k (omega arith) ∙ sum_skipped (after g k) (g k) (after-low g n rises k below) (λ i low high. none i (let h = there k below in omega (arith, h, high)) (between g n rises k i (omega arith) low (λ _. high))) in
        partial_suc start a x k ∙ (λ i. here i +ℚ sym (same_a k below) i *ℚ sym (same_x k below) i) ∙ sym (partial_suc start b v (g k))

    -- the sum before an element is that before its place
    sum_at : (k : ℕ) → k < n → partial start a x k ≡ partial start b v (g k)
    sum_at k below = sum_reached k (omega arith) ∙ sum_skipped (after g k) (g k) (after-low g n rises k below) (λ i low high. none i (let h = there k below in omega (arith, h, high)) (between g n rises k i (omega arith) low (λ _. high)))

    step_at : (k : ℕ) → k < n → StepFitsAt start a x k ≡ StepFitsAt start b v (g k)
    step_at k below = (λ i. StepFits (sum_at k below i) (sym (same_a k below) i) (sym (same_x k below) i))

    pub chosen_fits : AllFit start a x n → AllFit start b v m
    chosen_fits fits p within = elim (found_or_not g p n) [
      | inl h ↦ subst (StepFitsAt start b v) h.1.1 (subst (λ P. P) (step_at h.0 h.1.0) (fits h.0 h.1.0))
      | inr other ↦ inl (none p within other)
    ]

    pub chosen_back : AllFit start b v m → AllFit start a x n
    chosen_back fits k below = subst (λ P. P) (sym (step_at k below)) (fits (g k) (there k below))

    pub chosen_total : partial start a x n ≡ partial start b v m
    chosen_total = sum_reached n (omega arith) ∙ sum_skipped (after g n) m end-within (λ i low high. none i high (between g n rises n i (omega arith) low (λ h. absurd (omega arith))))

  -- ---- totals of numbers

  module _ (f h : ℕ → LagValue) (same : (k : ℕ) → k < n → h (g k) ≡ f k) (none : (p : ℕ) → p < m → ((k : ℕ) → k < n → g k ≢ p) → h p ≡ Num (int (pos 0) *ℚ int (pos 0))) where
    total_skipped : (i t : ℕ) → i ≤ t → ((p : ℕ) → i ≤ p → p < t → h p ≡ Num (int (pos 0) *ℚ int (pos 0))) → total_below i h ≡ total_below t h
    total_skipped i zero low zeros = let e : i ≡ 0 = omega arith in ap (λ j. total_below j h) e
    total_skipped i (suc t) low zeros = elim (cases_order i (suc t)) [
      | inl e ↦ ap (λ j. total_below j h) e
      | inr apart ↦ elim apart [
        | inl below ↦ total_skipped i t (omega arith) (λ p a b. zeros p a (omega arith)) ∙ plus-none (total_below t h) ∙ ap (plus (total_below t h)) (sym (zeros t (omega arith) (omega arith)))
        | inr above ↦ absurd (omega arith)
      ]
    ]

    total_reached : (k : ℕ) → k ≤ n → total_below k f ≡ total_below (after g k) h
    total_reached zero within = refl
    total_reached (suc k) within =
        let below : k < n = omega arith in
        let here : total_below k f ≡ total_below (g k) h =
        total_reached k (omega arith) ∙ total_skipped (after g k) (g k) (after-low g n rises k below) (λ i low high. none i (let w = there k below in omega (arith, w, high)) (between g n rises k i (omega arith) low (λ _. high))) in
        (λ i. plus (here i) (sym (same k below) i))

    pub chosen_number : total_below n f ≡ total_below m h
    chosen_number = total_reached n (omega arith) ∙ total_skipped (after g n) m end-within (λ i low high. none i high (between g n rises n i (omega arith) low (λ w. absurd (omega arith))))

-- ---- cuts

-- the element at one place is that at another
of_element-at : {A B : Type 0} (d : B) (f : A → B) (xs ys : List A) (k p : ℕ) → k < length xs → p < length ys → ((a : A) → get_or ys p a ≡ get_or xs k a) → of_element d f xs k ≡ of_element d f ys p
of_element-at d f xs ys k p below within same =
    let el = element xs k below in
    of_element-get d f xs k el.0 below el.1 ∙ sym (of_element-get d f ys p el.0 within (el.1 ∙ sym (same el.0)))

module _ (M : Program) (y c : ℕ → ℚ) (c₀ : ℚ) (cuts pool : List CutRow) (g : ℕ → ℕ) (z w : ℕ → ℚ)
    (rises : (j k : ℕ) → j < k → k < length cuts → g j < g k) (there : (k : ℕ) → k < length cuts → g k < length pool)
    (are : (k : ℕ) (d : CutRow) → k < length cuts → get_or pool (g k) d ≡ get_or cuts k d)
    (weights : (k : ℕ) → k < length cuts → w (g k) ≡ z k)
    (none : (p : ℕ) → p < length pool → ((k : ℕ) → k < length cuts → g k ≢ p) → w p ≡ int (pos 0)) where
  coefficient-at : (j k : ℕ) → k < length cuts → cut_coefficient pool (g k) j ≡ cut_coefficient cuts k j
  coefficient-at j k below = sym (of_element-at (int (pos 0)) (λ (d : CutRow). term_of j d.terms) cuts pool k (g k) below (there k below) (λ d. are k d below))

  high-at : (k : ℕ) → k < length cuts → cut_high pool (g k) ≡ cut_high cuts k
  high-at k below = sym (of_element-at None (λ (d : CutRow). Some d.hi) cuts pool k (g k) below (there k below) (λ d. are k d below))

  side-at : (k : ℕ) → k < length cuts → cut_side pool w (g k) ≡ cut_side cuts z k
  side-at k below = (λ i. needed_side (weights k below i) None (high-at k below i))

  number-at : (k : ℕ) → k < length cuts → cut_number pool w (g k) ≡ cut_number cuts z k
  number-at k below = ap side_number (side-at k below)

  side-other : (p : ℕ) → p < length pool → ((k : ℕ) → k < length cuts → g k ≢ p) → cut_side pool w p ≡ Some (int (pos 0))
  side-other p within other = ap (λ u. needed_side u None (cut_high pool p)) (none p within other) ∙ side-none (cut_high pool p)

  term-other : (p : ℕ) → p < length pool → ((k : ℕ) → k < length cuts → g k ≢ p) → times (w p) (cut_side pool w p) ≡ Num (int (pos 0) *ℚ int (pos 0))
  term-other p within other = (λ i. times (none p within other i) (side-other p within other i))

  neg-at : (k : ℕ) → k < length cuts → neg_ℚ (w (g k)) ≡ neg_ℚ (z k)
  neg-at k below = ap neg_ℚ (weights k below)

  neg-other : (p : ℕ) → p < length pool → ((k : ℕ) → k < length cuts → g k ≢ p) → neg_ℚ (w p) ≡ int (pos 0)
  neg-other p within other = ap neg_ℚ (none p within other) ∙ ring [] (search reads_ℚ) tt

  reduced-at : (j : ℕ) → column_reduced_cost (formulation M cuts) y z c j ≡ column_reduced_cost (formulation M pool) y w c j
  reduced-at j =
      let taken : partial (int (pos 0)) z (λ k. cut_coefficient cuts k j) (length cuts) ≡ partial (int (pos 0)) w (λ p. cut_coefficient pool p j) (length pool) =
      chosen_total g (length cuts) (length pool) rises there (int (pos 0)) z (λ k. cut_coefficient cuts k j) w (λ p. cut_coefficient pool p j) weights (coefficient-at j) none in
      ap (λ t. c j -ℚ t -ℚ sum_below (length M.rows) (λ i. y i *ℚ coefficient M i j))
      (sym (from_zero (sum_below (length cuts) (λ k. z k *ℚ cut_coefficient cuts k j))) ∙ taken ∙ from_zero (sum_below (length pool) (λ p. w p *ℚ cut_coefficient pool p j)))
    where
      from_zero : (t : ℚ) → int (pos 0) +ℚ t ≡ t
      from_zero t = ring (t ∷ []) (search reads_ℚ) tt

  lacks-at : LacksCutSide cuts z → LacksCutSide pool w
  lacks-at (k, (below, e)) = (g k, (there k below, side-at k below ∙ e))

  lacks-back : LacksCutSide pool w → LacksCutSide cuts z
  lacks-back (p, (within, e)) = elim (found_or_not g p (length cuts)) [
    | inl h ↦ (h.0, (h.1.0, sym (side-at h.0 h.1.0) ∙ ap (cut_side pool w) h.1.1 ∙ e))
    | inr other ↦ absurd (some (int (pos 0)) (sym (side-other p within other) ∙ e))
  ]
    where
      some : (u : ℚ) → Some u ≢ None
      some u h = cc

  pub like-chosen : IsLike M y c c₀ cuts z pool w
  like-chosen = record {
    fits = chosen_fits g (length cuts) (length pool) rises there (rows_total M y c₀) z (cut_number cuts z) w (cut_number pool w) weights number-at none;
    total = chosen_total g (length cuts) (length pool) rises there (rows_total M y c₀) z (cut_number cuts z) w (cut_number pool w) weights number-at none;
    entries = λ j. chosen_fits g (length cuts) (length pool) rises there (left_by_rows M y c j) (λ k. neg_ℚ (z k)) (λ k. cut_coefficient cuts k j) (λ p. neg_ℚ (w p)) (λ p. cut_coefficient pool p j) neg-at (coefficient-at j) neg-other;
    lacks = lacks-at;
    reduced = reduced-at;
    number = chosen_number g (length cuts) (length pool) rises there (λ k. times (z k) (cut_side cuts z k)) (λ p. times (w p) (cut_side pool w p)) (λ k below i. times (weights k below i) (side-at k below i)) term-other;
  }

  -- and back
  pub like-back : IsLike M y c c₀ pool w cuts z
  like-back = record {
    fits = chosen_back g (length cuts) (length pool) rises there (rows_total M y c₀) z (cut_number cuts z) w (cut_number pool w) weights number-at none;
    total = sym like-chosen.total;
    entries = λ j. chosen_back g (length cuts) (length pool) rises there (left_by_rows M y c j) (λ k. neg_ℚ (z k)) (λ k. cut_coefficient cuts k j) (λ p. neg_ℚ (w p)) (λ p. cut_coefficient pool p j) neg-at (coefficient-at j) neg-other;
    lacks = lacks-back;
    reduced = λ j. sym (reduced-at j);
    number = sym like-chosen.number;
  }
