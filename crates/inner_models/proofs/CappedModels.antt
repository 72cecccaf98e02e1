-- The inner models with rows that cap f1 and f2: their points, and what the best of them are.
use Rattle.std.specs.Prelude.{◌≡◌, ◌≢◌, ◌↔◌, ◌⊎◌, ℕ, zero, suc, ◌<◌, List, [], ◌∷◌, ◌++◌, length, get_or, All, AllPairs, pos, ℤ, Some, None}
use Rattle.std.proofs.Common.{refl, sym, ap, subst, ◌∙◌, append-nil, inl, inr}
use Rattle.frac128.specs.Rational.{ℚ, int, ◌+ℚ◌, ◌*ℚ◌, ◌≤ℚ◌, ◌<ℚ◌}
use Rattle.frac128.specs.RationalRing.{ring, reads_ℚ, zero-+ℚ}
use Rattle.frac128.specs.RationalOrder.{≤ℚ_trans, ≤ℚ_antisymm, not_both_ℚ, add-<ℚ, linear_strict}
use Rattle.frac128.specs.Sums.{sum_below}
use Rattle.checked_sum.proofs.SumLaws.{sum_below-same, sum_below-add}
use Rattle.lp_model.specs.Elements.{of_element}
use Rattle.lp_model.specs.Program.{Program, Point, coordinate, constant, cost, value, least_value, in_least_form, IsFeasible, IsOptimum}
use Rattle.lp_model.specs.Lawful.{IsLawful, column_names, column_name}
use Rattle.lp_model.specs.Edits.{Named, number_beside, edited}
use Rattle.lp_model.specs.declared.types.Col.{Col}
use Rattle.frontier.specs.Outcomes.{Dominates, IsNondominated}
use Rattle.inner_models.specs.Inner.{IsBare, costed, with_objective, g1_name, g2_name, row_terms, capped, least2_model, left_model, right_model, pull_half, pull_model}
use Rattle.inner_models.specs.Laws.{FindsLeft, FindsRight, FindsPull}
use Rattle.inner_models.proofs.ListLemmas.{of_element-map}
use Rattle.inner_models.proofs.NamedNumbers.{of_element-of_name, number-pairs}
use Rattle.inner_models.proofs.AddedRow.{AreBelow, lawful-below, new_coefficient, new_sum, count_is, value_is, entries_below, row-feasible}
use Rattle.inner_models.proofs.Objectives.{objective-count, objective-feasible, objective-below, objective-value}

-- ---- a row of f times columns, in a model with the columns of N

module _ (N : Program) (distinct : AllPairs (λ a b. a ≢ b) (column_names N)) (f : Col → ℚ) where
  pub number-of_column : (more : Named) (name : List ℕ) (j : ℕ) → j < length N.cols → name ≡ column_name N j → number_beside name (row_terms f N ++ more) ≡ of_element (int (pos 0)) f N.cols j
  number-of_column more name j below same = ap (λ m. number_beside m (row_terms f N ++ more)) same ∙ number-pairs f N.cols more distinct j below

  module _ (B : Program) (count : length B.cols ≡ length N.cols) (names : (j : ℕ) → column_name B j ≡ column_name N j) (name : List ℕ) (hi : ℚ) where
    pub capped_sum : (x : Point) → new_sum B name None (Some hi) (row_terms f N) x ≡ sum_below (length N.cols) (λ j. of_element (int (pos 0)) f N.cols j *ℚ coordinate x j)
    capped_sum x =
        ap (λ m. sum_below m (λ j. new_coefficient B name None (Some hi) (row_terms f N) j *ℚ coordinate x j)) count
        ∙ sum_below-same (length N.cols) _ _ (λ j below. ap (λ t. t *ℚ coordinate x j) (coefficient_is j below))
      where
        coefficient_is : (j : ℕ) → j < length N.cols → new_coefficient B name None (Some hi) (row_terms f N) j ≡ of_element (int (pos 0)) f N.cols j
        coefficient_is j below =
            of_element-of_name (int (pos 0)) (λ m. number_beside m (row_terms f N)) B.cols j (subst (λ m. j < m) (sym count) below)
            ∙ ap (number_beside (column_name B j)) (sym (append-nil (row_terms f N)))
            ∙ number-of_column [] (column_name B j) j below (names j)

    -- the points of B with the row
    pub capped-feasible : All (AreBelow (length B.rows)) B.cols → (x : Point)
        → IsFeasible (edited B (capped name hi (row_terms f N))) x ↔ (IsFeasible B x × (sum_below (length N.cols) (λ j. of_element (int (pos 0)) f N.cols j *ℚ coordinate x j) ≤ℚ hi))
    capped-feasible below x =
        let both = row-feasible B name None (Some hi) (row_terms f N) below x in
        let sum_is = capped_sum x in (
          (λ h. let held = both.0 h in (held.0, subst (λ t. t ≤ℚ hi) sum_is held.1.high)),
          (λ h. both.1 (h.0, record { low = tt; high = subst (λ t. t ≤ℚ hi) (sym sum_is) h.1 })),
        )

-- ---- the values of a model without constants

module _ (N : Program) (bare : IsBare N) where
  pub none_first : constant N 1 ≡ int (pos 0)
  none_first = ap (λ l. get_or l 0 (int (pos 0))) bare.constants

  pub none_second : constant N 2 ≡ int (pos 0)
  none_second = ap (λ l. get_or l 1 (int (pos 0))) bare.constants

  pub value_first : (x : Point) → value N 1 x ≡ sum_below (length N.cols) (λ j. cost N 1 j *ℚ coordinate x j)
  value_first x = ap (λ t. t +ℚ sum_below (length N.cols) (λ j. cost N 1 j *ℚ coordinate x j)) none_first ∙ zero-+ℚ (sum_below (length N.cols) (λ j. cost N 1 j *ℚ coordinate x j))

  pub value_second : (x : Point) → value N 2 x ≡ sum_below (length N.cols) (λ j. cost N 2 j *ℚ coordinate x j)
  value_second x = ap (λ t. t +ℚ sum_below (length N.cols) (λ j. cost N 2 j *ℚ coordinate x j)) none_second ∙ zero-+ℚ (sum_below (length N.cols) (λ j. cost N 2 j *ℚ coordinate x j))

  -- of a model that keeps the sense of N, the values in least form are the values
  pub least_is : (P : Program) → P.sense ≡ N.sense → (w : ℕ) (x : Point) → least_value P w x ≡ value P w x
  least_is P same w x = ap (λ s. in_least_form s (value P w x)) (same ∙ bare.least)

  pub replaced_value : (f : Col → ℚ) (x : Point) → value (with_objective f N) 1 x ≡ sum_below (length N.cols) (λ j. of_element (int (pos 0)) f N.cols j *ℚ coordinate x j)
  replaced_value f x =
      objective-value f N x ∙ ap (λ t. t +ℚ sum_below (length N.cols) (λ j. of_element (int (pos 0)) f N.cols j *ℚ coordinate x j)) none_first
      ∙ zero-+ℚ (sum_below (length N.cols) (λ j. of_element (int (pos 0)) f N.cols j *ℚ coordinate x j))

-- ---- the names of models that are changed

pub objective-names : (f : Col → ℚ) (N : Program) (j : ℕ) → column_name (with_objective f N) j ≡ column_name N j
objective-names f N j = of_element-map [] (λ c. c.name) (costed f) N.cols j

pub capped-names : (B : Program) (name : List ℕ) (hi : ℚ) (named : Named) (j : ℕ) → column_name (edited B (capped name hi named)) j ≡ column_name B j
capped-names B name hi named j = of_element-map [] (λ c. c.name) _ B.cols j

-- ---- the laws

module _ (N : Program) (lawful : IsLawful N) (bare : IsBare N) where
  pub least2-value : (x : Point) → value (least2_model N) 1 x ≡ value N 2 x
  least2-value x = replaced_value N bare (λ c. c.cost2) x ∙ sym (value_second N bare x)

  -- what it is to dominate, in plain values
  plain-first : (y x : Point) → Dominates N y x → value N 1 y ≤ℚ value N 1 x
  plain-first y x d = subst (λ t. t ≤ℚ value N 1 x) (least_is N bare N refl 1 y) (subst (λ t. least_value N 1 y ≤ℚ t) (least_is N bare N refl 1 x) d.first)

  plain-second : (y x : Point) → Dominates N y x → value N 2 y ≤ℚ value N 2 x
  plain-second y x d = subst (λ t. t ≤ℚ value N 2 x) (least_is N bare N refl 2 y) (subst (λ t. least_value N 2 y ≤ℚ t) (least_is N bare N refl 2 x) d.second)

  plain-better : (y x : Point) → Dominates N y x → (value N 1 y <ℚ value N 1 x) ⊎ (value N 2 y <ℚ value N 2 x)
  plain-better y x d = elim d.better [
    | inl less ↦ inl (subst (λ t. t <ℚ value N 1 x) (least_is N bare N refl 1 y) (subst (λ t. least_value N 1 y <ℚ t) (least_is N bare N refl 1 x) less))
    | inr less ↦ inr (subst (λ t. t <ℚ value N 2 x) (least_is N bare N refl 2 y) (subst (λ t. least_value N 2 y <ℚ t) (least_is N bare N refl 2 x) less))
  ]

  -- the best point of a model that keeps the sense is beaten by none of it
  best : (P : Program) → P.sense ≡ N.sense → (x y : Point) → IsOptimum P x → IsFeasible P y → ¬ (value P 1 y <ℚ value P 1 x)
  best P same x y optimum feasible less =
      optimum.unbeaten y feasible (record { better = subst (λ t. t <ℚ least_value P 1 x) (sym (least_is N bare P same 1 y)) (subst (λ t. value P 1 y <ℚ t) (sym (least_is N bare P same 1 x)) less) })

  -- ---- the ends

  module _ (i1 : ℤ) where
    left-feasible : (x : Point) → IsFeasible (left_model N i1) x ↔ (IsFeasible N x × (value N 1 x ≤ℚ int i1))
    left-feasible x =
        let capped_points = capped-feasible N lawful.columns_distinct (λ c. c.cost) (least2_model N) (objective-count (λ c. c.cost2) N) (objective-names (λ c. c.cost2) N) (g1_name N) (int i1) (objective-below (λ c. c.cost2) N (lawful-below N lawful)) x in
        let points = objective-feasible (λ c. c.cost2) N x in
        let value_is = value_first N bare x in (
          (λ h. let held = capped_points.0 h in (points.0 held.0, subst (λ t. t ≤ℚ int i1) (sym value_is) held.1)),
          (λ h. capped_points.1 (points.1 h.0, subst (λ t. t ≤ℚ int i1) value_is h.1)),
        )

    left-value : (x : Point) → value (left_model N i1) 1 x ≡ value N 2 x
    left-value x = value_is (least2_model N) (g1_name N) None (Some (int i1)) (row_terms (λ c. c.cost) N) 1 x ∙ least2-value x

    left-nondominated : (x : Point) → ((y : Point) → IsFeasible N y → int i1 ≤ℚ value N 1 y) → IsOptimum (left_model N i1) x → IsNondominated N x × (value N 1 x ≡ int i1)
    left-nondominated x least optimum =
        let held = (left-feasible x).0 optimum.feasible in (
          record {
            feasible = held.0;
            undominated = λ y feasible d.
                let within : value N 1 y ≤ℚ int i1 = ≤ℚ_trans (plain-first y x d) held.1 in
                elim (plain-better y x d) [
                  | inl less ↦ not_both_ℚ (≤ℚ_trans held.1 (least y feasible)) less
                  | inr less ↦
                      best (left_model N i1) refl x y optimum ((left-feasible y).1 (feasible, within))
                      (subst (λ t. t <ℚ value (left_model N i1) 1 x) (sym (left-value y)) (subst (λ t. value N 2 y <ℚ t) (sym (left-value x)) less))
                ];
          },
          ≤ℚ_antisymm held.1 (least x held.0),
        )

    pub finds-left : FindsLeft N i1
    finds-left = record { feasible = left-feasible; value_is = left-value; nondominated = left-nondominated }

  module _ (i2 : ℤ) where
    right-feasible : (x : Point) → IsFeasible (right_model N i2) x ↔ (IsFeasible N x × (value N 2 x ≤ℚ int i2))
    right-feasible x =
        let capped_points = capped-feasible N lawful.columns_distinct (λ c. c.cost2) N refl (λ j. refl) (g1_name N) (int i2) (lawful-below N lawful) x in
        let value_is = value_second N bare x in (
          (λ h. let held = capped_points.0 h in (held.0, subst (λ t. t ≤ℚ int i2) (sym value_is) held.1)),
          (λ h. capped_points.1 (h.0, subst (λ t. t ≤ℚ int i2) value_is h.1)),
        )

    right-value : (x : Point) → value (right_model N i2) 1 x ≡ value N 1 x
    right-value x = value_is N (g1_name N) None (Some (int i2)) (row_terms (λ c. c.cost2) N) 1 x

    right-nondominated : (x : Point) → ((y : Point) → IsFeasible N y → int i2 ≤ℚ value N 2 y) → IsOptimum (right_model N i2) x → IsNondominated N x × (value N 2 x ≡ int i2)
    right-nondominated x least optimum =
        let held = (right-feasible x).0 optimum.feasible in (
          record {
            feasible = held.0;
            undominated = λ y feasible d.
                let within : value N 2 y ≤ℚ int i2 = ≤ℚ_trans (plain-second y x d) held.1 in
                elim (plain-better y x d) [
                  | inl less ↦
                      best (right_model N i2) refl x y optimum ((right-feasible y).1 (feasible, within))
                      (subst (λ t. t <ℚ value (right_model N i2) 1 x) (sym (right-value y)) (subst (λ t. value N 1 y <ℚ t) (sym (right-value x)) less))
                  | inr less ↦ not_both_ℚ (≤ℚ_trans held.1 (least y feasible)) less
                ];
          },
          ≤ℚ_antisymm held.1 (least x held.0),
        )

    pub finds-right : FindsRight N i2
    finds-right = record { feasible = right-feasible; value_is = right-value; nondominated = right-nondominated }

  -- ---- the pull

  module _ (r1 r2 : ℤ) where
    abbrev both_costs : Col → ℚ
    both_costs c = c.cost +ℚ c.cost2

    abbrev B : Program
    B = with_objective both_costs N

    half-feasible : (x : Point) → IsFeasible (pull_half N r1) x ↔ (IsFeasible N x × (value N 1 x ≤ℚ int r1))
    half-feasible x =
        let capped_points = capped-feasible N lawful.columns_distinct (λ c. c.cost) B (objective-count both_costs N) (objective-names both_costs N) (g1_name N) (int r1) (objective-below both_costs N (lawful-below N lawful)) x in
        let points = objective-feasible both_costs N x in
        let value_is = value_first N bare x in (
          (λ h. let held = capped_points.0 h in (points.0 held.0, subst (λ t. t ≤ℚ int r1) (sym value_is) held.1)),
          (λ h. capped_points.1 (points.1 h.0, subst (λ t. t ≤ℚ int r1) value_is h.1)),
        )

    pull-feasible : (x : Point) → IsFeasible (pull_model N r1 r2) x ↔ (IsFeasible N x × ((value N 1 x ≤ℚ int r1) × (value N 2 x ≤ℚ int r2)))
    pull-feasible x =
        let count = count_is B (g1_name N) None (Some (int r1)) (row_terms (λ c. c.cost) N) ∙ objective-count both_costs N in
        let names = λ (j : ℕ). capped-names B (g1_name N) (int r1) (row_terms (λ c. c.cost) N) j ∙ objective-names both_costs N j in
        let below = entries_below B (g1_name N) None (Some (int r1)) (row_terms (λ c. c.cost) N) (objective-below both_costs N (lawful-below N lawful)) in
        let capped_points = capped-feasible N lawful.columns_distinct (λ c. c.cost2) (pull_half N r1) count names (g2_name N) (int r2) below x in
        let points = half-feasible x in
        let value_is = value_second N bare x in (
          (λ h. let held = capped_points.0 h in let half = points.0 held.0 in (half.0, (half.1, subst (λ t. t ≤ℚ int r2) (sym value_is) held.1))),
          (λ h. capped_points.1 (points.1 (h.0, h.1.0), subst (λ t. t ≤ℚ int r2) value_is h.1.1)),
        )

    both-elements : (cols : List Col) (j : ℕ) → of_element (int (pos 0)) both_costs cols j ≡ of_element (int (pos 0)) (λ c. c.cost) cols j +ℚ of_element (int (pos 0)) (λ c. c.cost2) cols j
    both-elements [] j = ring [] (search reads_ℚ) tt
    both-elements (c ∷ cols) zero = refl
    both-elements (c ∷ cols) (suc j) = both-elements cols j

    pull-value : (x : Point) → value (pull_model N r1 r2) 1 x ≡ value N 1 x +ℚ value N 2 x
    pull-value x =
        value_is (pull_half N r1) (g2_name N) None (Some (int r2)) (row_terms (λ c. c.cost2) N) 1 x
        ∙ value_is B (g1_name N) None (Some (int r1)) (row_terms (λ c. c.cost) N) 1 x
        ∙ replaced_value N bare both_costs x
        ∙ sum_below-same (length N.cols) _ (λ j. cost N 1 j *ℚ coordinate x j +ℚ cost N 2 j *ℚ coordinate x j)
        (λ j within. ap (λ t. t *ℚ coordinate x j) (both-elements N.cols j) ∙ ring (cost N 1 j ∷ cost N 2 j ∷ coordinate x j ∷ []) (search reads_ℚ) tt)
        ∙ sum_below-add (length N.cols) (λ j. cost N 1 j *ℚ coordinate x j) (λ j. cost N 2 j *ℚ coordinate x j)
        ∙ (λ t. sym (value_first N bare x) t +ℚ sym (value_second N bare x) t)

    pull-nondominated : (x : Point) → IsOptimum (pull_model N r1 r2) x → IsNondominated N x
    pull-nondominated x optimum =
        let held = (pull-feasible x).0 optimum.feasible in
        record {
          feasible = held.0;
          undominated = λ y feasible d.
              let first = plain-first y x d in
              let second = plain-second y x d in
              let within = (pull-feasible y).1 (feasible, (≤ℚ_trans first held.1.0, ≤ℚ_trans second held.1.1)) in
              let less : value N 1 y +ℚ value N 2 y <ℚ value N 1 x +ℚ value N 2 x =
              elim (plain-better y x d) [
                | inl better ↦ add-<ℚ better second
                | inr better ↦ linear_strict (value N 1 y ∷ value N 2 y ∷ value N 1 x ∷ value N 2 x ∷ []) (add-<ℚ better first) (search reads_ℚ depth 9) tt
              ] in
              best (pull_model N r1 r2) refl x y optimum within
              (subst (λ t. t <ℚ value (pull_model N r1 r2) 1 x) (sym (pull-value y)) (subst (λ t. value N 1 y +ℚ value N 2 y <ℚ t) (sym (pull-value x)) less));
        }

    pub finds-pull : FindsPull N r1 r2
    finds-pull = record { feasible = pull-feasible; value_is = pull-value; nondominated = pull-nondominated }
