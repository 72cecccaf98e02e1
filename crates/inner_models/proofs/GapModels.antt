-- The model of a gap. With A, B, I, J, V, W, Z for a, b, i1, i2, f1, f2 and the column Z its rows are A*V - Z <= A*I and B*W - Z <= B*J. So
-- Z < A*B makes A*V < A*(I + B), and a V of whole numbers below I + B is at most I + B - 1, which leaves room for Z = A*B - 1.
use Rattle.std.specs.Prelude.{◌≡◌, ◌↔◌, ℕ, zero, suc, ◌<◌, true, List, [], ◌∷◌, ◌++◌, length, take, All, pos, negsuc, ℤ, ◌+ℤ◌, ◌-ℤ◌, ◌*ℤ◌, neg_ℤ, ◌≤ℤ◌, Some, None}
use Rattle.std.proofs.Common.{refl, sym, ap, subst, ◌∙◌, arith}
use mathlib.Core.Path.{subst₂}
use Rattle.std.proofs.lemmas.Int.{ints, by_lt_z}
use Rattle.std.proofs.lemmas.List.{length_push}
use Rattle.frac128.specs.Rational.{ℚ, int, floor, ◌+ℚ◌, ◌-ℚ◌, ◌*ℚ◌, ◌≤ℚ◌, ◌<ℚ◌, IsWhole}
use Rattle.frac128.specs.RationalRing.{ring, reads_ℚ, int-+ℤ, int-*ℤ, int-neg_ℤ}
use Rattle.frac128.specs.RationalOrder.{≤ℚ_refl, ≤ℚ_trans, ≤ℚ_of_<ℚ, not_both_ℚ, <ℚ_from_not, add-≤ℚ, mul-≤ℚ, linear, linear_strict, zero-<ℚ-one}
use Rattle.frac128.specs.Sums.{sum_below}
use Rattle.frac128.proofs.Integers.{int-≤ℚ-int, IsWhole-int}
use Rattle.frac128.proofs.Rounding.{int-floor}
use Rattle.checked_sum.proofs.SumLaws.{sum_below-same, sum_below-scale, sum_below-zero}
use Rattle.lp_model.specs.Elements.{of_element}
use Rattle.lp_model.specs.Program.{Program, Point, coordinate, value, IsAllowed, IsFeasible, HasWholeObjective}
use Rattle.lp_model.specs.Lawful.{IsLawful, column_name}
use Rattle.lp_model.specs.Edits.{Named, number_beside}
use Rattle.lp_model.specs.declared.types.Col.{Col}
use Rattle.lp_model.proofs.ModelLaws.{whole_value}
use Rattle.inner_models.specs.Inner.{IsBare, with_objective, z_name, g1_name, g2_name, row_terms_less_z, gap_start, gap_half, gap_model}
use Rattle.inner_models.specs.Laws.{SweepsGap}
use Rattle.inner_models.proofs.ListLemmas.{of_element-front, of_element-last, coordinate-last, coordinate-take, take-front}
use Rattle.inner_models.proofs.FreeNames.{names_free}
use Rattle.inner_models.proofs.NamedNumbers.{of_element-of_name, number-behind}
use Rattle.inner_models.proofs.AddedRow.{AreBelow, lawful-below, new_coefficient, new_sum, count_is, value_is, entries_below, row-feasible}
use Rattle.inner_models.proofs.AddedColumn.{columns_more, column_below, column-feasible, value-column, new_column}
use Rattle.inner_models.proofs.Objectives.{objective-count, objective-feasible, objective-below}
use Rattle.inner_models.proofs.CappedModels.{number-of_column, value_first, value_second, replaced_value, objective-names, capped-names}

-- ---- the steps of the argument, in plain numbers

module _ (A B I V Z : ℚ) (some : int (pos 1) ≤ℚ A) where
  nonnegative : int (pos 0) ≤ℚ A
  nonnegative = ≤ℚ_trans (≤ℚ_of_<ℚ zero-<ℚ-one) some

  -- Z below A * B keeps V below I + B
  pub kept_below : A *ℚ V -ℚ Z ≤ℚ A *ℚ I → Z <ℚ A *ℚ B → V <ℚ I +ℚ B
  kept_below row less =
      <ℚ_from_not V (I +ℚ B) (λ over.
      not_both_ℚ (linear (A ∷ B ∷ I ∷ V ∷ Z ∷ []) {x = A *ℚ B} {y = Z} (add-≤ℚ (mul-≤ℚ nonnegative over) row) (search reads_ℚ depth 9) tt) less)

  -- V at most I + B - 1 leaves room for Z = A * B - 1
  pub room_below : V ≤ℚ I +ℚ B -ℚ int (pos 1) → A *ℚ V -ℚ (A *ℚ B -ℚ int (pos 1)) ≤ℚ A *ℚ I
  room_below h = linear (A ∷ B ∷ I ∷ V ∷ []) (add-≤ℚ (mul-≤ℚ nonnegative h) some) (search reads_ℚ depth 9) tt

  -- V at most I + B leaves room for Z = A * B
  pub room_at : V ≤ℚ I +ℚ B → A *ℚ V -ℚ A *ℚ B ≤ℚ A *ℚ I
  room_at h = linear (A ∷ B ∷ I ∷ V ∷ []) (mul-≤ℚ nonnegative h) (search reads_ℚ depth 9) tt

product-some : (A B : ℚ) → int (pos 1) ≤ℚ A → int (pos 1) ≤ℚ B → int (pos 1) ≤ℚ A *ℚ B
product-some A B h k =
    ≤ℚ_trans h (linear (A ∷ B ∷ []) (mul-≤ℚ (≤ℚ_trans (≤ℚ_of_<ℚ zero-<ℚ-one) h) k) (search reads_ℚ depth 9) tt)

-- a whole number below a whole number is below it by 1
whole-below : (v : ℚ) (m : ℤ) → IsWhole v → v <ℚ int m → v ≤ℚ int (m -ℤ pos 1)
whole-below v m whole less =
    let is : int (floor v) ≡ v = int-floor v whole in
    let below : floor v ≤ℤ (m -ℤ pos 1) = by_order in
    subst (λ t. t ≤ℚ int (m -ℤ pos 1)) is ((int-≤ℚ-int (floor v) (m -ℤ pos 1)).1 below)
  where
    not_over : ¬ (m ≤ℤ floor v)
    not_over h = not_both_ℚ (subst (λ t. int m ≤ℚ t) (int-floor v whole) ((int-≤ℚ-int m (floor v)).1 h)) less

    by_order : floor v ≤ℤ (m -ℤ pos 1)
    by_order = by_lt_z (floor v) m (λ h. omega (arith, ints)) (λ h. absurd (not_over h))

pub int-difference : (a b : ℤ) → int (a -ℤ b) ≡ int a -ℚ int b
int-difference a b = int-+ℤ a (neg_ℤ b) ∙ ap (λ t. int a +ℚ t) (int-neg_ℤ b)

-- ---- the rows of the gap, in a model with the columns of N and Z

module _ (N : Program) (lawful : IsLawful N) (bare : IsBare N) where
  abbrev n : ℕ
  n = length N.cols

  -- a model whose columns are named as N's, and Z behind them
  pub record HasColumns (B : Program) : Type 0 where
    pub count : length B.cols ≡ suc (length N.cols)
    pub names : (j : ℕ) → j < length N.cols → column_name B j ≡ column_name N j
    pub last : column_name B (length N.cols) ≡ z_name N

  module _ (f : Col → ℚ) (B : Program) (columns : HasColumns B) (name : List ℕ) (hi : ℚ) where
    coefficient_old : (j : ℕ) → j < n → new_coefficient B name None (Some hi) (row_terms_less_z f N) j ≡ of_element (int (pos 0)) f N.cols j
    coefficient_old j below =
        let count = columns.count in
        of_element-of_name (int (pos 0)) (λ m. number_beside m (row_terms_less_z f N)) B.cols j (omega arith)
        ∙ number-of_column N lawful.columns_distinct f ((z_name N, int (negsuc 0)) ∷ []) (column_name B j) j below (columns.names j below)

    coefficient_last : new_coefficient B name None (Some hi) (row_terms_less_z f N) n ≡ int (negsuc 0)
    coefficient_last =
        let count = columns.count in
        of_element-of_name (int (pos 0)) (λ m. number_beside m (row_terms_less_z f N)) B.cols n (omega arith)
        ∙ ap (λ m. number_beside m (row_terms_less_z f N)) columns.last
        ∙ number-behind f N.cols (z_name N) (int (negsuc 0)) (names_free N).column

    pub gap_sum : (y : Point) → new_sum B name None (Some hi) (row_terms_less_z f N) y ≡ sum_below n (λ j. of_element (int (pos 0)) f N.cols j *ℚ coordinate (take n y) j) -ℚ coordinate y n
    gap_sum y =
        ap (λ m. sum_below m (λ j. new_coefficient B name None (Some hi) (row_terms_less_z f N) j *ℚ coordinate y j)) columns.count
        ∙ (λ t. sum_below-same n _ (λ j. of_element (int (pos 0)) f N.cols j *ℚ coordinate (take n y) j)
        (λ j below. (λ u. coefficient_old j below u *ℚ sym (coordinate-take n y j below) u)) t +ℚ coefficient_last t *ℚ coordinate y n)
        ∙ ring (sum_below n (λ j. of_element (int (pos 0)) f N.cols j *ℚ coordinate (take n y) j) ∷ coordinate y n ∷ []) (search reads_ℚ) tt

  -- ---- the model with Z alone

  module _ (width : ℤ) where
    abbrev B : Program
    B = with_objective (λ c. int (pos 0)) N

    abbrev some_column : Col
    some_column = new_column B (z_name N) true (Some (int (pos 0))) (Some (int width)) (int (pos 1)) (int (pos 0))

    same_count : length B.cols ≡ n
    same_count = objective-count (λ c. int (pos 0)) N

    start_columns : HasColumns (gap_start N width)
    start_columns = record {
      count = columns_more B (z_name N) true (Some (int (pos 0))) (Some (int width)) (int (pos 1)) (int (pos 0)) ∙ ap suc same_count;
      names = λ j below.
          let count = same_count in
          of_element-front [] (λ c. c.name) B.cols (some_column ∷ []) j (omega arith) ∙ objective-names (λ c. int (pos 0)) N j;
      last = subst (λ m. column_name (gap_start N width) m ≡ z_name N) same_count (of_element-last [] (λ c. c.name) B.cols some_column);
    }

    -- a point of N, and a whole number from 0 to the width behind it
    pub record IsStart (y : Point) : Type 0 where
      pub shape : length y ≡ suc (length N.cols)
      pub point : IsFeasible N (take (length N.cols) y)
      pub last : IsAllowed true (Some (int (pos 0))) (Some (int width)) (coordinate y (length N.cols))

    start-feasible : (y : Point) → IsFeasible (gap_start N width) y ↔ IsStart y
    start-feasible y =
        let both = column-feasible B (z_name N) true (Some (int (pos 0))) (Some (int width)) (int (pos 1)) (int (pos 0)) y in (
          (λ h.
              let held = both.0 h in
              let point : IsFeasible B (take (length N.cols) y) = subst (λ m. IsFeasible B (take m y)) same_count held.point in
              record {
                shape = held.shape ∙ ap suc same_count;
                point = (objective-feasible (λ c. int (pos 0)) N (take (length N.cols) y)).0 point;
                last = subst (λ m. IsAllowed true (Some (int (pos 0))) (Some (int width)) (coordinate y m)) same_count held.last;
              }),
          (λ h.
              let point : IsFeasible B (take (length N.cols) y) = (objective-feasible (λ c. int (pos 0)) N (take (length N.cols) y)).1 h.point in
              both.1 (record {
                shape = h.shape ∙ ap suc (sym same_count);
                point = subst (λ m. IsFeasible B (take m y)) (sym same_count) point;
                last = subst (λ m. IsAllowed true (Some (int (pos 0))) (Some (int width)) (coordinate y m)) (sym same_count) h.last;
              })),
        )

    zero-elements : (cols : List Col) (j : ℕ) → of_element (int (pos 0)) (λ (c : Col). int (pos 0)) cols j ≡ int (pos 0)
    zero-elements [] j = refl
    zero-elements (c ∷ cols) zero = refl
    zero-elements (c ∷ cols) (suc j) = zero-elements cols j

    zero-value : (x : Point) → value B 1 x ≡ int (pos 0)
    zero-value x =
        replaced_value N bare (λ c. int (pos 0)) x
        ∙ sum_below-same (length N.cols) _ (λ j. int (pos 0)) (λ j below. ap (λ t. t *ℚ coordinate x j) (zero-elements N.cols j) ∙ ring (coordinate x j ∷ []) (search reads_ℚ) tt)
        ∙ sum_below-zero (length N.cols)

    start-value : (y : Point) → value (gap_start N width) 1 y ≡ coordinate y (length N.cols)
    start-value y =
        value-column B (z_name N) true (Some (int (pos 0))) (Some (int width)) (int (pos 1)) (int (pos 0)) y
        ∙ (λ t. zero-value (take (length B.cols) y) t +ℚ int (pos 1) *ℚ coordinate y (same_count t))
        ∙ ring (coordinate y (length N.cols) ∷ []) (search reads_ℚ) tt

    start-below : All (AreBelow (length (gap_start N width).rows)) (gap_start N width).cols
    start-below =
        column_below B (z_name N) true (Some (int (pos 0))) (Some (int width)) (int (pos 1)) (int (pos 0)) (objective-below (λ c. int (pos 0)) N (lawful-below N lawful))

  -- ---- the sums of the rows

  scaled-elements : (a : ℚ) (f : Col → ℚ) (cols : List Col) (j : ℕ) → of_element (int (pos 0)) (λ c. a *ℚ f c) cols j ≡ a *ℚ of_element (int (pos 0)) f cols j
  scaled-elements a f [] j = ring (a ∷ []) (search reads_ℚ) tt
  scaled-elements a f (c ∷ cols) zero = refl
  scaled-elements a f (c ∷ cols) (suc j) = scaled-elements a f cols j

  scaled-sum : (a : ℚ) (f : Col → ℚ) (x : Point)
      → sum_below n (λ j. of_element (int (pos 0)) (λ c. a *ℚ f c) N.cols j *ℚ coordinate x j) ≡ a *ℚ sum_below n (λ j. of_element (int (pos 0)) f N.cols j *ℚ coordinate x j)
  scaled-sum a f x =
      sum_below-same n _ (λ j. a *ℚ (of_element (int (pos 0)) f N.cols j *ℚ coordinate x j))
      (λ j below. ap (λ t. t *ℚ coordinate x j) (scaled-elements a f N.cols j) ∙ ring (a ∷ of_element (int (pos 0)) f N.cols j ∷ coordinate x j ∷ []) (search reads_ℚ) tt)
      ∙ sum_below-scale n a (λ j. of_element (int (pos 0)) f N.cols j *ℚ coordinate x j)

  -- ---- the model of the gap

  module _ (a b i1 i2 : ℤ) where
    abbrev G : Program
    G = gap_model N a b i1 i2

    abbrev S : Program
    S = gap_start N (a *ℤ b)

    abbrev first_row : Named
    first_row = row_terms_less_z (λ c. int a *ℚ c.cost) N

    abbrev second_row : Named
    second_row = row_terms_less_z (λ c. int b *ℚ c.cost2) N

    half_columns : HasColumns (gap_half N a b i1)
    half_columns =
        let columns = start_columns (a *ℤ b) in
        record {
          count = count_is S (g1_name N) None (Some (int (a *ℤ i1))) first_row ∙ columns.count;
          names = λ j below. capped-names S (g1_name N) (int (a *ℤ i1)) first_row j ∙ columns.names j below;
          last = capped-names S (g1_name N) (int (a *ℤ i1)) first_row (length N.cols) ∙ columns.last;
        }

    -- what the rows say
    pub record IsGapPoint (y : Point) : Type 0 where
      pub start : IsStart (a *ℤ b) y
      pub first : int a *ℚ value N 1 (take (length N.cols) y) -ℚ coordinate y (length N.cols) ≤ℚ int a *ℚ int i1
      pub second : int b *ℚ value N 2 (take (length N.cols) y) -ℚ coordinate y (length N.cols) ≤ℚ int b *ℚ int i2

    first_sum : (y : Point) → new_sum S (g1_name N) None (Some (int (a *ℤ i1))) first_row y ≡ int a *ℚ value N 1 (take n y) -ℚ coordinate y n
    first_sum y =
        gap_sum (λ c. int a *ℚ c.cost) S (start_columns (a *ℤ b)) (g1_name N) (int (a *ℤ i1)) y
        ∙ ap (λ t. t -ℚ coordinate y n) (scaled-sum (int a) (λ c. c.cost) (take n y) ∙ ap (λ t. int a *ℚ t) (sym (value_first N bare (take n y))))

    second_sum : (y : Point) → new_sum (gap_half N a b i1) (g2_name N) None (Some (int (b *ℤ i2))) second_row y ≡ int b *ℚ value N 2 (take n y) -ℚ coordinate y n
    second_sum y =
        gap_sum (λ c. int b *ℚ c.cost2) (gap_half N a b i1) half_columns (g2_name N) (int (b *ℤ i2)) y
        ∙ ap (λ t. t -ℚ coordinate y n) (scaled-sum (int b) (λ c. c.cost2) (take n y) ∙ ap (λ t. int b *ℚ t) (sym (value_second N bare (take n y))))

    gap-feasible : (y : Point) → IsFeasible G y ↔ IsGapPoint y
    gap-feasible y =
        let below = start-below (a *ℤ b) in
        let half = row-feasible S (g1_name N) None (Some (int (a *ℤ i1))) first_row below y in
        let whole = row-feasible (gap_half N a b i1) (g2_name N) None (Some (int (b *ℤ i2))) second_row (entries_below S (g1_name N) None (Some (int (a *ℤ i1))) first_row below) y in
        let start = start-feasible (a *ℤ b) y in (
          (λ h.
              let outer = whole.0 h in
              let inner = half.0 outer.0 in
              record {
                start = start.0 inner.0;
                first = subst (λ t. int a *ℚ value N 1 (take n y) -ℚ coordinate y n ≤ℚ t) (int-*ℤ a i1) (subst (λ t. t ≤ℚ int (a *ℤ i1)) (first_sum y) inner.1.high);
                second = subst (λ t. int b *ℚ value N 2 (take n y) -ℚ coordinate y n ≤ℚ t) (int-*ℤ b i2) (subst (λ t. t ≤ℚ int (b *ℤ i2)) (second_sum y) outer.1.high);
              }),
          (λ h.
              let first : new_sum S (g1_name N) None (Some (int (a *ℤ i1))) first_row y ≤ℚ int (a *ℤ i1) = subst (λ t. t ≤ℚ int (a *ℤ i1)) (sym (first_sum y)) (subst (λ t. int a *ℚ value N 1 (take n y) -ℚ coordinate y n ≤ℚ t) (sym (int-*ℤ a i1)) h.first) in
              let second : new_sum (gap_half N a b i1) (g2_name N) None (Some (int (b *ℤ i2))) second_row y ≤ℚ int (b *ℤ i2) = subst (λ t. t ≤ℚ int (b *ℤ i2)) (sym (second_sum y)) (subst (λ t. int b *ℚ value N 2 (take n y) -ℚ coordinate y n ≤ℚ t) (sym (int-*ℤ b i2)) h.second) in
              whole.1 (half.1 (start.1 h.start, record { low = tt; high = first }), record { low = tt; high = second })),
        )

    gap-value : (y : Point) → value G 1 y ≡ coordinate y (length N.cols)
    gap-value y =
        value_is (gap_half N a b i1) (g2_name N) None (Some (int (b *ℤ i2))) second_row 1 y
        ∙ value_is S (g1_name N) None (Some (int (a *ℤ i1))) first_row 1 y
        ∙ start-value (a *ℤ b) y

    module _ (whole_first : HasWholeObjective N 1) (whole_second : HasWholeObjective N 2) (a_some : pos 1 ≤ℤ a) (b_some : pos 1 ≤ℤ b) where
      a_is : int (pos 1) ≤ℚ int a
      a_is = (int-≤ℚ-int (pos 1) a).1 a_some

      b_is : int (pos 1) ≤ℚ int b
      b_is = (int-≤ℚ-int (pos 1) b).1 b_some

      -- a point of N with a number behind it
      point_with : (x : Point) (z : ℤ) → IsFeasible N x → int (pos 0) ≤ℚ int z → int z ≤ℚ int (a *ℤ b)
          → int a *ℚ value N 1 x -ℚ int z ≤ℚ int a *ℚ int i1 → int b *ℚ value N 2 x -ℚ int z ≤ℚ int b *ℚ int i2
          → (y : Point) × (IsFeasible G y × ((take (length N.cols) y ≡ x) × (value G 1 y ≡ int z)))
      point_with x z feasible low high first second =
          let y : Point = x ++ int z ∷ [] in
          let front : take (length N.cols) y ≡ x = subst (λ m. take m y ≡ x) feasible.shape (take-front x (int z)) in
          let last : coordinate y (length N.cols) ≡ int z = subst (λ m. coordinate y m ≡ int z) feasible.shape (coordinate-last x (int z)) in
          let point : IsGapPoint y = record {
            start = record {
              shape = (let l = length_push x (int z) in let s = feasible.shape in omega arith);
              point = subst (IsFeasible N) (sym front) feasible;
              last = subst (IsAllowed true (Some (int (pos 0))) (Some (int (a *ℤ b)))) (sym last) (record { bounds = record { low = low; high = high }; whole = λ t. IsWhole-int z });
            };
            first = subst (λ v. v ≤ℚ int a *ℚ int i1) (λ t. int a *ℚ value N 1 (sym front t) -ℚ sym last t) first;
            second = subst (λ v. v ≤ℚ int b *ℚ int i2) (λ t. int b *ℚ value N 2 (sym front t) -ℚ sym last t) second;
          } in
          (y, ((gap-feasible y).1 point, (front, gap-value y ∙ last)))

      product_is : int (a *ℤ b) ≡ int a *ℚ int b
      product_is = int-*ℤ a b

      turned_product : int (a *ℤ b) ≡ int b *ℚ int a
      turned_product = int-*ℤ a b ∙ ring (int a ∷ int b ∷ []) (search reads_ℚ) tt

      gap-below : (y : Point) → IsFeasible G y → value G 1 y <ℚ int (a *ℤ b)
          → IsFeasible N (take (length N.cols) y) × ((value N 1 (take (length N.cols) y) <ℚ int (i1 +ℤ b)) × (value N 2 (take (length N.cols) y) <ℚ int (i2 +ℤ a)))
      gap-below y feasible less =
          let point = (gap-feasible y).0 feasible in
          let under : coordinate y (length N.cols) <ℚ int (a *ℤ b) = subst (λ t. t <ℚ int (a *ℤ b)) (gap-value y) less in (
            point.start.point,
            (
              subst (λ t. value N 1 (take (length N.cols) y) <ℚ t) (sym (int-+ℤ i1 b))
                  (kept_below (int a) (int b) (int i1) (value N 1 (take (length N.cols) y)) (coordinate y (length N.cols)) a_is point.first (subst (λ t. coordinate y (length N.cols) <ℚ t) product_is under)),
              subst (λ t. value N 2 (take (length N.cols) y) <ℚ t) (sym (int-+ℤ i2 a))
                  (kept_below (int b) (int a) (int i2) (value N 2 (take (length N.cols) y)) (coordinate y (length N.cols)) b_is point.second (subst (λ t. coordinate y (length N.cols) <ℚ t) turned_product under)),
            ),
          )

      -- a whole number below I + B is at most I + B - 1
      one_below : (v : ℚ) (i c : ℤ) → IsWhole v → v <ℚ int (i +ℤ c) → v ≤ℚ int i +ℚ int c -ℚ int (pos 1)
      one_below v i c whole less =
          subst (λ t. v ≤ℚ t) (int-difference (i +ℤ c) (pos 1) ∙ ap (λ t. t -ℚ int (pos 1)) (int-+ℤ i c)) (whole-below v (i +ℤ c) whole less)

      gap-extends : (x : Point) → IsFeasible N x → value N 1 x <ℚ int (i1 +ℤ b) → value N 2 x <ℚ int (i2 +ℤ a)
          → (y : Point) × (IsFeasible G y × ((take (length N.cols) y ≡ x) × (value G 1 y <ℚ int (a *ℤ b))))
      gap-extends x feasible first second =
          let z : ℤ = a *ℤ b -ℤ pos 1 in
          let z_is : int z ≡ int a *ℚ int b -ℚ int (pos 1) = int-difference (a *ℤ b) (pos 1) ∙ ap (λ t. t -ℚ int (pos 1)) product_is in
          let turned_is : int z ≡ int b *ℚ int a -ℚ int (pos 1) = int-difference (a *ℤ b) (pos 1) ∙ ap (λ t. t -ℚ int (pos 1)) turned_product in
          let some : int (pos 1) ≤ℚ int a *ℚ int b = product-some (int a) (int b) a_is b_is in
          let low : int (pos 0) ≤ℚ int a *ℚ int b -ℚ int (pos 1) = linear (int a ∷ int b ∷ []) some (search reads_ℚ depth 9) tt in
          let high : int a *ℚ int b -ℚ int (pos 1) ≤ℚ int a *ℚ int b = linear (int a ∷ int b ∷ []) (≤ℚ_refl (int a *ℚ int b)) (search reads_ℚ depth 9) tt in
          let v : value N 1 x ≤ℚ int i1 +ℚ int b -ℚ int (pos 1) = one_below (value N 1 x) i1 b (whole_value N 1 x whole_first feasible) first in
          let w : value N 2 x ≤ℚ int i2 +ℚ int a -ℚ int (pos 1) = one_below (value N 2 x) i2 a (whole_value N 2 x whole_second feasible) second in
          let found = point_with x z feasible (subst (λ t. int (pos 0) ≤ℚ t) (sym z_is) low) (subst₂ ◌≤ℚ◌ (sym z_is) (sym product_is) high)
          (subst (λ t. int a *ℚ value N 1 x -ℚ t ≤ℚ int a *ℚ int i1) (sym z_is) (room_below (int a) (int b) (int i1) (value N 1 x) (int (pos 0)) a_is v))
          (subst (λ t. int b *ℚ value N 2 x -ℚ t ≤ℚ int b *ℚ int i2) (sym turned_is) (room_below (int b) (int a) (int i2) (value N 2 x) (int (pos 0)) b_is w)) in
          let less : int a *ℚ int b -ℚ int (pos 1) <ℚ int a *ℚ int b = linear_strict (int a ∷ int b ∷ []) zero-<ℚ-one (search reads_ℚ depth 9) tt in
          (found.0, (found.1.0, (found.1.1.0, subst₂ ◌<ℚ◌ (sym (found.1.1.1 ∙ z_is)) (sym product_is) less)))

      gap-reaches : (x : Point) → IsFeasible N x → value N 1 x ≤ℚ int (i1 +ℤ b) → value N 2 x ≤ℚ int (i2 +ℤ a)
          → (y : Point) × (IsFeasible G y × ((take (length N.cols) y ≡ x) × (value G 1 y ≡ int (a *ℤ b))))
      gap-reaches x feasible first second =
          let some : int (pos 1) ≤ℚ int a *ℚ int b = product-some (int a) (int b) a_is b_is in
          let low : int (pos 0) ≤ℚ int a *ℚ int b = ≤ℚ_trans (≤ℚ_of_<ℚ zero-<ℚ-one) some in
          let v : value N 1 x ≤ℚ int i1 +ℚ int b = subst (λ t. value N 1 x ≤ℚ t) (int-+ℤ i1 b) first in
          let w : value N 2 x ≤ℚ int i2 +ℚ int a = subst (λ t. value N 2 x ≤ℚ t) (int-+ℤ i2 a) second in
          point_with x (a *ℤ b) feasible (subst (λ t. int (pos 0) ≤ℚ t) (sym product_is) low) (≤ℚ_refl (int (a *ℤ b)))
          (subst (λ t. int a *ℚ value N 1 x -ℚ t ≤ℚ int a *ℚ int i1) (sym product_is) (room_at (int a) (int b) (int i1) (value N 1 x) (int (pos 0)) a_is v))
          (subst (λ t. int b *ℚ value N 2 x -ℚ t ≤ℚ int b *ℚ int i2) (sym turned_product) (room_at (int b) (int a) (int i2) (value N 2 x) (int (pos 0)) b_is w))

      pub sweeps-gap : SweepsGap N a b i1 i2
      sweeps-gap = record { below = gap-below; extends = gap-extends; reaches = gap-reaches }
