-- The model without costs: all but the costs of objective 1 stay.
use Rattle.std.specs.Prelude.{◌≡◌, ◌≢◌, ◌↔◌, ℕ, zero, suc, ◌+◌, ◌<◌, ◌≤◌, if◌then◌else◌, List, [], ◌∷◌, map, length, sum_by, AllPairs, pos, None}
use Rattle.std.specs.Option.{option_map}
use Rattle.std.proofs.Common.{refl, sym, ap, subst, ◌∙◌}
use Rattle.std.proofs.lemmas.List.{length-map}
use Rattle.std.proofs.lemmas.List.Elements.{All-map}
use Rattle.std.proofs.lemmas.List.Sums.{sum_by-cons}
use Rattle.frac128.specs.Rational.{int, ◌*ℚ◌, floor, ceil}
use Rattle.frac128.specs.Sums.{sum_below}
use Rattle.lp_model.specs.Elements.{of_element}
use Rattle.lp_model.specs.Program.{Program, Point, coordinate, coefficient, entry_of, lower, upper, is_integer, low_side, high_side, Within, IsAllowed, ColumnHolds, RowHolds, IsFeasible}
use Rattle.lp_model.specs.Lawful.{IsLawfulColumn, IsLawful}
use Rattle.lp_model.specs.Limits.{col_limit, entry_limit}
use Rattle.lp_model.specs.Regions.{Path, low_along, high_along, region_low, region_high, IsCrossed, IsEmptyRegion}
use Rattle.lp_model.specs.declared.types.Col.{Col}
use Rattle.model_points.specs.Rays.{without_cost, without_costs}
use Rattle.model_points.specs.Laws.{HasSamePoints}

of_element-map : {A B C : Type 0} (d : C) (f : B → C) (g : A → B) (xs : List A) (k : ℕ) → of_element d f (map g xs) k ≡ of_element d (λ a. f (g a)) xs k
of_element-map d f g [] k = refl
of_element-map d f g (x ∷ xs) zero = refl
of_element-map d f g (x ∷ xs) (suc k) = of_element-map d f g xs k

of_element-default : {A B : Type 0} (d : B) (xs : List A) (k : ℕ) → of_element d (λ a. d) xs k ≡ d
of_element-default d [] k = refl
of_element-default d (x ∷ xs) zero = refl
of_element-default d (x ∷ xs) (suc k) = of_element-default d xs k

module _ (M : Program) where
  abbrev Z : Program
  Z = without_costs M

  count_is : length Z.cols ≡ length M.cols
  count_is = length-map M.cols without_cost

  lower_is : (j : ℕ) → lower Z j ≡ lower M j
  lower_is j = of_element-map None (λ c. c.lo) without_cost M.cols j

  upper_is : (j : ℕ) → upper Z j ≡ upper M j
  upper_is j = of_element-map None (λ c. c.up) without_cost M.cols j

  is_integer_is : (j : ℕ) → is_integer Z j ≡ is_integer M j
  is_integer_is j = of_element-map _ (λ c. c.int) without_cost M.cols j

  coefficient_is : (i j : ℕ) → coefficient Z i j ≡ coefficient M i j
  coefficient_is i j = of_element-map (int (pos 0)) (λ c. entry_of i c.rows) without_cost M.cols j

  column_is : (x : Point) (j : ℕ) → ColumnHolds Z x j ≡ ColumnHolds M x j
  column_is x j i = IsAllowed (is_integer_is j i) (lower_is j i) (upper_is j i) (coordinate x j)

  row_is : (x : Point) (r : ℕ) → RowHolds Z x r ≡ RowHolds M x r
  row_is x r i = Within (low_side M r) (high_side M r) (sum_below (count_is i) (λ j. coefficient_is r j i *ℚ coordinate x j))

  feasible_is : (x : Point) → IsFeasible Z x ↔ IsFeasible M x
  feasible_is x = (
    (λ h. record {
      shape = h.shape ∙ count_is;
      columns = λ j below. subst (λ P. P) (column_is x j) (h.columns j (subst (λ n. j < n) (sym count_is) below));
      rows = λ r below. subst (λ P. P) (row_is x r) (h.rows r below);
    }),
    (λ h. record {
      shape = h.shape ∙ sym count_is;
      columns = λ j below. subst (λ P. P) (sym (column_is x j)) (h.columns j (subst (λ n. j < n) count_is below));
      rows = λ r below. subst (λ P. P) (sym (row_is x r)) (h.rows r below);
    }),
  )

  low_is : (path : Path) (j : ℕ) → region_low Z path j ≡ region_low M path j
  low_is path j i = low_along path j (if is_integer_is j i then option_map (λ l. int (ceil l)) (lower_is j i) else lower_is j i)

  high_is : (path : Path) (j : ℕ) → region_high Z path j ≡ region_high M path j
  high_is path j i = high_along path j (if is_integer_is j i then option_map (λ h. int (floor h)) (upper_is j i) else upper_is j i)

  empty_is : (path : Path) → IsEmptyRegion Z path ≡ IsEmptyRegion M path
  empty_is path i = (j : ℕ) × ((j < count_is i) × IsCrossed (low_is path j i) (high_is path j i))

  pub same_points : HasSamePoints M
  same_points = record {
    count = count_is;
    costs = λ j. of_element-map (int (pos 0)) (λ c. c.cost) without_cost M.cols j ∙ of_element-default (int (pos 0)) M.cols j;
    second_costs = λ j. of_element-map (int (pos 0)) (λ c. c.cost2) without_cost M.cols j;
    coefficients = coefficient_is;
    lowers = lower_is;
    uppers = upper_is;
    integers = is_integer_is;
    region_lows = low_is;
    region_highs = high_is;
    feasible = feasible_is;
    empty = λ path. (subst (λ P. P) (empty_is path), subst (λ P. P) (sym (empty_is path)));
  }

  -- ---- it is lawful too

  names_is : (cols : List Col) → map (λ c. c.name) (map without_cost cols) ≡ map (λ c. c.name) cols
  names_is [] = refl
  names_is (c ∷ cols) = ap (λ l. c.name ∷ l) (names_is cols)

  entries_is : (cols : List Col) → sum_by (λ c. length c.rows) (map without_cost cols) ≡ sum_by (λ c. length c.rows) cols
  entries_is [] = refl
  entries_is (c ∷ cols) =
      sum_by-cons (λ e. length e.rows) (without_cost c) (map without_cost cols)
      ∙ ap (λ n. length c.rows + n) (entries_is cols)
      ∙ sym (sum_by-cons (λ e. length e.rows) c cols)

  pub lawful-without_costs : IsLawful M → IsLawful Z
  lawful-without_costs lawful = record {
    constants = lawful.constants;
    ranges = lawful.ranges;
    columns = All-map (IsLawfulColumn (length M.rows)) without_cost M.cols
        (λ i c within. let held = lawful.columns i c within in record { bounded = held.bounded; entries = held.entries });
    rows_distinct = lawful.rows_distinct;
    columns_distinct = subst (AllPairs (λ a b. a ≢ b)) (sym (names_is M.cols)) lawful.columns_distinct;
    limits = record {
      few_rows = lawful.limits.few_rows;
      few_columns = subst (λ n. n ≤ col_limit M.wide) (sym count_is) lawful.limits.few_columns;
      few_entries = subst (λ n. n ≤ entry_limit M.wide) (sym (entries_is M.cols)) lawful.limits.few_entries;
    };
  }
