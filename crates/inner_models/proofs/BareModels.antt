-- The model in least form with constants 0: its points, its values, and that it is lawful.
use Rattle.std.specs.Prelude.{◌≡◌, ◌≢◌, ◌↔◌, ℕ, zero, suc, ◌+◌, ◌<◌, ◌≤◌, true, false, IsTrue, List, [], ◌∷◌, length, map, sum_by, AllPairs, pos}
use Rattle.std.proofs.Common.{refl, sym, ap, subst, ◌∙◌, arith}
use Rattle.std.proofs.lemmas.List.Elements.{All-map}
use Rattle.std.proofs.lemmas.List.Sums.{sum_by-cons}
use Rattle.frac128.specs.Rational.{ℚ, int, ◌+ℚ◌, ◌*ℚ◌, neg_ℚ, IsWhole}
use Rattle.frac128.specs.RationalRing.{ring, reads_ℚ}
use Rattle.frac128.specs.Sums.{sum_below}
use Rattle.frac128.proofs.Integers.{IsWhole-int, IsWhole-neg_ℚ}
use Rattle.checked_sum.proofs.SumLaws.{sum_below-same, sum_below-neg}
use Rattle.lp_model.specs.Elements.{of_element}
use Rattle.lp_model.specs.Program.{Program, Point, coordinate, constant, cost, is_integer, in_least_form, IsFeasible, HasWholeObjective}
use Rattle.lp_model.specs.Lawful.{IsLawfulColumn, IsLawful}
use Rattle.lp_model.specs.Limits.{col_limit, entry_limit}
use Rattle.lp_model.proofs.Widened.{more_rows, more_columns, more_entries}
use Rattle.lp_model.specs.declared.types.Sense.{Sense}
use Rattle.lp_model.specs.declared.types.Sense.TheVariants.{Min, Max}
use Rattle.lp_model.specs.declared.types.Col.{Col}
use Rattle.inner_models.specs.Inner.{least_col, bare_model, IsBare}
use Rattle.inner_models.specs.Laws.{KeepsPoints}
use Rattle.inner_models.proofs.ListLemmas.{of_element-map}
use Rattle.inner_models.proofs.Objectives.{recosted-count, recosted-feasible}

-- ---- numbers in least form

least-zero : (s : Sense) → in_least_form s (int (pos 0)) ≡ int (pos 0)
least-zero Min = refl
least-zero Max = ring [] (search reads_ℚ) tt

least-elements : (s : Sense) (f : Col → ℚ) (cols : List Col) (j : ℕ) → of_element (int (pos 0)) (λ c. in_least_form s (f c)) cols j ≡ in_least_form s (of_element (int (pos 0)) f cols j)
least-elements s f [] j = sym (least-zero s)
least-elements s f (c ∷ cols) zero = refl
least-elements s f (c ∷ cols) (suc j) = least-elements s f cols j

-- a value in least form, its constant aside
least-sum : (s : Sense) (n : ℕ) (c : ℚ) (k : ℕ → ℚ) (x : ℕ → ℚ) → in_least_form s (c +ℚ sum_below n (λ j. k j *ℚ x j)) ≡ in_least_form s c +ℚ (int (pos 0) +ℚ sum_below n (λ j. in_least_form s (k j) *ℚ x j))
least-sum Min n c k x = ring (c ∷ sum_below n (λ j. k j *ℚ x j) ∷ []) (search reads_ℚ) tt
least-sum Max n c k x =
    ring (c ∷ sum_below n (λ j. k j *ℚ x j) ∷ []) (search reads_ℚ depth 9) tt
    ∙ ap (λ t. neg_ℚ c +ℚ (int (pos 0) +ℚ t))
    (sym (sum_below-same n (λ j. neg_ℚ (k j) *ℚ x j) (λ j. neg_ℚ (k j *ℚ x j)) (λ j below. ring (k j ∷ x j ∷ []) (search reads_ℚ) tt) ∙ sum_below-neg n (λ j. k j *ℚ x j)))

-- ---- the model

module _ (M : Program) where
  abbrev N : Program
  N = bare_model M

  abbrev g : Col → Col
  g c = least_col M.sense c

  pub bare : IsBare (bare_model M)
  bare = record { least = refl; constants = refl; wide = refl }

  bare-count : length N.cols ≡ length M.cols
  bare-count = recosted-count M N g refl refl (λ c. refl) (λ c. refl) (λ c. refl) (λ c. refl)

  bare-feasible : (x : Point) → IsFeasible (bare_model M) x ↔ IsFeasible M x
  bare-feasible x = recosted-feasible M N g refl refl (λ c. refl) (λ c. refl) (λ c. refl) (λ c. refl) x

  first_cost : (j : ℕ) → cost N 1 j ≡ in_least_form M.sense (cost M 1 j)
  first_cost j = of_element-map (int (pos 0)) (λ c. c.cost) g M.cols j ∙ least-elements M.sense (λ c. c.cost) M.cols j

  second_cost : (j : ℕ) → cost N 2 j ≡ in_least_form M.sense (cost M 2 j)
  second_cost j = of_element-map (int (pos 0)) (λ c. c.cost2) g M.cols j ∙ least-elements M.sense (λ c. c.cost2) M.cols j

  pub keeps_points : KeepsPoints M
  keeps_points = record {
    feasible = bare-feasible;
    first = λ x.
        least-sum M.sense (length M.cols) (constant M 1) (cost M 1) (coordinate x)
        ∙ (λ t. in_least_form M.sense (constant M 1) +ℚ (int (pos 0) +ℚ sum_below (sym bare-count t) (λ j. sym (first_cost j) t *ℚ coordinate x j)));
    second = λ x.
        least-sum M.sense (length M.cols) (constant M 2) (cost M 2) (coordinate x)
        ∙ (λ t. in_least_form M.sense (constant M 2) +ℚ (int (pos 0) +ℚ sum_below (sym bare-count t) (λ j. sym (second_cost j) t *ℚ coordinate x j)));
  }

  -- ---- it is lawful, and its objectives are whole where the model's are

  names_is : (cols : List Col) → map (λ c. c.name) (map g cols) ≡ map (λ c. c.name) cols
  names_is [] = refl
  names_is (c ∷ cols) = ap (λ l. c.name ∷ l) (names_is cols)

  entries_is : (cols : List Col) → sum_by (λ c. length c.rows) (map g cols) ≡ sum_by (λ c. length c.rows) cols
  entries_is [] = refl
  entries_is (c ∷ cols) =
      sum_by-cons (λ e. length e.rows) (g c) (map g cols)
      ∙ ap (λ n. length c.rows + n) (entries_is cols)
      ∙ sym (sum_by-cons (λ e. length e.rows) c cols)

  pub bare-lawful : IsLawful M → IsLawful (bare_model M)
  bare-lawful lawful = record {
    constants = refl;
    ranges = lawful.ranges;
    columns = All-map (IsLawfulColumn (length M.rows)) g M.cols
        (λ i c within. let held = lawful.columns i c within in record { bounded = held.bounded; entries = held.entries });
    rows_distinct = lawful.rows_distinct;
    columns_distinct = subst (AllPairs (λ a b. a ≢ b)) (sym (names_is M.cols)) lawful.columns_distinct;
    limits = record {
      few_rows = (let few = lawful.limits.few_rows in let more = more_rows M.wide in omega arith);
      few_columns = subst (λ n. n ≤ col_limit true) (sym bare-count) (let few = lawful.limits.few_columns in let more = more_columns M.wide in omega arith);
      few_entries = subst (λ n. n ≤ entry_limit true) (sym (entries_is M.cols)) (let few = lawful.limits.few_entries in let more = more_entries M.wide in omega arith);
    };
  }

  least-whole : (s : Sense) (v : ℚ) → IsWhole v → IsWhole (in_least_form s v)
  least-whole Min v h = h
  least-whole Max v h = IsWhole-neg_ℚ v h

  least-some : (s : Sense) (v : ℚ) → in_least_form s v ≢ int (pos 0) → v ≢ int (pos 0)
  least-some s v some e = some (ap (in_least_form s) e ∙ least-zero s)

  bare-kind : (j : ℕ) → is_integer N j ≡ is_integer M j
  bare-kind j = of_element-map false (λ c. c.int) g M.cols j

  module _ (w : ℕ) (costs : (j : ℕ) → cost N w j ≡ in_least_form M.sense (cost M w j)) (none : IsWhole (constant N w)) where
    bare-whole : HasWholeObjective M w → HasWholeObjective (bare_model M) w
    bare-whole whole = record {
      costs = λ j below.
          let held = whole.costs j (subst (λ n. j < n) bare-count below) in
          record {
            whole = subst IsWhole (sym (costs j)) (least-whole M.sense (cost M w j) held.whole);
            costed = λ some. subst IsTrue (sym (bare-kind j)) (held.costed (least-some M.sense (cost M w j) (λ e. some (costs j ∙ e))));
          };
      constant = none;
    }

  pub bare-first : HasWholeObjective M 1 → HasWholeObjective (bare_model M) 1
  bare-first = bare-whole 1 first_cost (IsWhole-int (pos 0))

  pub bare-second : HasWholeObjective M 2 → HasWholeObjective (bare_model M) 2
  bare-second = bare-whole 2 second_cost (IsWhole-int (pos 0))
