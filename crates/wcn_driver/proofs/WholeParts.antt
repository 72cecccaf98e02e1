-- The objective of each inner model is whole, so that it has an end.
use Rattle.std.specs.Prelude.{◌≡◌, ◌≢◌, ℕ, zero, suc, ◌<◌, Bool, true, false, IsTrue, if◌then◌else◌, nat_eq, List, [], ◌∷◌, length, pos, ℤ, ◌*ℤ◌, Option, None, Some}
use Rattle.std.specs.Ordering.{eq_by_cmp}
use Rattle.std.proofs.Common.{refl, sym, subst, ◌∙◌, arith, inl, inr}
use Rattle.std.proofs.lemmas.Bool.{cases_order}
use Rattle.frac128.specs.Rational.{ℚ, int, ◌+ℚ◌, ◌*ℚ◌, IsWhole, rational_cmp}
use Rattle.frac128.specs.RationalRing.{ring, reads_ℚ}
use Rattle.frac128.proofs.Comparison.{eq_by_cmp-decides}
use Rattle.frac128.proofs.Integers.{IsWhole-int, IsWhole-+ℚ}
use Rattle.lp_model.specs.Elements.{of_element}
use Rattle.lp_model.specs.Program.{Program, constant, cost, is_integer, IsWholeCost, HasWholeObjective}
use Rattle.lp_model.specs.Edits.{Named, edited}
use Rattle.lp_model.specs.declared.types.Col.{Col}
use Rattle.lp_model.specs.declared.types.Edit.TheVariants.{AddCol}
use Rattle.inner_models.specs.Inner.{costed, with_objective, capped, z_name, g1_name, g2_name, row_terms, row_terms_less_z, least2_model, left_model, right_model, pull_half, pull_model, gap_start, gap_half, gap_model}
use Rattle.inner_models.proofs.ListLemmas.{of_element-map, of_element-front, of_element-last}
use Rattle.inner_models.proofs.AddedRow.{count_is, cost_is, is_integer_is}
use Rattle.inner_models.proofs.AddedColumn.{new_column, columns_more, cost_old, cost_new}
use Rattle.inner_models.proofs.Objectives.{objective-count}

-- ---- another objective, a row, a column

module _ (N : Program) (f : Col → ℚ) where
  objective_cost : (j : ℕ) → cost (with_objective f N) 1 j ≡ of_element (int (pos 0)) f N.cols j
  objective_cost j = of_element-map (int (pos 0)) (λ c. if nat_eq 1 2 then c.cost2 else c.cost) (costed f) N.cols j

  objective_kind : (j : ℕ) → is_integer (with_objective f N) j ≡ is_integer N j
  objective_kind j = of_element-map false (λ c. c.int) (costed f) N.cols j

  objective_whole : IsWhole (constant N 1) → ((j : ℕ) → j < length N.cols → IsWholeCost (is_integer N j) (of_element (int (pos 0)) f N.cols j)) → HasWholeObjective (with_objective f N) 1
  objective_whole none each = record {
    costs = λ j below.
        let held = each j (subst (λ (n : ℕ). j < n) (objective-count f N) below) in
        subst (λ (T : Type 0). T) (sym (λ i. IsWholeCost (objective_kind j i) (objective_cost j i))) held;
    constant = none;
  }

capped_whole : (B : Program) (name : List ℕ) (hi : ℚ) (named : Named) → HasWholeObjective B 1 → HasWholeObjective (edited B (capped name hi named)) 1
capped_whole B name hi named whole = record {
  costs = λ j below.
      let held = whole.costs j (subst (λ (n : ℕ). j < n) (count_is B name None (Some hi) named) below) in
      subst (λ (T : Type 0). T) (sym (λ i. IsWholeCost (is_integer_is B name None (Some hi) named j i) (cost_is B name None (Some hi) named 1 j i))) held;
  constant = whole.constant;
}

module _ (B : Program) (name : List ℕ) (lo up : Option ℚ) where
  abbrev C : Program
  C = edited B (AddCol name true lo up (int (pos 1)) (int (pos 0)) [])

  abbrev new : Col
  new = new_column B name true lo up (int (pos 1)) (int (pos 0))

  column_whole : HasWholeObjective B 1 → HasWholeObjective C 1
  column_whole whole = record {
    costs = λ j below. elim (cases_order j (length B.cols)) [
      | inl same ↦ subst (λ (k : ℕ). IsWholeCost (is_integer C k) (cost C 1 k)) (sym same) last
      | inr apart ↦ elim apart [
        | inl less ↦ old j less
        | inr above ↦ let more = columns_more B name true lo up (int (pos 1)) (int (pos 0)) in absurd (omega arith)
      ]
    ];
    constant = whole.constant;
  }
    where
      last : IsWholeCost (is_integer C (length B.cols)) (cost C 1 (length B.cols))
      last =
          subst (λ (T : Type 0). T) (sym (λ i. IsWholeCost (of_element-last false (λ (c : Col). c.int) B.cols new i) (cost_new B name true lo up (int (pos 1)) (int (pos 0)) i)))
          (record { whole = IsWhole-int (pos 1); costed = λ some. refl })

      old : (j : ℕ) → j < length B.cols → IsWholeCost (is_integer C j) (cost C 1 j)
      old j less =
          subst (λ (T : Type 0). T) (sym (λ i. IsWholeCost (of_element-front false (λ (c : Col). c.int) B.cols (new ∷ []) j less i) (cost_old B name true lo up (int (pos 1)) (int (pos 0)) 1 j less i)))
          (whole.costs j less)

-- ---- numbers of the columns

zeros : (cols : List Col) (j : ℕ) → of_element (int (pos 0)) (λ (c : Col). int (pos 0)) cols j ≡ int (pos 0)
zeros [] j = refl
zeros (c ∷ cols) zero = refl
zeros (c ∷ cols) (suc j) = zeros cols j

sums : (cols : List Col) (j : ℕ) → of_element (int (pos 0)) (λ (c : Col). c.cost +ℚ c.cost2) cols j ≡ of_element (int (pos 0)) (λ (c : Col). c.cost) cols j +ℚ of_element (int (pos 0)) (λ (c : Col). c.cost2) cols j
sums [] j = ring [] (search reads_ℚ) tt
sums (c ∷ cols) zero = refl
sums (c ∷ cols) (suc j) = sums cols j

sum_whole : (integer : Bool) (a b : ℚ) → IsWholeCost integer a → IsWholeCost integer b → IsWholeCost integer (a +ℚ b)
sum_whole integer a b first second = record { whole = IsWhole-+ℚ a b first.whole second.whole; costed = λ some. by some (eq_by_cmp rational_cmp a (int (pos 0))) refl }
  where
    by : a +ℚ b ≢ int (pos 0) → (t : Bool) → eq_by_cmp rational_cmp a (int (pos 0)) ≡ t → IsTrue integer
    by some true e =
        let none : a ≡ int (pos 0) = (eq_by_cmp-decides a (int (pos 0))).0 e in
        second.costed (λ (h : b ≡ int (pos 0)). some ((λ i. none i +ℚ h i) ∙ ring [] (search reads_ℚ) tt))
    by some false e =
        first.costed (λ (h : a ≡ int (pos 0)). let t : eq_by_cmp rational_cmp a (int (pos 0)) ≡ true = (eq_by_cmp-decides a (int (pos 0))).1 h in absurd cc)

-- ---- the inner models

module _ (N : Program) (first : HasWholeObjective N 1) (second : HasWholeObjective N 2) where
  pub least2_whole : HasWholeObjective (least2_model N) 1
  least2_whole = objective_whole N (λ c. c.cost2) first.constant second.costs

  pub left_whole : (i1 : ℤ) → HasWholeObjective (left_model N i1) 1
  left_whole i1 = capped_whole (least2_model N) (g1_name N) (int i1) (row_terms (λ c. c.cost) N) least2_whole

  pub right_whole : (i2 : ℤ) → HasWholeObjective (right_model N i2) 1
  right_whole i2 = capped_whole N (g1_name N) (int i2) (row_terms (λ c. c.cost2) N) first

  pub pull_whole : (r1 r2 : ℤ) → HasWholeObjective (pull_model N r1 r2) 1
  pull_whole r1 r2 =
      capped_whole (pull_half N r1) (g2_name N) (int r2) (row_terms (λ c. c.cost2) N)
      (capped_whole (with_objective (λ c. c.cost +ℚ c.cost2) N) (g1_name N) (int r1) (row_terms (λ c. c.cost) N)
      (objective_whole N (λ c. c.cost +ℚ c.cost2) first.constant
      (λ j below.
      subst (λ (q : ℚ). IsWholeCost (is_integer N j) q) (sym (sums N.cols j))
      (sum_whole (is_integer N j) (cost N 1 j) (cost N 2 j) (first.costs j below) (second.costs j below)))))

  pub gap_whole : (a b i1 i2 : ℤ) → HasWholeObjective (gap_model N a b i1 i2) 1
  gap_whole a b i1 i2 =
      let start : HasWholeObjective (with_objective (λ c. int (pos 0)) N) 1 =
      objective_whole N (λ c. int (pos 0)) first.constant
      (λ j below. subst (λ (q : ℚ). IsWholeCost (is_integer N j) q) (sym (zeros N.cols j)) (record { whole = IsWhole-int (pos 0); costed = λ some. absurd (some refl) })) in
      capped_whole (gap_half N a b i1) (g2_name N) (int (b *ℤ i2)) (row_terms_less_z (λ c. int b *ℚ c.cost2) N)
      (capped_whole (gap_start N (a *ℤ b)) (g1_name N) (int (a *ℤ i1)) (row_terms_less_z (λ c. int a *ℚ c.cost) N)
      (column_whole (with_objective (λ c. int (pos 0)) N) (z_name N) (Some (int (pos 0))) (Some (int (a *ℤ b))) start))
