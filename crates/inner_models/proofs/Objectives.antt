-- A model with another objective 1 has the model's feasible points.
use Rattle.std.specs.Prelude.{◌≡◌, ◌↔◌, ℕ, ◌<◌, false, List, length, map, All, pos, None}
use Rattle.std.proofs.Common.{refl, sym, ap, subst, ◌∙◌}
use Rattle.std.proofs.lemmas.List.{length-map}
use Rattle.std.proofs.lemmas.List.Elements.{All-map}
use Rattle.frac128.specs.Rational.{ℚ, int, ◌+ℚ◌, ◌*ℚ◌}
use Rattle.frac128.specs.Sums.{sum_below}
use Rattle.lp_model.specs.Elements.{of_element}
use Rattle.lp_model.specs.Program.{Program, Point, coordinate, constant, entry_of, value, Within, IsAllowed, ColumnHolds, RowHolds, IsFeasible}
use Rattle.lp_model.specs.declared.types.Col.{Col}
use Rattle.inner_models.specs.Inner.{with_objective}
use Rattle.inner_models.proofs.ListLemmas.{of_element-map, of_element-same}
use Rattle.inner_models.proofs.AddedRow.{AreBelow}

-- a model whose columns are changed in their costs alone; the sense and the constants may differ
module _ (N P : Program) (g : Col → Col) (cols_are : P.cols ≡ map g N.cols) (rows_are : P.rows ≡ N.rows) (lower_kept : (c : Col) → (g c).lo ≡ c.lo) (upper_kept : (c : Col) → (g c).up ≡ c.up) (kind_kept : (c : Col) → (g c).int ≡ c.int) (entries_kept : (c : Col) → (g c).rows ≡ c.rows) where
  pub recosted-count : length P.cols ≡ length N.cols
  recosted-count = ap length cols_are ∙ length-map N.cols g

  element_is : {A : Type 0} (d : A) (f : Col → A) → ((c : Col) → f (g c) ≡ f c) → (j : ℕ) → of_element d f P.cols j ≡ of_element d f N.cols j
  element_is d f same j = ap (λ cs. of_element d f cs j) cols_are ∙ of_element-map d f g N.cols j ∙ along N.cols j
    where
      along : (cs : List Col) (k : ℕ) → of_element d (λ c. f (g c)) cs k ≡ of_element d f cs k
      along cs k = of_element-same d (λ c. f (g c)) f same cs k

  column_is : (x : Point) (j : ℕ) → ColumnHolds P x j ≡ ColumnHolds N x j
  column_is x j t =
      IsAllowed (element_is false (λ c. c.int) kind_kept j t) (element_is None (λ c. c.lo) lower_kept j t) (element_is None (λ c. c.up) upper_kept j t) (coordinate x j)

  row_is : (x : Point) (i : ℕ) → RowHolds P x i ≡ RowHolds N x i
  row_is x i t =
      Within (of_element None (λ r. r.lo) (rows_are t) i) (of_element None (λ r. r.hi) (rows_are t) i)
      (sum_below (recosted-count t) (λ j. element_is (int (pos 0)) (λ c. entry_of i c.rows) (λ c. ap (entry_of i) (entries_kept c)) j t *ℚ coordinate x j))

  pub recosted-feasible : (x : Point) → IsFeasible P x ↔ IsFeasible N x
  recosted-feasible x = (
    (λ h. record {
      shape = h.shape ∙ recosted-count;
      columns = λ j below. subst (λ T. T) (column_is x j) (h.columns j (subst (λ m. j < m) (sym recosted-count) below));
      rows = λ i below. subst (λ T. T) (row_is x i) (h.rows i (subst (λ rs. i < length rs) (sym rows_are) below));
    }),
    (λ h. record {
      shape = h.shape ∙ sym recosted-count;
      columns = λ j below. subst (λ T. T) (sym (column_is x j)) (h.columns j (subst (λ m. j < m) recosted-count below));
      rows = λ i below. subst (λ T. T) (sym (row_is x i)) (h.rows i (subst (λ rs. i < length rs) rows_are below));
    }),
  )

module _ (f : Col → ℚ) (N : Program) where
  abbrev g : Col → Col
  g c = record c { cost = f c }

  pub objective-count : length (with_objective f N).cols ≡ length N.cols
  objective-count = length-map N.cols g

  pub objective-feasible : (x : Point) → IsFeasible (with_objective f N) x ↔ IsFeasible N x
  objective-feasible x = recosted-feasible N (with_objective f N) g refl refl (λ c. refl) (λ c. refl) (λ c. refl) (λ c. refl) x

  pub objective-below : All (AreBelow (length N.rows)) N.cols → All (AreBelow (length N.rows)) (with_objective f N).cols
  objective-below all = All-map (AreBelow (length N.rows)) g N.cols all

  pub objective-value : (x : Point) → value (with_objective f N) 1 x ≡ constant N 1 +ℚ sum_below (length N.cols) (λ j. of_element (int (pos 0)) f N.cols j *ℚ coordinate x j)
  objective-value x t = constant N 1 +ℚ sum_below (objective-count t) (λ j. of_element-map (int (pos 0)) (λ c. c.cost) g N.cols j t *ℚ coordinate x j)
