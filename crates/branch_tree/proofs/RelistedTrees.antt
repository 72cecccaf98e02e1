-- The tree whose lists are changed is the one that specs/Following says.
use Rattle.std.specs.Prelude.{◌≡◌, ℕ, Bool, true, false, if◌then◌else◌, nat_eq, int_le, pos, List}
use Rattle.std.proofs.Common.{Bor, refl, sym, ap, ◌∙◌}
use Rattle.lp_model.specs.declared.types.CutId.{CutId}
use Rattle.lp_model.specs.declared.types.Var.{Var}
use Rattle.lp_model.specs.declared.types.Var.TheVariants.{Col, Row, Cut}
use Rattle.branch_tree.specs.Tree.{Leaf, Split}
use Rattle.branch_tree.specs.Plain.{Plain}
use Rattle.branch_tree.specs.Numbered.{NumberedTree}
use Rattle.branch_tree.specs.Following.{same_var, column_after, split_without, without_variable, tree_without, split_left, branch_left, tree_left}
use Rattle.branch_tree.specs.private.Splicing.{spliced}
use Rattle.branch_tree.specs.private.Relisted.{lists_left_by, tree_left_by, spliced_on}
use Rattle.branch_tree.specs.declared.following.Removed.TheVariants.{Variable, Cuts}
use Rattle.branch_tree.specs.declared.gone.GoneCuts.{GoneCuts}

module _ (g : Bor Var) where
  -- a variable on which no split can be
  without-other : ((i : ℕ) → same_var g.now (Col (record { 0 = i })) ≡ false) → (t : Plain) → lists_left_by (Variable g) t ≡ without_variable g.now t
  without-other other (Leaf l) = refl
  without-other other (Split kept i v left right) =
      ap (λ (t : Plain). Split (split_without g.now kept) (column_after g.now i) v t (lists_left_by (Variable g) right)) (without-other other left)
      ∙ ap (λ (t : Plain). Split (split_without g.now kept) (column_after g.now i) v (without_variable g.now left) t) (without-other other right)
      ∙ sym (ap (λ (b : Bool). if b then (if int_le (pos 0) v then without_variable g.now left else without_variable g.now right) else Split (split_without g.now kept) (column_after g.now i) v (without_variable g.now left) (without_variable g.now right)) (other i))

  -- a column, once its splits are out
  without-column : (j : ℕ) → ((i : ℕ) → same_var g.now (Col (record { 0 = i })) ≡ nat_eq j i) → (t : Plain) → lists_left_by (Variable g) (spliced j t) ≡ without_variable g.now t
  without-column j on (Leaf l) = refl
  without-column j on (Split kept i v left right) = by (nat_eq j i) refl (without-column j on left) (without-column j on right)
    where
      by : (b : Bool) → nat_eq j i ≡ b → lists_left_by (Variable g) (spliced j left) ≡ without_variable g.now left → lists_left_by (Variable g) (spliced j right) ≡ without_variable g.now right
          → lists_left_by (Variable g) (if b then (if int_le (pos 0) v then spliced j left else spliced j right) else Split kept i v (spliced j left) (spliced j right)) ≡ without_variable g.now (Split kept i v left right)
      by b e low high =
          elim b as (λ b. lists_left_by (Variable g) (if b then (if int_le (pos 0) v then spliced j left else spliced j right) else Split kept i v (spliced j left) (spliced j right))
          ≡ (if b then (if int_le (pos 0) v then without_variable g.now left else without_variable g.now right) else Split (split_without g.now kept) (column_after g.now i) v (without_variable g.now left) (without_variable g.now right))) [
            | true ↦ elim (int_le (pos 0) v) as (λ c. lists_left_by (Variable g) (if c then spliced j left else spliced j right) ≡ (if c then without_variable g.now left else without_variable g.now right)) [ true ↦ low | false ↦ high ]
            | false ↦ (
                ap (λ (t : Plain). Split (split_without g.now kept) (column_after g.now i) v t (lists_left_by (Variable g) (spliced j right))) low
                ∙ ap (λ (t : Plain). Split (split_without g.now kept) (column_after g.now i) v (without_variable g.now left) t) high
                )
          ]
          ∙ sym (ap (λ (b : Bool). if b then (if int_le (pos 0) v then without_variable g.now left else without_variable g.now right) else Split (split_without g.now kept) (column_after g.now i) v (without_variable g.now left) (without_variable g.now right)) (on i ∙ e))

  pub without-relisted : (T : NumberedTree) → tree_left_by (Variable g) (spliced_on g.now T) ≡ tree_without g.now T
  without-relisted T = by g.now refl
    where
      by : (w : Var) → g.now ≡ w → tree_left_by (Variable g) (spliced_on w T) ≡ tree_without g.now T
      by (Col j) e = ap (λ (t : Plain). record { root = t; last = T.last; limit = T.limit }) (without-column j.0 (λ i. ap (λ w. same_var w (Col (record { 0 = i }))) e) T.root)
      by (Row r) e = ap (λ (t : Plain). record { root = t; last = T.last; limit = T.limit }) (without-other (λ i. ap (λ w. same_var w (Col (record { 0 = i }))) e) T.root)
      by (Cut k) e = ap (λ (t : Plain). record { root = t; last = T.last; limit = T.limit }) (without-other (λ i. ap (λ w. same_var w (Col (record { 0 = i }))) e) T.root)

module _ (g : Bor GoneCuts) (gone : List CutId) (is : g.now.cuts.now ≡ gone) where
  cuts-left : (t : Plain) → lists_left_by (Cuts g) t ≡ branch_left g.now.cuts.now t
  cuts-left (Leaf l) = refl
  cuts-left (Split kept j v left right) =
      ap (λ (t : Plain). Split (split_left g.now.cuts.now kept) j v t (lists_left_by (Cuts g) right)) (cuts-left left)
      ∙ ap (λ (t : Plain). Split (split_left g.now.cuts.now kept) j v (branch_left g.now.cuts.now left) t) (cuts-left right)

  pub cuts-relisted : (T : NumberedTree) → tree_left_by (Cuts g) T ≡ tree_left gone T
  cuts-relisted T = ap (λ (t : Plain). record { root = t; last = T.last; limit = T.limit }) (cuts-left T.root) ∙ ap (λ l. tree_left l T) is
