-- The tree without its splits on a column: it is numbered, and where there is no such split it is the same.
use Rattle.std.specs.Prelude.{◌≡◌, ◌≢◌, ℕ, ◌+◌, ◌-◌, ◌^◌, ◌≤◌, Bool, true, false, if◌then◌else◌, nat_eq, int_le, ℤ, pos, ◌<ℤ◌}
use Rattle.std.proofs.Common.{refl, ap, ◌∙◌, arith}
use Rattle.std.proofs.lemmas.Bool.{eqb-true, eqb-false}
use Rattle.branch_tree.specs.Tree.{Leaf, Split, split_count, EachSplit}
use Rattle.branch_tree.specs.Plain.{SplitKept, Plain, one_if_same, nodes_with}
use Rattle.branch_tree.specs.Numbered.{NumberedTree, IsNumbered}
use Rattle.branch_tree.specs.private.Splicing.{spliced, spliced_tree}
use Rattle.branch_tree.specs.private.Spliced.{splits_over}
use Rattle.branch_tree.proofs.CountLemmas.{nodes-splits}

-- a split after it, beside whether it is on the column
pub on_column_case : (P : Plain → ℕ → Type 0) (j : ℕ) (kept : SplitKept) (i : ℕ) (v : ℤ) (left right : Plain)
    → (j ≡ i → P (if int_le (pos 0) v then spliced j left else spliced j right) 1) → (j ≢ i → P (Split kept i v (spliced j left) (spliced j right)) 0)
    → P (spliced j (Split kept i v left right)) (one_if_same j i)
on_column_case P j kept i v left right there elsewhere = by (nat_eq j i) refl
  where
    by : (c : Bool) → nat_eq j i ≡ c → P (if c then (if int_le (pos 0) v then spliced j left else spliced j right) else Split kept i v (spliced j left) (spliced j right)) (if c then 1 else 0)
    by true e = there (eqb-true j i e)
    by false e = elsewhere (eqb-false j i e)

-- and what holds of it, whichever child stays
spliced_case : (P : Plain → Type 0) (j : ℕ) (kept : SplitKept) (i : ℕ) (v : ℤ) (left right : Plain) → P (spliced j left) → P (spliced j right) → P (Split kept i v (spliced j left) (spliced j right)) → P (spliced j (Split kept i v left right))
spliced_case P j kept i v left right low high both =
    on_column_case (λ r n. P r) j kept i v left right (λ is. elim (int_le (pos 0) v) as (λ b. P (if b then spliced j left else spliced j right)) [ true ↦ low | false ↦ high ]) (λ ne. both)

module _ (j : ℕ) where
  pub spliced-none : (t : Plain) → splits_over j t ≡ 0 → spliced j t ≡ t
  spliced-none (Leaf l) none = refl
  spliced-none (Split kept i v left right) none =
      on_column_case (λ r n. n + (splits_over j left + splits_over j right) ≡ 0 → r ≡ Split kept i v left right) j kept i v left right (λ is z. absurd (omega arith))
      (λ ne z. ap (λ l. Split kept i v l (spliced j right)) (spliced-none left (omega arith)) ∙ ap (λ r. Split kept i v left r) (spliced-none right (omega arith))) none

  pub splits-spliced : (t : Plain) → split_count (spliced j t) ≤ split_count t
  splits-spliced (Leaf l) = omega arith
  splits-spliced (Split kept i v left right) =
      spliced_case (λ r. split_count r ≤ split_count left + split_count right + 1) j kept i v left right
      (omega (arith, splits-spliced left)) (omega (arith, splits-spliced right)) (omega (arith, splits-spliced left, splits-spliced right))

  pub with-spliced : (k : ℕ) (t : Plain) → nodes_with k (spliced j t) ≤ nodes_with k t
  with-spliced k (Leaf l) = omega arith
  with-spliced k (Split kept i v left right) =
      spliced_case (λ r. nodes_with k r ≤ nodes_with k (Split kept i v left right)) j kept i v left right
      (omega (arith, with-spliced k left)) (omega (arith, with-spliced k right)) (omega (arith, with-spliced k left, with-spliced k right))

  pub each_split-spliced : (P : ℕ → ℤ → Type 0) (t : Plain) → EachSplit P t → EachSplit P (spliced j t)
  each_split-spliced P (Leaf l) h = tt
  each_split-spliced P (Split kept i v left right) h =
      spliced_case (λ r. EachSplit P r) j kept i v left right
      (each_split-spliced P left h.1.0) (each_split-spliced P right h.1.1) (h.0, (each_split-spliced P left h.1.0, each_split-spliced P right h.1.1))

  pub numbered-spliced : (T : NumberedTree) → IsNumbered T → IsNumbered (spliced_tree j T)
  numbered-spliced T n = record {
    distinct = λ k. omega (arith, with-spliced k T.root, n.distinct k);
    given = λ k h. omega (arith, with-spliced k T.root, n.given k h);
    few = omega (arith, n.few, splits-spliced T.root, nodes-splits T.root, nodes-splits (spliced j T.root));
    left = omega (arith, n.left, splits-spliced T.root);
    bounds = each_split-spliced (λ i v. v <ℤ pos (2 ^ 127 - 1)) T.root n.bounds;
  }
