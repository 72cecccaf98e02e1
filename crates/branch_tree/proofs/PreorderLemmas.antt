-- A tree as its nodes in preorder, and the tree whose ids are given in that order: it is numbered.
use Rattle.std.specs.Prelude.{◌≡◌, ◌⊎◌, ℕ, ◌+◌, ◌-◌, ◌^◌, ◌<◌, ◌≤◌, List, [], ◌∷◌, ◌++◌, length, map, All, ℤ, pos, ◌<ℤ◌}
use Rattle.std.proofs.Common.{refl, sym, ap, ◌∙◌, arith, inl, inr, length-append}
use Rattle.std.proofs.lemmas.Bool.{cases_lt}
use Rattle.std.proofs.lemmas.List.{map-append}
use Rattle.std.proofs.lemmas.List.Elements.{All-head, All-tail, All-nil, All-cons}
use Rattle.branch_tree.specs.Tree.{Leaf, Split, EachSplit, node_count}
use Rattle.branch_tree.specs.Plain.{Plain, nodes_with, preorder}
use Rattle.branch_tree.specs.Numbered.{IsCounted}
use Rattle.branch_tree.specs.Preorder.{DataTree, data_nodes, without_ids, numbered_from, numbered_tree, HasNodeBound}
use Rattle.branch_tree.specs.private.Preorder.{without_id}
use Rattle.branch_tree.specs.declared.node.NodeData.{NodeData}
use Rattle.branch_tree.specs.declared.node.NodeData.TheVariants.{Split as SplitNode}
use Rattle.branch_tree.proofs.CountLemmas.{nodes-splits, same_cases, same_at_most_one, same_other}

-- ---- nodes with ids

pub length-data_nodes : (t : DataTree) → length (data_nodes t) ≡ node_count t
length-data_nodes (Leaf kept) = refl
length-data_nodes (Split kept j v left right) = omega (arith, length-append (data_nodes left) (data_nodes right), length-data_nodes left, length-data_nodes right)

-- the nodes of a tree, their ids left out, are those of the tree without ids
pub preorder-without : (t : Plain) → map without_id (preorder t) ≡ data_nodes (without_ids t)
preorder-without (Leaf l) = refl
preorder-without (Split kept j v left right) =
    ap (λ ns. SplitNode (record { 0 = j }) v kept.mult kept.basis ∷ ns) (
    map-append without_id (preorder left) (preorder right)
    ∙ ap (λ ns. ns ++ map without_id (preorder right)) (preorder-without left)
    ∙ ap (λ ns. data_nodes (without_ids left) ++ ns) (preorder-without right)
    )

-- ---- ids

module _ (id : ℕ) where
  with-numbered_none : (k : ℕ) (t : DataTree) → (id < k) ⊎ (k + node_count t ≤ id) → nodes_with id (numbered_from k t) ≡ 0
  with-numbered_none k (Leaf kept) out = omega (arith, same_other k id (λ e. elim out [ inl a ↦ omega arith | inr b ↦ omega arith ]))
  with-numbered_none k (Split kept j v left right) out = omega (
    arith,
    same_other k id (λ e. elim out [ inl a ↦ omega arith | inr b ↦ omega arith ]),
    with-numbered_none (k + 1) left (elim out [ inl a ↦ inl (omega arith) | inr b ↦ inr (omega arith) ]),
    with-numbered_none (k + 1 + node_count left) right (elim out [ inl a ↦ inl (omega arith) | inr b ↦ inr (omega arith) ]),
  )

  -- no id is given twice
  with-numbered : (k : ℕ) (t : DataTree) → nodes_with id (numbered_from k t) ≤ 1
  with-numbered k (Leaf kept) = omega (arith, same_at_most_one k id)
  with-numbered k (Split kept j v left right) =
      elim (same_cases k id) [
        | inl here ↦ omega (
          arith,
          here.0,
          with-numbered_none (k + 1) left (inl (omega (arith, here.1))),
          with-numbered_none (k + 1 + node_count left) right (inl (omega (arith, here.1))),
        )
        | inr apart ↦ elim (cases_lt id (k + 1 + node_count left)) [
          | inl low ↦ omega (arith, apart.0, with-numbered (k + 1) left, with-numbered_none (k + 1 + node_count left) right (inl low))
          | inr past ↦ omega (arith, apart.0, with-numbered_none (k + 1) left (inr past), with-numbered (k + 1 + node_count left) right)
        ]
      ]

pub nodes-numbered : (k : ℕ) (t : DataTree) → node_count (numbered_from k t) ≡ node_count t
nodes-numbered k (Leaf kept) = refl
nodes-numbered k (Split kept j v left right) = omega (arith, nodes-numbered (k + 1) left, nodes-numbered (k + 1 + node_count left) right)

pub each_split-numbered : (P : ℕ → ℤ → Type 0) (k : ℕ) (t : DataTree) → EachSplit P t → EachSplit P (numbered_from k t)
each_split-numbered P k (Leaf kept) h = tt
each_split-numbered P k (Split kept j v left right) h = (h.0, (each_split-numbered P (k + 1) left h.1.0, each_split-numbered P (k + 1 + node_count left) right h.1.1))

-- what holds of each node holds of the nodes of both children
pub apart : {A : Type 0} (P : A → Type 0) (xs ys : List A) → All P (xs ++ ys) → All P xs × All P ys
apart P [] ys h = (All-nil P, h)
apart P (x ∷ xs) ys h = let rest = apart P xs ys (All-tail P x (xs ++ ys) h) in (All-cons P x xs (All-head P x (xs ++ ys) h) rest.0, rest.1)

pub bounded : (t : DataTree) → All HasNodeBound (data_nodes t) → EachSplit (λ j v. v <ℤ pos (2 ^ 127 - 1)) t
bounded (Leaf kept) h = tt
bounded (Split kept j v left right) h =
    let n : NodeData = SplitNode (record { 0 = j }) v kept.mult kept.basis in
    let both = apart HasNodeBound (data_nodes left) (data_nodes right) (All-tail HasNodeBound n (data_nodes left ++ data_nodes right) h) in
    (All-head HasNodeBound n (data_nodes left ++ data_nodes right) h, (bounded left both.0, bounded right both.1))

-- the tree is numbered, and an id is left for each split
pub numbered-counted : (limit : ℕ) (t : DataTree) → All HasNodeBound (data_nodes t) → node_count t ≤ 2 ^ 62 → IsCounted (numbered_tree limit t) (node_count t)
numbered-counted limit t h few = record {
  numbered = record {
    distinct = λ id. with-numbered id 1 t;
    given = λ id past. with-numbered_none id 1 t (inr (omega arith));
    few = omega (arith, nodes-numbered 1 t);
    left = omega (arith, few, nodes-numbered 1 t, nodes-splits (numbered_from 1 t));
    bounds = each_split-numbered (λ j v. v <ℤ pos (2 ^ 127 - 1)) 1 t (bounded t h);
  };
  counted = sym (nodes-numbered 1 t);
}
