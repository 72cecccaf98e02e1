use Rattle.std.proofs.Common.{◌≡◌, ◌∙◌, ℕ, ◌+◌, FitsSigned, rules, ap, sym, subst}
use Rattle.std.specs.Int.{w128}
use Rattle.std.proofs.lemmas.Int.{to_z-of_z}
use Rattle.branch_tree.specs.Numbered.{NumberedTree, IsNumbered}
use Rattle.branch_tree.specs.Changes.{HasLeaf, with_leaf, after_split}
use Rattle.tree_edit.proofs.SplitLemmas.{has-first, has-second, tree-split}
use Rattle.tree_edit.proofs.splitting.split_tree.Goals as goal

pub set_leaf-requires : goal.set_leaf-requires
set_leaf-requires c =
    let T : NumberedTree = c.args.tree.now in
    let id = c.args.id in
    let v = c.args.split.v in
    let j = c.args.split.col.0 in
    let mult = c.args.split.mult in
    let basis = c.args.split.basis in
    let left = c.args.left in
    let right = c.args.right in
    let fits : FitsSigned w128 v = search rules in
    let n : IsNumbered T = c.nodes-numbered.ensures.numbered in
    let has : HasLeaf T id = c.requires.has in
    let split : c.replace_leaf.new.self ≡ after_split T id j v mult basis = simp to_z-of_z at c.in-Ok.ensures.split in
    let first_is : c.in-Ok.first ≡ T.last + 1 = ap (λ (p : ℕ × ℕ). p.0) c.in-Ok.ensures.ids in
    let second_is : c.in-Ok.second ≡ T.last + 2 = ap (λ (p : ℕ × ℕ). p.1) c.in-Ok.ensures.ids in
    subst (λ k. HasLeaf c.replace_leaf.new.self k) (sym first_is) (subst (λ (U : NumberedTree). HasLeaf U (T.last + 1)) (sym split) (has-first T n id j v mult basis has left right))

pub set_leaf-requires-in-Ok : goal.set_leaf-requires-in-Ok
set_leaf-requires-in-Ok c =
    let T : NumberedTree = c.args.tree.now in
    let id = c.args.id in
    let v = c.args.split.v in
    let j = c.args.split.col.0 in
    let mult = c.args.split.mult in
    let basis = c.args.split.basis in
    let left = c.args.left in
    let right = c.args.right in
    let fits : FitsSigned w128 v = search rules in
    let n : IsNumbered T = c.nodes-numbered.ensures.numbered in
    let has : HasLeaf T id = c.requires.has in
    let split : c.replace_leaf.new.self ≡ after_split T id j v mult basis = simp to_z-of_z at c.in-Ok.ensures.split in
    let first_is : c.in-Ok.first ≡ T.last + 1 = ap (λ (p : ℕ × ℕ). p.0) c.in-Ok.ensures.ids in
    let second_is : c.in-Ok.second ≡ T.last + 2 = ap (λ (p : ℕ × ℕ). p.1) c.in-Ok.ensures.ids in
    let once : c.set_leaf.new.self ≡ with_leaf (after_split T id j v mult basis) (T.last + 1) left = c.set_leaf.ensures ∙ (λ k. with_leaf (split k) (first_is k) left) in
    subst (λ k. HasLeaf c.set_leaf.new.self k) (sym second_is) (subst (λ (U : NumberedTree). HasLeaf U (T.last + 2)) (sym once) (has-second T n id j v mult basis has left right))

pub returns-in-Ok-clause-split : goal.returns-in-Ok-clause-split
returns-in-Ok-clause-split c =
    let T : NumberedTree = c.args.tree.now in
    let id = c.args.id in
    let v = c.args.split.v in
    let j = c.args.split.col.0 in
    let mult = c.args.split.mult in
    let basis = c.args.split.basis in
    let left = c.args.left in
    let right = c.args.right in
    let fits : FitsSigned w128 v = search rules in
    let n : IsNumbered T = c.nodes-numbered.ensures.numbered in
    let has : HasLeaf T id = c.requires.has in
    let split : c.replace_leaf.new.self ≡ after_split T id j v mult basis = simp to_z-of_z at c.in-Ok.ensures.split in
    let first_is : c.in-Ok.first ≡ T.last + 1 = ap (λ (p : ℕ × ℕ). p.0) c.in-Ok.ensures.ids in
    let second_is : c.in-Ok.second ≡ T.last + 2 = ap (λ (p : ℕ × ℕ). p.1) c.in-Ok.ensures.ids in
    let once : c.set_leaf.new.self ≡ with_leaf (after_split T id j v mult basis) (T.last + 1) left = c.set_leaf.ensures ∙ (λ k. with_leaf (split k) (first_is k) left) in
    c.set_leaf-in-Ok.ensures ∙ (λ k. with_leaf (once k) (second_is k) right) ∙ tree-split T n id j v mult basis has left right
