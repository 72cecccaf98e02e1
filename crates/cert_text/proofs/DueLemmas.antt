-- How many trees are due behind one more node, and behind a whole tree.
use Rattle.std.proofs.Common.{◌≡◌, ℕ, zero, suc, ◌-◌, ◌<◌, List, [], ◌∷◌, ◌++◌, length, refl, sym, ap, subst, ◌∙◌, append_assoc, append-nil, arith}
use Rattle.std.specs.Prelude.{ℤ, ◌==◌}
use Rattle.std.proofs.lemmas.Bool.Decides.{Decides-eqb}
use Rattle.cert_text.specs.declared.cert.CertNode.{CertNode}
use Rattle.cert_text.specs.declared.cert.CertNode.TheVariants.{Split, Bound, Farkas, Empty}
use Rattle.cert_text.specs.Tree.{CertTree, certificate_nodes}
use Rattle.cert_text.specs.Tree.{Bound as TreeBound, Farkas as TreeFarkas, Empty as TreeEmpty, Split as TreeSplit}
use Rattle.cert_text.specs.Text.{due_after}
use Rattle.cert_text.specs.Whole.{TakesAll}
use Rattle.cert_text.specs.Laws.{WholeTreeLaw}

pub due_after-more : (due : ℕ) (nodes : List CertNode) (n : CertNode) → due_after due (nodes ++ n ∷ []) ≡ due_after (due_after due nodes) (n ∷ [])
due_after-more due [] n = refl
due_after-more due (Split col v ∷ nodes) n = due_after-more (suc due) nodes n
due_after-more due (Bound mults ∷ nodes) n = due_after-more (due - 1) nodes n
due_after-more due (Farkas mults ∷ nodes) n = due_after-more (due - 1) nodes n
due_after-more due (Empty ∷ nodes) n = due_after-more (due - 1) nodes n

one_less : (due : ℕ) → suc due - 1 ≡ due
one_less due = omega arith

pub takes-more : (due : ℕ) (nodes : List CertNode) (n : CertNode) → TakesAll due nodes → 0 < due_after due nodes → TakesAll due (nodes ++ n ∷ [])
takes-more zero [] n takes some = absurd (omega arith)
takes-more (suc due) [] (Split col v) takes some = tt
takes-more (suc due) [] (Bound mults) takes some = tt
takes-more (suc due) [] (Farkas mults) takes some = tt
takes-more (suc due) [] Empty takes some = tt
takes-more zero (m ∷ nodes) n takes some = absurd takes
takes-more (suc due) (Split col v ∷ nodes) n takes some = takes-more (suc (suc due)) nodes n takes some
takes-more (suc due) (Bound mults ∷ nodes) n takes some = takes-more due nodes n takes (subst (λ d. 0 < due_after d nodes) (one_less due) some)
takes-more (suc due) (Farkas mults ∷ nodes) n takes some = takes-more due nodes n takes (subst (λ d. 0 < due_after d nodes) (one_less due) some)
takes-more (suc due) (Empty ∷ nodes) n takes some = takes-more due nodes n takes (subst (λ d. 0 < due_after d nodes) (one_less due) some)

-- the nodes of some trees
abbrev pub all_nodes : List CertTree → List CertNode
all_nodes [] = []
all_nodes (t ∷ trees) = certificate_nodes t ++ all_nodes trees

-- nodes that some trees take, and none is due behind them, are those trees' nodes
pub record IsForest (due : ℕ) (nodes : List CertNode) : Type 0 where
  pub trees : List CertTree
  pub count : length trees ≡ due
  pub are : all_nodes trees ≡ nodes

with_leaf : (due : ℕ) (t : CertTree) (n : CertNode) (nodes : List CertNode) → certificate_nodes t ≡ n ∷ [] → IsForest due nodes → IsForest (suc due) (n ∷ nodes)
with_leaf due t n nodes one f = record { trees = t ∷ f.trees; count = ap suc f.count; are = ap (λ ns. ns ++ all_nodes f.trees) one ∙ ap (λ ns. n ∷ ns) f.are }

with_split : (due : ℕ) (col : List ℕ) (v : ℤ) (nodes : List CertNode) (trees : List CertTree) → length trees ≡ suc (suc due) → all_nodes trees ≡ nodes → IsForest (suc due) (Split col v ∷ nodes)
with_split due col v nodes [] count are = absurd (omega (arith, count))
with_split due col v nodes (left ∷ []) count are = absurd (omega (arith, count))
with_split due col v nodes (left ∷ right ∷ trees) count are = record {
  trees = TreeSplit col v left right ∷ trees;
  count = omega (arith, count);
  are = ap (λ ns. Split col v ∷ ns) (append_assoc (certificate_nodes left) (certificate_nodes right) (all_nodes trees) ∙ are);
}

pub forest : (due : ℕ) (nodes : List CertNode) → TakesAll due nodes → due_after due nodes ≡ 0 → IsForest due nodes
forest zero [] takes done = record { trees = []; count = refl; are = refl }
forest (suc due) [] takes done = absurd (omega (arith, done))
forest zero (n ∷ nodes) takes done = absurd takes
forest (suc due) (Split col v ∷ nodes) takes done = let f = forest (suc (suc due)) nodes takes done in with_split due col v nodes f.trees f.count f.are
forest (suc due) (Bound mults ∷ nodes) takes done = with_leaf due (TreeBound mults) (Bound mults) nodes refl (forest due nodes takes (ap (λ d. due_after d nodes) (sym (one_less due)) ∙ done))
forest (suc due) (Farkas mults ∷ nodes) takes done = with_leaf due (TreeFarkas mults) (Farkas mults) nodes refl (forest due nodes takes (ap (λ d. due_after d nodes) (sym (one_less due)) ∙ done))
forest (suc due) (Empty ∷ nodes) takes done = with_leaf due TreeEmpty Empty nodes refl (forest due nodes takes (ap (λ d. due_after d nodes) (sym (one_less due)) ∙ done))

first_tree : (nodes : List CertNode) (trees : List CertTree) → length trees ≡ 1 → all_nodes trees ≡ nodes → (t : CertTree) × (certificate_nodes t ≡ nodes)
first_tree nodes [] count are = absurd (omega (arith, count))
first_tree nodes (t ∷ []) count are = (t, sym (append-nil (certificate_nodes t)) ∙ are)
first_tree nodes (t ∷ s ∷ trees) count are = absurd (omega (arith, count))

pub whole_tree : (nodes : List CertNode) → TakesAll 1 nodes → due_after 1 nodes ≡ 0 → (t : CertTree) × (certificate_nodes t ≡ nodes)
whole_tree nodes takes done = let f = forest 1 nodes takes done in first_tree nodes f.trees f.count f.are

-- ---- the nodes of a tree

takes_tree : (tree : CertTree) (due : ℕ) (rest : List CertNode) → TakesAll due rest → TakesAll (suc due) (certificate_nodes tree ++ rest)
takes_tree (TreeBound mults) due rest h = h
takes_tree (TreeFarkas mults) due rest h = h
takes_tree TreeEmpty due rest h = h
takes_tree (TreeSplit col v left right) due rest h =
    subst (TakesAll (suc (suc due))) (sym (append_assoc (certificate_nodes left) (certificate_nodes right) rest)) (takes_tree left (suc due) (certificate_nodes right ++ rest) (takes_tree right due rest h))

due_tree : (tree : CertTree) (due : ℕ) (rest : List CertNode) → due_after (suc due) (certificate_nodes tree ++ rest) ≡ due_after due rest
due_tree (TreeBound mults) due rest = ap (λ d. due_after d rest) (one_less due)
due_tree (TreeFarkas mults) due rest = ap (λ d. due_after d rest) (one_less due)
due_tree TreeEmpty due rest = ap (λ d. due_after d rest) (one_less due)
due_tree (TreeSplit col v left right) due rest =
    ap (due_after (suc (suc due))) (append_assoc (certificate_nodes left) (certificate_nodes right) rest) ∙ due_tree left (suc due) (certificate_nodes right ++ rest) ∙ due_tree right due rest

module _ (nodes : List CertNode) (tree : CertTree) (whole : certificate_nodes tree ≡ nodes) where
  pub takes_whole : TakesAll 1 nodes
  takes_whole = subst (TakesAll 1) (append-nil (certificate_nodes tree) ∙ whole) (takes_tree tree 0 [] tt)

  pub due_whole : due_after 1 nodes ≡ 0
  due_whole = ap (due_after 1) (sym whole ∙ sym (append-nil (certificate_nodes tree))) ∙ due_tree tree 0 []

pub whole_decides : WholeTreeLaw
whole_decides = record {
  sound = λ nodes takes e. let t = whole_tree nodes takes ((Decides-eqb (due_after 1 nodes) 0).0 e) in record { tree = t.0; nodes_are = t.1 };
  complete = λ nodes one. (takes_whole nodes one.tree one.nodes_are, ap (λ (d : ℕ). d == 0) (due_whole nodes one.tree one.nodes_are));
}
