-- The walk: the path to each node, and the tree that the nodes make.
use Rattle.std.proofs.Common.{◌≡◌, ℕ, List, [], ◌∷◌, ◌++◌, ◌+◌, ◌<◌, ◌≤◌, length, get_or, drop, refl, sym, ap, subst, ◌∙◌, append_assoc}
use Rattle.std.proofs.lemmas.List.{drop_more, drop_all}
use Rattle.std.specs.Prelude.{pos, ◌+ℤ◌}
use Rattle.frac128.specs.Range.{IsNarrow}
use Rattle.lp_model.specs.Regions.{Path, AreNarrow, at_most, at_least}
use Rattle.lp_model.specs.Formulations.{Formulation}
use Rattle.lp_model.specs.declared.types.Side.{Side}
use Rattle.lp_model.specs.declared.types.Side.TheVariants.{Lo, Hi}
use Rattle.lp_model.specs.declared.types.BoundChange.{BoundChange}
use Rattle.branch_tree.specs.Tree.{Leaf, Split, left_path, right_path, SplitsLawfully, HasNarrowSplits}
use Rattle.branch_tree.specs.Plain.{Plain, preorder}
use Rattle.branch_tree.specs.declared.node.Node.{Node}
use Rattle.branch_tree.specs.declared.node.Node.TheVariants.{Leaf as LeafNode, Split as SplitNode}
use Rattle.search_parts.specs.Lists.{HasNodeLists}
use Rattle.sound_searches.specs.Sound.{IsSoundTree}
use Rattle.cert_text.specs.declared.cert.CertNode.{CertNode}
use Rattle.cert_text.specs.declared.cert.CertNode.TheVariants as cert
use Rattle.cert_text.specs.Tree.{CertTree, certificate_nodes as cert_preorder}
use Rattle.cert_text.specs.Tree.{Bound as CertBound, Farkas as CertFarkas, Empty as CertEmpty, Split as CertSplit}
use Rattle.cert_check.specs.Walk.{turned_change, in_front, after_leaf}
use Rattle.cert_check.proofs.WalkLemmas.{after_leaf-low, after_leaf-high}
use Rattle.tree_cert.specs.Certificates.{IsTreeOf}
use Rattle.tree_cert.specs.private.Walked.{path_after, IsNodeOf, AreNodesOf, IsFit, AreFit, HasTurns, AreOfTree}

-- ---- paths

pub turns-narrow : (path : Path) → HasTurns path → AreNarrow path
turns-narrow [] h = tt
turns-narrow (c ∷ path) h = (h.0, turns-narrow path h.1.1)

turns-append : (path : Path) (c : BoundChange) → HasTurns path → IsNarrow c.v → (c.side ≡ Hi → IsNarrow (c.v +ℤ pos 1)) → HasTurns (path ++ c ∷ [])
turns-append [] c h here next = (here, (next, tt))
turns-append (d ∷ path) c h here next = (h.0, (h.1.0, turns-append path c h.1.1 here next))

turns-turned : (c : BoundChange) (side : Side) → c.side ≡ side → (c.side ≡ Hi → IsNarrow (c.v +ℤ pos 1)) → HasTurns (turned_change side c)
turns-turned c Hi e next = (next e, ((λ f. let g : Lo ≡ Hi = f in cc), tt))
turns-turned c Lo e next = tt

turns-in_front : (c : BoundChange) (path : Path) → HasTurns (c ∷ []) → HasTurns path → HasTurns (in_front c path)
turns-in_front c [] here h = turns-turned c c.side refl here.1.0
turns-in_front c (d ∷ path) here h = (here.0, (here.1.0, h))

pub turns-after_leaf : (path : Path) → HasTurns path → HasTurns (after_leaf path)
turns-after_leaf [] h = tt
turns-after_leaf (c ∷ path) h = turns-in_front c (after_leaf path) (h.0, (h.1.0, tt)) (turns-after_leaf path h.1.1)

pub turns-after : (F : Formulation) (path : Path) (n : Node) → IsFit F n → HasTurns path → HasTurns (path_after path n)
turns-after F path (SplitNode id col v mult basis) fit h = turns-append path (at_most col.0 v) h fit.1.0 (λ _. fit.1.1)
turns-after F path (LeafNode id kept) fit h = turns-after_leaf path h

-- ---- the nodes of a sound tree

fit-append : (F : Formulation) (a b : List Node) → AreFit F a → AreFit F b → AreFit F (a ++ b)
fit-append F [] b h k = k
fit-append F (n ∷ a) b h k = (h.0, fit-append F a b h.1 k)

pub tree-fit : (F : Formulation) (t : Plain) → SplitsLawfully F.model t → HasNarrowSplits t → HasNodeLists F t → AreFit F (preorder t)
tree-fit F (Leaf l) lawful narrow lists = (lists, tt)
tree-fit F (Split kept j v left right) lawful narrow lists = (
  (lawful.0.0, narrow.0),
  fit-append F (preorder left) (preorder right) (tree-fit F left lawful.1.0 narrow.1.0 lists.1.0) (tree-fit F right lawful.1.1 narrow.1.1 lists.1.1),
)

pub sound-fit : (F : Formulation) (t : Plain) → IsSoundTree F t → AreFit F (preorder t)
sound-fit F t h = tree-fit F t h.lawful h.narrow h.lists

-- ---- the tree that the nodes make

-- the first nodes are those of a tree like the search's, and the others follow
record Begins (F : Formulation) (number : ℕ → ℕ) (path : Path) (t : Plain) (rest : List Node) (certs : List CertNode) : Type 0 where
  tree : CertTree
  behind : List CertNode
  parts : certs ≡ cert_preorder tree ++ behind
  like : IsTreeOf F number path t tree
  others : AreNodesOf F number (after_leaf path) rest behind

begins : (F : Formulation) (number : ℕ → ℕ) (path : Path) (t : Plain) (rest : List Node) (certs : List CertNode) → AreNodesOf F number path (preorder t ++ rest) certs → Begins F number path t rest certs
begins F number path (Leaf l) rest [] h = absurd h
begins F number path (Leaf l) rest (cert.Bound mults ∷ certs) h = record { tree = CertBound mults; behind = certs; parts = refl; like = h.0; others = h.1 }
begins F number path (Leaf l) rest (cert.Farkas mults ∷ certs) h = record { tree = CertFarkas mults; behind = certs; parts = refl; like = h.0; others = h.1 }
begins F number path (Leaf l) rest (cert.Empty ∷ certs) h = record { tree = CertEmpty; behind = certs; parts = refl; like = h.0; others = h.1 }
begins F number path (Leaf l) rest (cert.Split col w ∷ certs) h = absurd h.0
begins F number path (Split kept j v left right) rest [] h = absurd h
begins F number path (Split kept j v left right) rest (cert.Bound mults ∷ certs) h = absurd h.0
begins F number path (Split kept j v left right) rest (cert.Farkas mults ∷ certs) h = absurd h.0
begins F number path (Split kept j v left right) rest (cert.Empty ∷ certs) h = absurd h.0
begins F number path (Split kept j v left right) rest (cert.Split col w ∷ certs) h =
    let first = begins F number (left_path path j v) left (preorder right ++ rest) certs (subst (λ ns. AreNodesOf F number (left_path path j v) ns certs) (append_assoc (preorder left) (preorder right) rest) h.1) in
    let second = begins F number (right_path path j v) right rest first.behind (subst (λ p. AreNodesOf F number p (preorder right ++ rest) first.behind) (after_leaf-high path (at_most j v) refl) first.others) in
    record {
      tree = CertSplit col w first.tree second.tree;
      behind = second.behind;
      parts = ap (λ ns. cert.Split col w ∷ ns) (first.parts ∙ ap (λ ns. cert_preorder first.tree ++ ns) second.parts ∙ sym (append_assoc (cert_preorder first.tree) (cert_preorder second.tree) second.behind));
      like = (h.0.0, (h.0.1, (first.like, second.like)));
      others = subst (λ p. AreNodesOf F number p rest second.behind) (after_leaf-low path (at_least j (v +ℤ pos 1)) refl) second.others;
    }

nil_right : {A : Type 0} (l : List A) → l ++ [] ≡ l
nil_right [] = refl
nil_right (x ∷ l) = ap (λ m. x ∷ m) (nil_right l)

none_behind : (F : Formulation) (number : ℕ → ℕ) (path : Path) (behind : List CertNode) → AreNodesOf F number path [] behind → behind ≡ []
none_behind F number path [] h = refl
none_behind F number path (c ∷ behind) h = absurd h

pub of_tree : (F : Formulation) (number : ℕ → ℕ) (t : Plain) (certs : List CertNode) → AreNodesOf F number [] (preorder t) certs → AreOfTree F number t certs
of_tree F number t certs h =
    let b = begins F number [] t [] certs (subst (λ ns. AreNodesOf F number [] ns certs) (sym (nil_right (preorder t))) h) in
    record {
      tree = b.tree;
      nodes = sym (b.parts ∙ ap (λ ns. cert_preorder b.tree ++ ns) (none_behind F number (after_leaf []) b.behind b.others) ∙ nil_right (cert_preorder b.tree));
      like = b.like;
    }

-- ---- one node further

module _ (F : Formulation) (nodes : List Node) (k : ℕ) (n : Node) (below : k < length nodes) (is : n ≡ get_or nodes k n) where
  cut : drop k nodes ≡ n ∷ drop (k + 1) nodes
  cut = drop_more nodes k n below ∙ ap (λ m. m ∷ drop (k + 1) nodes) (sym is)

  pub fit_here : AreFit F (drop k nodes) → IsFit F n
  fit_here fit = (subst (AreFit F) cut fit).0

  pub fit_next : AreFit F (drop k nodes) → AreFit F (drop (k + 1) nodes)
  fit_next fit = (subst (AreFit F) cut fit).1

  pub made_next : (number : ℕ → ℕ) (path next : Path) (c : CertNode) (certs more : List CertNode) → IsNodeOf F number path n c → next ≡ path_after path n → more ≡ certs ++ c ∷ [] →
      ((rest : List CertNode) → AreNodesOf F number path (drop k nodes) rest → AreNodesOf F number [] nodes (certs ++ rest)) → (rest : List CertNode) → AreNodesOf F number next (drop (k + 1) nodes) rest → AreNodesOf F number [] nodes (more ++ rest)
  made_next number path next c certs more here next_is more_is made rest h =
      let longer : certs ++ c ∷ rest ≡ more ++ rest = sym (append_assoc certs (c ∷ []) rest) ∙ ap (λ l. l ++ rest) (sym more_is) in
      subst (AreNodesOf F number [] nodes) longer
      (made (c ∷ rest) (subst (λ ns. AreNodesOf F number path ns (c ∷ rest)) (sym cut) (here, subst (λ p. AreNodesOf F number p (drop (k + 1) nodes) rest) next_is h)))

pub made_all : (F : Formulation) (number : ℕ → ℕ) (nodes : List Node) (k : ℕ) (path : Path) (certs : List CertNode) → length nodes ≤ k → ((rest : List CertNode) → AreNodesOf F number path (drop k nodes) rest → AreNodesOf F number [] nodes (certs ++ rest)) → AreNodesOf F number [] nodes certs
made_all F number nodes k path certs past made = subst (AreNodesOf F number [] nodes) (nil_right certs) (made [] (subst (λ ns. AreNodesOf F number path ns []) (sym (drop_all k nodes past)) tt))

-- ---- one change fewer

pub turns-front : (path : Path) (c : BoundChange) → HasTurns (path ++ c ∷ []) → HasTurns path × (c.side ≡ Hi → IsNarrow (c.v +ℤ pos 1))
turns-front [] c h = (tt, h.1.0)
turns-front (d ∷ path) c h = let rest = turns-front path c h.1.1 in ((h.0, (h.1.0, rest.0)), rest.1)
