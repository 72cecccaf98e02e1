-- Where the walk stands: the splits above a node, and the trees that are still due behind it.
use Rattle.std.proofs.Common.{◌≡◌, ℕ, zero, suc, ◌+◌, ◌<◌, List, [], ◌∷◌, ◌++◌, length, drop, get_or, map, refl, sym, ap, subst, ◌∙◌, arith, append_assoc, length-drop}
use Rattle.std.specs.Prelude.{ℤ, pos, ◌+ℤ◌, All, Option, Some, None}
use Rattle.std.proofs.lemmas.List.{map-append}
use Rattle.std.proofs.lemmas.List.Elements.{All-append}
use Rattle.frac128.specs.Range.{IsNarrow}
use Rattle.lp_model.specs.Program.{Program}
use Rattle.lp_model.specs.Lawful.{column_names}
use Rattle.lp_model.specs.Regions.{Path, AreNarrow, at_most, at_least}
use Rattle.lp_model.specs.declared.types.Side.TheVariants.{Lo, Hi}
use Rattle.lp_model.specs.declared.types.BoundChange.{BoundChange}
use Rattle.branch_tree.specs.Tree.{left_path, right_path}
use Rattle.lp_model.specs.declared.types.ColId.{ColId}
use Rattle.cert_text.specs.declared.cert.CertNode.{CertNode}
use Rattle.cert_text.specs.declared.cert.CertNode.TheVariants as node
use Rattle.cert_check.specs.declared.judging.NodeWithPlaces.{NodeWithPlaces}
use Rattle.cert_check.specs.declared.judging.NodeWithPlaces.TheVariants as node_place
use Rattle.cert_text.specs.Tree.{Bound, Farkas, Empty, CertTree, Split, certificate_nodes}
use Rattle.cert_check.specs.Verdict.{visits}
use Rattle.cert_text.specs.Whole.{IsNarrowNode}
use Rattle.cert_check.specs.Walk.{after_leaf, IsPlace}
use Rattle.cert_check.specs.private.Walk.{CanTurn, after_node}
use Rattle.cert_check.proofs.WalkLemmas.{after_leaf-low, after_leaf-high}
use Rattle.lp_model.specs.Edits.{place_in}

-- a split above: the walk is in its first child, and the second one is due, or it is in the second one
pub data Frame : Type 0 where
  First : (j : ℕ) (v : ℤ) (second : CertTree) → Frame
  Second : (j : ℕ) (v : ℤ) → Frame

-- the innermost split comes first
pub path_of : List Frame → Path
path_of [] = []
path_of (First j v second ∷ frames) = left_path (path_of frames) j v
path_of (Second j v ∷ frames) = right_path (path_of frames) j v

pub due : Program → List Frame → List (Path × CertNode)
due M [] = []
due M (First j v second ∷ frames) = visits M (right_path (path_of frames) j v) second ++ due M frames
due M (Second j v ∷ frames) = due M frames

pub HasRoom : List Frame → Type 0
HasRoom [] = Unit {0}
HasRoom (First j v second ∷ frames) = IsNarrow v × (IsNarrow (v +ℤ pos 1) × HasRoom frames)
HasRoom (Second j v ∷ frames) = IsNarrow (v +ℤ pos 1) × HasRoom frames

-- behind a leaf: the splits above the next tree, and that tree
pub next_frames : List Frame → List Frame
next_frames [] = []
next_frames (First j v second ∷ frames) = Second j v ∷ frames
next_frames (Second j v ∷ frames) = next_frames frames

pub next_tree : List Frame → Option CertTree
next_tree [] = None
next_tree (First j v second ∷ frames) = Some second
next_tree (Second j v ∷ frames) = next_tree frames

-- what is to be visited where a tree is due, or none
pub left_at : Program → List Frame → Option CertTree → List (Path × CertNode)
left_at M frames None = []
left_at M frames (Some tree) = visits M (path_of frames) tree ++ due M frames

pub next_left : (M : Program) (frames : List Frame) → due M frames ≡ left_at M (next_frames frames) (next_tree frames)
unfolding due left_at next_frames next_tree path_of
next_left M [] = refl
next_left M (First j v second ∷ frames) = refl
next_left M (Second j v ∷ frames) = next_left M frames

pub next_path : (frames : List Frame) → after_leaf (path_of frames) ≡ path_of (next_frames frames)
unfolding next_frames path_of
next_path [] = refl
next_path (First j v second ∷ frames) = after_leaf-high (path_of frames) (at_most j v) refl
next_path (Second j v ∷ frames) = after_leaf-low (path_of frames) (at_least j (v +ℤ pos 1)) refl ∙ next_path frames

pub next_room : (frames : List Frame) → HasRoom frames → HasRoom (next_frames frames)
unfolding next_frames HasRoom
next_room [] room = tt
next_room (First j v second ∷ frames) room = room.1
next_room (Second j v ∷ frames) room = next_room frames room.1

-- ---- a path with room

narrow-append : (path : Path) (c : BoundChange) → AreNarrow path → IsNarrow c.v → AreNarrow (path ++ c ∷ [])
narrow-append [] c narrow here = (here, tt)
narrow-append (d ∷ path) c narrow here = (narrow.0, narrow-append path c narrow.1 here)

pub path_narrow : (frames : List Frame) → HasRoom frames → AreNarrow (path_of frames)
unfolding HasRoom path_of
path_narrow [] room = tt
path_narrow (First j v second ∷ frames) room = narrow-append (path_of frames) (at_most j v) (path_narrow frames room.1.1) room.0
path_narrow (Second j v ∷ frames) room = narrow-append (path_of frames) (at_least j (v +ℤ pos 1)) (path_narrow frames room.1) room.0

one : (c : BoundChange) → CanTurn c → All CanTurn (c ∷ [])
one c here zero d below = here
one c here (suc k) d below = absurd (omega arith)

none : All CanTurn []
none k d below = absurd (omega arith)

pub path_turns : (frames : List Frame) → HasRoom frames → All CanTurn (path_of frames)
unfolding HasRoom path_of
path_turns [] room = none
path_turns (First j v second ∷ frames) room = All-append CanTurn (path_of frames) (at_most j v ∷ []) (path_turns frames room.1.1) (one (at_most j v) (λ _. room.1.0))
path_turns (Second j v ∷ frames) room =
    All-append CanTurn (path_of frames) (at_least j (v +ℤ pos 1) ∷ []) (path_turns frames room.1) (one (at_least j (v +ℤ pos 1)) (λ e. let f : Lo ≡ Hi = e in absurd cc))

-- ---- where the walk stands

-- k nodes were visited, and the path to the next one is this
pub record Stands (M : Program) (all : List (Path × CertNode)) (k : ℕ) (path : Path) : Type 0 where
  pub frames : List Frame
  pub tree : Option CertTree
  pub room : HasRoom frames
  pub at : path ≡ path_of frames
  pub left : drop k all ≡ left_at M frames tree

pub stands_first : (M : Program) (tree : CertTree) → Stands M (visits M [] tree) 0 []
unfolding HasRoom left_at path_of due
stands_first M tree = record { frames = []; tree = Some tree; room = tt; at = refl; left = sym (nil_right (visits M [] tree)) }
  where
    nil_right : (l : List (Path × CertNode)) → l ++ [] ≡ l
    nil_right [] = refl
    nil_right (x ∷ l) = ap (λ m. x ∷ m) (nil_right l)

pub nodes_of : (M : Program) (path : Path) (tree : CertTree) → map (λ p. p.1) (visits M path tree) ≡ certificate_nodes tree
nodes_of M path (Bound mults) = refl
nodes_of M path (Farkas mults) = refl
nodes_of M path Empty = refl
nodes_of M path (Split col v left right) =
    ap (λ ns. node.Split col v ∷ ns)
    (map-append (λ p. p.1) (visits M (left_path path (place_in (column_names M) col) v) left) (visits M (right_path path (place_in (column_names M) col) v) right)
    ∙ (λ i. nodes_of M (left_path path (place_in (column_names M) col) v) left i ++ nodes_of M (right_path path (place_in (column_names M) col) v) right i))

some_left : {A : Type 0} (all : List A) (k : ℕ) → k < length all → drop k all ≡ [] → ⊥
some_left all k below e = let l = length-drop k all in let z = ap length e in omega (arith, l, z, below)

next_drop_suc : {A : Type 0} (all : List A) (k : ℕ) (x : A) (rest : List A) → drop k all ≡ x ∷ rest → drop (suc k) all ≡ rest
next_drop_suc [] zero x rest e = absurd cc
next_drop_suc [] (suc k) x rest e = absurd cc
next_drop_suc (y ∷ all) zero x rest e = cc
next_drop_suc (y ∷ all) (suc k) x rest e = next_drop_suc all k x rest e

next_drop : {A : Type 0} (all : List A) (k : ℕ) (x : A) (rest : List A) → drop k all ≡ x ∷ rest → drop (k + 1) all ≡ rest
next_drop all k x rest e = let up : k + 1 ≡ suc k = omega arith in ap (λ n. drop n all) up ∙ next_drop_suc all k x rest e

here_drop : {A : Type 0} (all : List A) (k : ℕ) (x d : A) (rest : List A) → drop k all ≡ x ∷ rest → get_or all k d ≡ x
here_drop [] zero x d rest e = absurd cc
here_drop [] (suc k) x d rest e = absurd cc
here_drop (y ∷ all) zero x d rest e = cc
here_drop (y ∷ all) (suc k) x d rest e = here_drop all k x d rest e

-- the node that is visited next, and where the walk stands behind it
pub record Visits (M : Program) (cuts : ℕ) (all : List (Path × CertNode)) (k : ℕ) (path : Path) : Type 0 where
  pub node : CertNode
  pub is : (d : Path × CertNode) → get_or all k d ≡ (path, node)
  pub behind : (p : NodeWithPlaces) → IsNarrowNode node → IsPlace M cuts node p → (p ≡ node_place.Misnamed → ⊥) → Stands M all (k + 1) (after_node p path)

behind_leaf : (M : Program) (all : List (Path × CertNode)) (k : ℕ) (frames : List Frame) → HasRoom frames → drop (k + 1) all ≡ due M frames → (path : Path) → path ≡ path_of frames → Stands M all (k + 1) (after_leaf path)
behind_leaf M all k frames room left path at = record {
  frames = next_frames frames;
  tree = next_tree frames;
  room = next_room frames room;
  at = ap after_leaf at ∙ next_path frames;
  left = left ∙ next_left M frames;
}

behind_split : (M : Program) (all : List (Path × CertNode)) (k : ℕ) (frames : List Frame) (col : List ℕ) (v : ℤ) (left right : CertTree) → HasRoom frames →
    IsNarrow v × IsNarrow (v +ℤ pos 1) →
    drop (k + 1) all ≡ (visits M (left_path (path_of frames) (place_in (column_names M) col) v) left ++ visits M (right_path (path_of frames) (place_in (column_names M) col) v) right) ++ due M frames →
    (path : Path) → path ≡ path_of frames → Stands M all (k + 1) (left_path path (place_in (column_names M) col) v)
unfolding HasRoom left_at path_of due
behind_split M all k frames col v left right room narrow e path at =
    let j = place_in (column_names M) col in
    record {
      frames = First j v right ∷ frames;
      tree = Some left;
      room = (narrow.0, (narrow.1, room));
      at = ap (λ p. left_path p j v) at;
      left = e ∙ append_assoc (visits M (left_path (path_of frames) j v) left) (visits M (right_path (path_of frames) j v) right) (due M frames);
    }

-- a node that no place of a split is of
abbrev IsLeafNode : Program → ℕ → CertNode → Type 0
IsLeafNode M cuts n = (col : ColId) (v : ℤ) → IsPlace M cuts n (node_place.Split col v) → ⊥

module _ (M : Program) (cuts : ℕ) (all : List (Path × CertNode)) (k : ℕ) (path : Path) (frames : List Frame) (room : HasRoom frames) (at : path ≡ path_of frames) where
  leaf_behind : (n : CertNode) → IsLeafNode M cuts n → drop (k + 1) all ≡ due M frames → (p : NodeWithPlaces) → IsPlace M cuts n p → (p ≡ node_place.Misnamed → ⊥) → Stands M all (k + 1) (after_node p path)
  leaf_behind n leaf next node_place.Misnamed place named = absurd (named refl)
  leaf_behind n leaf next (node_place.Split col v) place named = absurd (leaf col v place)
  leaf_behind n leaf next (node_place.Bound mult) place named = behind_leaf M all k frames room next path at
  leaf_behind n leaf next (node_place.Farkas mult) place named = behind_leaf M all k frames room next path at
  leaf_behind n leaf next node_place.Empty place named = behind_leaf M all k frames room next path at

  split_behind : (col : List ℕ) (v : ℤ) (left right : CertTree) →
      drop (k + 1) all ≡ (visits M (left_path (path_of frames) (place_in (column_names M) col) v) left ++ visits M (right_path (path_of frames) (place_in (column_names M) col) v) right) ++ due M frames →
      (p : NodeWithPlaces) → IsNarrow v × IsNarrow (v +ℤ pos 1) → IsPlace M cuts (node.Split col v) p → (p ≡ node_place.Misnamed → ⊥) → Stands M all (k + 1) (after_node p path)
  split_behind col v left right next node_place.Misnamed narrow place named = absurd (named refl)
  split_behind col v left right next (node_place.Split j w) narrow place named =
      subst (λ T. T) (λ i. Stands M all (k + 1) (path ++ at_most (sym place.1 i) (sym place.2 i) ∷ [])) (behind_split M all k frames col v left right room narrow next path at)
  split_behind col v left right next (node_place.Bound mult) narrow place named = absurd place
  split_behind col v left right next (node_place.Farkas mult) narrow place named = absurd place
  split_behind col v left right next node_place.Empty narrow place named = absurd place

  visits_leaf : (n : CertNode) → IsLeafNode M cuts n → drop k all ≡ (path_of frames, n) ∷ due M frames → Visits M cuts all k path
  visits_leaf n leaf e = record {
    node = n;
    is = λ d. here_drop all k (path_of frames, n) d (due M frames) e ∙ ap (λ p. (p, n)) (sym at);
    behind = λ p narrow place named. leaf_behind n leaf (next_drop all k (path_of frames, n) (due M frames) e) p place named;
  }

  visits_tree : (tree : CertTree) → drop k all ≡ visits M (path_of frames) tree ++ due M frames → Visits M cuts all k path
  visits_tree (Bound mults) e = visits_leaf (node.Bound mults) (λ col v place. place) e
  visits_tree (Farkas mults) e = visits_leaf (node.Farkas mults) (λ col v place. place) e
  visits_tree Empty e = visits_leaf node.Empty (λ col v place. place) e
  visits_tree (Split col v left right) e = record {
    node = node.Split col v;
    is = λ d. here_drop all k (path_of frames, node.Split col v) d _ e ∙ ap (λ p. (p, node.Split col v)) (sym at);
    behind = λ p narrow place named. split_behind col v left right (next_drop all k (path_of frames, node.Split col v) _ e) p narrow place named;
  }

  visits_left : (tree : Option CertTree) → k < length all → drop k all ≡ left_at M frames tree → Visits M cuts all k path
  unfolding left_at
  visits_left None below e = absurd (some_left all k below e)
  visits_left (Some tree) below e = visits_tree tree e

pub visits_next : (M : Program) (cuts : ℕ) (all : List (Path × CertNode)) (k : ℕ) (path : Path) → k < length all → Stands M all k path → Visits M cuts all k path
visits_next M cuts all k path below s = visits_left M cuts all k path s.frames s.room s.at s.tree below s.left
