-- The leaf that goes first: it is there and open, and where there is none no leaf is open.
use Rattle.std.specs.Prelude.{◌≡◌, ℕ, ◌≤◌, List, [], ◌∷◌, ◌++◌, length, map, All, Some, None}
use Rattle.std.specs.Option.{option_map}
use Rattle.std.proofs.Common.{refl, sym, subst, ap, ◌∙◌, inl, inr, arith}
use Rattle.std.proofs.lemmas.List.{get_or-map, length-map}
use Rattle.std.proofs.lemmas.List.Elements.{All-map, All-head, All-tail, All-cons}
use Rattle.lp_model.specs.Regions.{Path}
use Rattle.lp_model.specs.Formulations.{Formulation}
use Rattle.branch_tree.specs.Tree.{Leaf, Split, left_path, right_path, EachLeaf, leaves}
use Rattle.branch_tree.specs.Plain.{Plain, LeafKept, leaves_with, leaf_below, path_of, data_of}
use Rattle.branch_tree.specs.Numbered.{IsNumbered}
use Rattle.branch_tree.specs.Leaves.{region_leaf, region_leaves}
use Rattle.branch_tree.specs.declared.node.RegionLeaf.{RegionLeaf}
use Rattle.branch_tree.specs.declared.node.LeafData.{LeafData}
use Rattle.branch_tree.specs.declared.node.LeafState.TheVariants.{IsOpen, IsClosed}
use Rattle.branch_tree.proofs.PathLaws.{each-found}
use Rattle.branch_tree.proofs.TreeLemmas.{each_leaf-leaves}
use Rattle.leaf_judging.specs.Choosing.{IsOneOf, IsCandidate, AreClosed, IsFirstCandidate}
use Rattle.leaf_judging.specs.declared.choosing.Candidate.{Candidate}
use Rattle.sound_searches.specs.Sound.{PlainSearch, formulation_of}
use Rattle.sound_searches.specs.Calls.{IsLeafAt, IsOpenLeaf, IsNext}
use Rattle.tree_search.specs.Steps.{HasOpenLeaf}
use Rattle.sound_searches.specs.Laws.{HasNoOpenLeaf}
use Rattle.sound_searches.specs.Placing.{IsStale}
use Rattle.sound_searches.proofs.OpenLemmas.{leaf_at}
use Rattle.search_counting.proofs.LeafLemmas.{once, found_each}

-- each of the leaves is the one with its id
pub placed-at : (t : Plain) → ((id : ℕ) → leaves_with id t ≤ 1) → All (λ l. IsLeafAt t l.id l.region l.kept) (region_leaves [] t)
placed-at t one =
    All-map (λ (l : RegionLeaf). IsLeafAt t l.id l.region l.kept) region_leaf (leaves [] t)
    (λ k d below.
    let found = each_leaf-leaves (λ p l. leaf_below l.id [] t ≡ Some (p, l)) [] t (found_each [] t one) k d below in
    record { path_is = ap (option_map (λ (l : Path × LeafKept). l.0)) found; data_is = ap (option_map (λ (l : Path × LeafKept). l.1.kept)) found })

apart_append : {A : Type 0} (P : A → Type 0) (xs ys : List A) → All P (xs ++ ys) → All P xs × All P ys
apart_append P [] ys h = ((λ k d below. absurd (omega arith)), h)
apart_append P (x ∷ xs) ys h = let rest = apart_append P xs ys (All-tail P x (xs ++ ys) h) in (All-cons P x xs (All-head P x (xs ++ ys) h) rest.0, rest.1)

pub leaves-each : (P : Path → LeafKept → Type 0) (path : Path) (t : Plain) → All (λ (q : Path × LeafKept). P q.0 q.1) (leaves path t) → EachLeaf P path t
leaves-each P path (Leaf l) h = All-head (λ (q : Path × LeafKept). P q.0 q.1) (path, l) [] h
leaves-each P path (Split kept j v left right) h =
    let parts = apart_append (λ (q : Path × LeafKept). P q.0 q.1) (leaves (left_path path j v) left) (leaves (right_path path j v) right) h in
    (leaves-each P (left_path path j v) left parts.0, leaves-each P (right_path path j v) right parts.1)

-- where each of the leaves is closed, no leaf of the tree is open
pub none-open : (t : Plain) → All (λ l. l.kept.state ≡ IsClosed) (region_leaves [] t) → EachLeaf (λ p l. l.kept.state ≡ IsClosed) [] t
none-open t h =
    leaves-each (λ p l. l.kept.state ≡ IsClosed) [] t
    (λ k d below.
    subst (λ (l : RegionLeaf). l.kept.state ≡ IsClosed) (get_or-map region_leaf (leaves [] t) k d (region_leaf d) below)
    (h k (region_leaf d) (let same : length (map region_leaf (leaves [] t)) ≡ length (leaves [] t) = length-map (leaves [] t) region_leaf in omega (arith, same))))

-- ---- the next leaf

pub closed-all : (ls : List RegionLeaf) → AreClosed ls → All (λ (l : RegionLeaf). l.kept.state ≡ IsClosed) ls
closed-all [] h = λ k d below. absurd (omega arith)
closed-all (l ∷ ls) h = All-cons (λ (l : RegionLeaf). l.kept.state ≡ IsClosed) l ls h.0 (closed-all ls h.1)

pub one-of : (F : Formulation) (P : RegionLeaf → Type 0) (ls : List RegionLeaf) (c : _) → All P ls → IsOneOf F ls c → (l : RegionLeaf) × (IsCandidate F l c × P l)
one-of F P [] c all h = absurd h
one-of F P (l ∷ ls) c all (inl h) = (l, (h, All-head P l ls all))
one-of F P (l ∷ ls) c all (inr h) = one-of F P ls c (All-tail P l ls all) h

pub next-found : (S : PlainSearch) (id : ℕ) → IsNumbered S.tree → IsNext S (Some id) → (l : RegionLeaf) × ((l.kept.state ≡ IsOpen) × IsLeafAt S.tree.root id l.region l.kept)
next-found S id numbered next =
    let (l, (candidate, at)) = one-of (formulation_of S) (λ l. IsLeafAt S.tree.root l.id l.region l.kept) (region_leaves [] S.tree.root) next.0 (placed-at S.tree.root (once S.tree numbered)) next.1.0.0 in
    (l, (candidate.state, subst (λ n. IsLeafAt S.tree.root n l.region l.kept) (sym (next.1.1 ∙ candidate.id)) at))

pub next-there : (S : PlainSearch) (id : ℕ) → IsNumbered S.tree → IsNext S (Some id) → None ≡ path_of id S.tree.root → ⊥
next-there S id numbered next is =
    let found = next-found S id numbered next in
    let e : None ≡ Some found.0.region = is ∙ found.1.1.path_is in cc

pub next-kept : (S : PlainSearch) (id : ℕ) → IsNumbered S.tree → IsNext S (Some id) → None ≡ data_of id S.tree.root → ⊥
next-kept S id numbered next is =
    let found = next-found S id numbered next in
    let e : None ≡ Some found.0.kept = is ∙ found.1.1.data_is in cc

-- where no leaf goes first none is open
pub next-none : (S : PlainSearch) (id : ℕ) (path : Path) → IsNext S None → IsOpenLeaf S id path → ⊥
next-none S id path next leaf =
    let l = leaf_at S.tree.root id path leaf.kept leaf.leaf in
    let closed : l.0.kept.state ≡ IsClosed = (each-found (λ p k. k.kept.state ≡ IsClosed) id [] S.tree.root (path, l.0) (none-open S.tree.root (closed-all (region_leaves [] S.tree.root) next)) l.1.0).0 in
    let state : l.0.kept.state ≡ IsOpen = ap (λ (k : LeafData). k.state) l.1.1 ∙ leaf.state in
    let e : IsOpen ≡ IsClosed = sym state ∙ closed in cc

-- the leaf that goes first is open
pub next-not_stale : (S : PlainSearch) (id : ℕ) → IsNumbered S.tree → IsNext S (Some id) → IsStale S id → ⊥
next-not_stale S id numbered next stale =
    let found = next-found S id numbered next in
    let e : IsOpen ≡ IsClosed = sym found.1.0 ∙ stale found.0.kept found.1.1.data_is in cc

-- the open leaf that goes first is the next one
pub first-next : (S : PlainSearch) (c : Candidate) → IsFirstCandidate (formulation_of S) (region_leaves [] S.tree.root) (Some c) → IsNext S (Some c.id)
first-next S c first = (c, (first, refl))

pub no-leaf_open : (S : PlainSearch) → IsNext S None → HasNoOpenLeaf S
no-leaf_open S next = none-open S.tree.root (closed-all (region_leaves [] S.tree.root) next)

pub next-open_leaf : (S : PlainSearch) (id : ℕ) → IsNumbered S.tree → IsNext S (Some id) → HasOpenLeaf S
next-open_leaf S id numbered next =
    let found = next-found S id numbered next in
    (id, (found.0.region, record { kept = found.0.kept; leaf = found.1.1; state = found.1.0 }))

pub open-left : (S : PlainSearch) → HasOpenLeaf S → ¬ HasNoOpenLeaf S
open-left S (id, (path, leaf)) none =
    let l = leaf_at S.tree.root id path leaf.kept leaf.leaf in
    let closed : l.0.kept.state ≡ IsClosed = (each-found (λ p k. k.kept.state ≡ IsClosed) id [] S.tree.root (path, l.0) none l.1.0).0 in
    let state : l.0.kept.state ≡ IsOpen = ap (λ (k : LeafData). k.state) l.1.1 ∙ leaf.state in
    let e : IsOpen ≡ IsClosed = sym state ∙ closed in cc
