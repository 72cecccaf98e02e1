-- Where no leaf goes first none is open, and the other way round.
use Rattle.std.specs.Prelude.{◌≡◌, ℕ, Bool, true, false, List, [], ◌∷◌, ◌++◌, length, map, All, not, is_some, Option, Some, None}
use Rattle.std.proofs.Common.{refl, sym, subst, ◌∙◌, inl, inr, arith}
use Rattle.std.proofs.lemmas.List.{get_or-map, length-map}
use Rattle.std.proofs.lemmas.List.Elements.{All-map, All-head, All-tail, All-cons}
use Rattle.lp_model.specs.Regions.{Path}
use Rattle.lp_model.specs.Formulations.{Formulation}
use Rattle.branch_tree.specs.Tree.{Leaf, Split, left_path, right_path, EachLeaf, leaves}
use Rattle.branch_tree.specs.Plain.{Plain, LeafKept}
use Rattle.branch_tree.specs.Leaves.{region_leaf, region_leaves}
use Rattle.branch_tree.specs.declared.node.RegionLeaf.{RegionLeaf}
use Rattle.branch_tree.specs.declared.node.LeafState.TheVariants.{IsOpen, IsClosed}
use Rattle.branch_tree.proofs.TreeLemmas.{each_leaf-leaves}
use Rattle.leaf_judging.specs.declared.choosing.Candidate.{Candidate}
use Rattle.leaf_judging.specs.Choosing.{IsOneOf, IsCandidate, AreClosed}
use Rattle.sound_searches.specs.Sound.{PlainSearch, formulation_of}
use Rattle.sound_searches.specs.Calls.{IsNext}
use Rattle.sound_searches.specs.Laws.{HasNoOpenLeaf}

apart_append : {A : Type 0} (P : A → Type 0) (xs ys : List A) → All P (xs ++ ys) → All P xs × All P ys
apart_append P [] ys h = ((λ k d below. absurd (omega arith)), h)
apart_append P (x ∷ xs) ys h = let rest = apart_append P xs ys (All-tail P x (xs ++ ys) h) in (All-cons P x xs (All-head P x (xs ++ ys) h) rest.0, rest.1)

leaves-each : (P : Path → LeafKept → Type 0) (path : Path) (t : Plain) → All (λ (q : Path × LeafKept). P q.0 q.1) (leaves path t) → EachLeaf P path t
leaves-each P path (Leaf l) h = All-head (λ (q : Path × LeafKept). P q.0 q.1) (path, l) [] h
leaves-each P path (Split kept j v left right) h =
    let parts = apart_append (λ (q : Path × LeafKept). P q.0 q.1) (leaves (left_path path j v) left) (leaves (right_path path j v) right) h in
    (leaves-each P (left_path path j v) left parts.0, leaves-each P (right_path path j v) right parts.1)

none-open : (t : Plain) → All (λ (l : RegionLeaf). l.kept.state ≡ IsClosed) (region_leaves [] t) → EachLeaf (λ p l. l.kept.state ≡ IsClosed) [] t
none-open t h =
    leaves-each (λ p l. l.kept.state ≡ IsClosed) [] t
    (λ k d below.
    subst (λ (l : RegionLeaf). l.kept.state ≡ IsClosed) (get_or-map region_leaf (leaves [] t) k d (region_leaf d) below)
    (h k (region_leaf d) (let same : length (map region_leaf (leaves [] t)) ≡ length (leaves [] t) = length-map (leaves [] t) region_leaf in omega (arith, same))))

closed-all : (ls : List RegionLeaf) → AreClosed ls → All (λ (l : RegionLeaf). l.kept.state ≡ IsClosed) ls
closed-all [] h = λ k d below. absurd (omega arith)
closed-all (l ∷ ls) h = All-cons (λ (l : RegionLeaf). l.kept.state ≡ IsClosed) l ls h.0 (closed-all ls h.1)

one-of : (F : Formulation) (P : RegionLeaf → Type 0) (ls : List RegionLeaf) (c : Candidate) → All P ls → IsOneOf F ls c → (l : RegionLeaf) × (IsCandidate F l c × P l)
one-of F P [] c all h = absurd h
one-of F P (l ∷ ls) c all (inl h) = (l, (h, All-head P l ls all))
one-of F P (l ∷ ls) c all (inr h) = one-of F P ls c (All-tail P l ls all) h

all-closed : (t : Plain) → EachLeaf (λ p l. l.kept.state ≡ IsClosed) [] t → All (λ (l : RegionLeaf). l.kept.state ≡ IsClosed) (region_leaves [] t)
all-closed t h = All-map (λ (l : RegionLeaf). l.kept.state ≡ IsClosed) region_leaf (leaves [] t) (λ k d below. each_leaf-leaves (λ p l. l.kept.state ≡ IsClosed) [] t h k d below)

some-open : (S : PlainSearch) (id : ℕ) → IsNext S (Some id) → HasNoOpenLeaf S → ⊥
some-open S id next closed =
    let (l, (candidate, state)) = one-of (formulation_of S) (λ (l : RegionLeaf). l.kept.state ≡ IsClosed) (region_leaves [] S.tree.root) next.0 (all-closed S.tree.root closed) next.1.0.0 in
    let e : IsOpen ≡ IsClosed = sym candidate.state ∙ state in cc

-- whether there is a next leaf tells whether one is open
pub tells-end : (S : PlainSearch) (next : Option ℕ) → IsNext S next → (b : Bool) → is_some next ≡ not b → (b ≡ true → HasNoOpenLeaf S) × (HasNoOpenLeaf S → b ≡ true)
tells-end S None h true e = ((λ t. none-open S.tree.root (closed-all (region_leaves [] S.tree.root) h)), (λ t. refl))
tells-end S None h false e = let f : false ≡ true = e in absurd cc
tells-end S (Some id) h true e = let f : true ≡ false = e in absurd cc
tells-end S (Some id) h false e = ((λ t. let f : false ≡ true = t in absurd cc), (λ closed. absurd (some-open S id h closed)))
