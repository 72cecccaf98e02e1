-- What a placed result makes of a search.
--     Takes S id result S' taken      what was answered, and the search after it: the first that applies of
--                                     Stale, Refused, Reopened, Full, and else Closed, Split or Kept
use Rattle.std.specs.Prelude.{◌≡◌, ℕ, ◌+◌, List, [], ℤ, Option, Some, None}
use Rattle.lp_model.specs.Program.{Point}
use Rattle.lp_model.specs.Regions.{Path, AreNarrow}
use Rattle.lp_model.specs.Formulations.{Formulation}
use Rattle.lp_model.specs.declared.types.Basis.{Basis}
use Rattle.leaf_dual.specs.Dual.{Multipliers}
use Rattle.branch_tree.specs.Tree.{Leaf, Split as Split', left_path, right_path, EachLeaf}
use Rattle.branch_tree.specs.Plain.{Plain, data_of, replaced}
use Rattle.branch_tree.specs.Leaves.{with_state}
use Rattle.branch_tree.specs.Numbered.{NumberedTree}
use Rattle.branch_tree.specs.Changes.{with_leaf, HasLeaf, HasRoom}
use Rattle.branch_tree.specs.declared.node.LeafState.{LeafState}
use Rattle.branch_tree.specs.declared.node.LeafState.TheVariants.{IsOpen, IsClosed}
use Rattle.branch_tree.specs.declared.node.LeafData.{LeafData}
use Rattle.branch_tree.specs.declared.node.NodeResult.{NodeResult}
use Rattle.branch_tree.specs.declared.node.NodeResult.TheVariants.{Close, Split as SplitAt, PointAndClose, Keep}
use Rattle.sound_searches.specs.declared.taken.Taken.{Taken}
use Rattle.sound_searches.specs.declared.taken.Taken.TheVariants.{Stale, Refused, Reopened, Full, Closed, Split, Kept}
use Rattle.leaf_judging.specs.Closing.{IsJudged, IsJudgedLeaf, ClosesBy}
use Rattle.search_parts.specs.Points.{IsKeepable, target}
use Rattle.search_parts.specs.Lists.{AreMultipliers, IsBasis, HasLists}
use Rattle.search_parts.specs.Checks.{IsSplitAllowed}
use Rattle.leaf_judging.specs.Judged.{JudgesAll}
use Rattle.sound_searches.specs.Sound.{PlainSearch, formulation_of}
use Rattle.sound_searches.specs.Calls.{IsLeafAt, IsOpenLeaf}
use Rattle.search_parts.specs.Joining.{AddsPoint}

-- ---- points

-- x is kept, and all leaves are judged against the least value
pub record TakesPoint (old : PlainSearch) (x : Point) (new : PlainSearch) : Type 0 where
  pub model : new.model ≡ old.model
  pub cuts : new.cuts ≡ old.cuts
  pub points : AddsPoint old.model old.points x new.points
  pub tree : JudgesAll (formulation_of old) (target old.model new.points) old.tree new.tree

-- the leaf closes against the least value that there is with x
abbrev pub ClosesWith : PlainSearch → Point → Path → LeafData → Type 0
ClosesWith S x path kept = (points : List Point) × (AddsPoint S.model S.points x points × ClosesBy (formulation_of S) (target S.model points) path kept)

-- ---- leaves

-- each leaf with the id has this path
abbrev pub IsAt : ℕ → Path → Plain → Type 0
IsAt id path t = EachLeaf (λ p l. l.id ≡ id → p ≡ path) [] t

-- a leaf has the id, and this path
pub record HasLeafAt (T : NumberedTree) (id : ℕ) (path : Path) : Type 0 where
  pub has : HasLeaf T id
  pub at : IsAt id path T.root

abbrev pub search_with_leaf : PlainSearch → ℕ → LeafData → PlainSearch
search_with_leaf S id kept = record S { tree = with_leaf S.tree id kept }

-- ---- answers, where a leaf with this path is open

-- the leaf is to be closed with these data, without a point
abbrev pub TakesClose : PlainSearch → ℕ → Path → LeafData → PlainSearch → Taken → Type 0
TakesClose S id path kept S' Stale = ⊥
TakesClose S id path kept S' Refused = (¬ HasLists (formulation_of S) kept) × (S' ≡ S)
TakesClose S id path kept S' Reopened = HasLists (formulation_of S) kept × (¬ ClosesBy (formulation_of S) (target S.model S.points) path kept) × (S' ≡ S)
TakesClose S id path kept S' Full = ⊥
TakesClose S id path kept S' Closed = HasLists (formulation_of S) kept × ClosesBy (formulation_of S) (target S.model S.points) path kept × (S' ≡ search_with_leaf S id kept)
TakesClose S id path kept S' Split = ⊥
TakesClose S id path kept S' Kept = ⊥

-- it is to be closed, and a point comes with it
abbrev pub TakesPointClose : PlainSearch → ℕ → Path → Point → LeafData → PlainSearch → Taken → Type 0
TakesPointClose S id path x kept S' Stale = ⊥
TakesPointClose S id path x kept S' Refused = (¬ (IsKeepable S.model x × HasLists (formulation_of S) kept)) × (S' ≡ S)
TakesPointClose S id path x kept S' Reopened = IsKeepable S.model x × HasLists (formulation_of S) kept × (¬ ClosesWith S x path kept) × (S' ≡ S)
TakesPointClose S id path x kept S' Full = ⊥
TakesPointClose S id path x kept S' Closed = IsKeepable S.model x × HasLists (formulation_of S) kept × ClosesWith S x path kept × ((mid : PlainSearch) × (TakesPoint S x mid × (S' ≡ search_with_leaf mid id kept)))
TakesPointClose S id path x kept S' Split = ⊥
TakesPointClose S id path x kept S' Kept = ⊥

-- the leaf has these data, but for its state, which is judged
abbrev pub PutsJudged : PlainSearch → ℕ → Path → LeafData → PlainSearch → Type 0
PutsJudged S id path kept S' = (state : LeafState) × (IsJudged (formulation_of S) (target S.model S.points) path kept.mult kept.farkas state × (S' ≡ search_with_leaf S id (with_state state kept)))

-- it is to have these data, with another basis
abbrev pub TakesKeep : PlainSearch → ℕ → Path → LeafData → PlainSearch → Taken → Type 0
TakesKeep S id path kept S' Stale = ⊥
TakesKeep S id path kept S' Refused = (¬ IsBasis (formulation_of S) kept.basis) × (S' ≡ S)
TakesKeep S id path kept S' Reopened = ⊥
TakesKeep S id path kept S' Full = ⊥
TakesKeep S id path kept S' Closed = ⊥
TakesKeep S id path kept S' Split = ⊥
TakesKeep S id path kept S' Kept = IsBasis (formulation_of S) kept.basis × PutsJudged S id path kept S'

-- and a point comes with it
abbrev pub TakesPointKeep : PlainSearch → ℕ → Path → Point → LeafData → PlainSearch → Taken → Type 0
TakesPointKeep S id path x kept S' Stale = ⊥
TakesPointKeep S id path x kept S' Refused = (¬ (IsKeepable S.model x × IsBasis (formulation_of S) kept.basis)) × (S' ≡ S)
TakesPointKeep S id path x kept S' Reopened = ⊥
TakesPointKeep S id path x kept S' Full = ⊥
TakesPointKeep S id path x kept S' Closed = ⊥
TakesPointKeep S id path x kept S' Split = ⊥
TakesPointKeep S id path x kept S' Kept = IsKeepable S.model x × IsBasis (formulation_of S) kept.basis × ((mid : PlainSearch) × (TakesPoint S x mid × PutsJudged mid id path kept S'))

-- with a point or without
abbrev pub TakesBasis : PlainSearch → ℕ → Path → Option Point → LeafData → PlainSearch → Taken → Type 0
TakesBasis S id path None kept S' taken = TakesKeep S id path kept S' taken
TakesBasis S id path (Some point) kept S' taken = TakesPointKeep S id path point kept S' taken

-- ---- splits

-- the region of this path keeps these multipliers and this basis, no Farkas multipliers, and is judged
pub record IsChild (S : PlainSearch) (path : Path) (mult : Multipliers) (basis : Basis) (kept : LeafData) : Type 0 where
  pub mult_is : kept.mult ≡ mult
  pub farkas_is : kept.farkas ≡ []
  pub basis_is : kept.basis ≡ basis
  pub judged : IsJudgedLeaf (formulation_of S) (target S.model S.points) path kept

-- the split with its two leaves, the ids of which follow the last one
abbrev pub split_with_leaves : ℕ → ℕ → ℕ → ℤ → Multipliers → Basis → LeafData → LeafData → Plain
split_with_leaves last id j v mult basis left right =
    Split' (record { id = id; mult = mult; basis = basis }) j v (Leaf (record { id = last + 1; kept = left })) (Leaf (record { id = last + 2; kept = right }))

abbrev pub tree_with_split : NumberedTree → ℕ → ℕ → ℤ → Multipliers → Basis → LeafData → LeafData → NumberedTree
tree_with_split T id j v mult basis left right = record { root = replaced id (split_with_leaves T.last id j v mult basis left right) T.root; last = T.last + 2; limit = T.limit }

abbrev pub search_with_split : PlainSearch → ℕ → ℕ → ℤ → Multipliers → Basis → LeafData → LeafData → PlainSearch
search_with_split S id j v mult basis left right = record S { tree = tree_with_split S.tree id j v mult basis left right }

-- the parts of a split fit
pub record IsSplitSound (F : Formulation) (path : Path) (j : ℕ) (v : ℤ) (mult : Multipliers) (basis : Basis) : Type 0 where
  pub allowed : IsSplitAllowed F.model path j v
  pub mult_is : AreMultipliers F mult
  pub basis_is : IsBasis F basis

-- the leaf is split, and its children are judged
abbrev pub Splits : PlainSearch → ℕ → Path → ℕ → ℤ → Multipliers → Basis → PlainSearch → Type 0
Splits S id path j v mult basis S' =
    (left : LeafData) × ((right : LeafData) ×
    (IsChild S (left_path path j v) mult basis left × (IsChild S (right_path path j v) mult basis right × (S' ≡ search_with_split S id j v mult basis left right))))

abbrev pub TakesSplit : PlainSearch → ℕ → Path → ℕ → ℤ → Multipliers → Basis → PlainSearch → Taken → Type 0
TakesSplit S id path j v mult basis S' Stale = ⊥
TakesSplit S id path j v mult basis S' Refused = (¬ IsSplitSound (formulation_of S) path j v mult basis) × (S' ≡ S)
TakesSplit S id path j v mult basis S' Reopened = ⊥
TakesSplit S id path j v mult basis S' Full = IsSplitSound (formulation_of S) path j v mult basis × (¬ HasRoom S.tree) × (S' ≡ S)
TakesSplit S id path j v mult basis S' Closed = ⊥
TakesSplit S id path j v mult basis S' Split = IsSplitSound (formulation_of S) path j v mult basis × HasRoom S.tree × Splits S id path j v mult basis S'
TakesSplit S id path j v mult basis S' Kept = ⊥

-- ---- results

-- no open leaf has the id
abbrev pub IsStale : PlainSearch → ℕ → Type 0
IsStale S id = (kept : LeafData) → data_of id S.tree.root ≡ Some kept → kept.state ≡ IsClosed

-- a result can be placed on the leaf with the id, which has this path (for the calls that place one by its kind)
pub record IsOpenPlace (S : PlainSearch) (id : ℕ) (path : Path) : Type 0 where
  pub is_open : IsOpenLeaf S id path
  pub leaf : HasLeafAt S.tree id path
  pub narrow : AreNarrow path

abbrev pub closed_data : Multipliers → Multipliers → Basis → LeafData
closed_data mult farkas basis = record { state = IsClosed; mult = mult; farkas = farkas; basis = basis }

abbrev pub with_basis : LeafData → Basis → LeafData
with_basis kept basis = record { state = kept.state; mult = kept.mult; farkas = kept.farkas; basis = basis }

-- what a result for the open leaf with this path and these data is answered, and the search after it; one with a point carries
-- no Farkas multipliers, so the leaf keeps its own
abbrev pub TakesResult : PlainSearch → ℕ → Path → LeafData → NodeResult → PlainSearch → Taken → Type 0
TakesResult S id path kept (Close mult farkas basis) S' taken = TakesClose S id path (closed_data mult farkas basis) S' taken
TakesResult S id path kept (SplitAt col v mult basis) S' taken = TakesSplit S id path col.0 v mult basis S' taken
TakesResult S id path kept (PointAndClose point mult basis) S' taken = TakesPointClose S id path point (closed_data mult kept.farkas basis) S' taken
TakesResult S id path kept (Keep point basis) S' taken = TakesBasis S id path point (with_basis kept basis) S' taken

-- an open leaf has the id, and the result is taken there
pub record TakesOpen (S : PlainSearch) (id : ℕ) (result : NodeResult) (S' : PlainSearch) (taken : Taken) : Type 0 where
  pub path : Path
  pub kept : LeafData
  pub leaf : IsLeafAt S.tree.root id path kept
  pub state : kept.state ≡ IsOpen
  pub result_is : TakesResult S id path kept result S' taken

abbrev pub Takes : PlainSearch → ℕ → NodeResult → PlainSearch → Taken → Type 0
Takes S id result S' Stale = IsStale S id × (S' ≡ S)
Takes S id result S' Refused = TakesOpen S id result S' Refused
Takes S id result S' Reopened = TakesOpen S id result S' Reopened
Takes S id result S' Full = TakesOpen S id result S' Full
Takes S id result S' Closed = TakesOpen S id result S' Closed
Takes S id result S' Split = TakesOpen S id result S' Split
Takes S id result S' Kept = TakesOpen S id result S' Kept
