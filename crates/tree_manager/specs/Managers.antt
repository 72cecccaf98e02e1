-- A manager: a search, and for each worker the id of the leaf that it holds, or none.
--     has_open S id           an open leaf of the search has the id
--     AreHeld S held          each leaf that is held is open, and no two workers hold one
--     held_on S held          what of `held` is left in the search S: a leaf that is not open is held by nobody
--     IsManager P             the search is sound, and its leaves are held so
-- A worker is known by its place in the list, from 0.
use Rattle.std.specs.Prelude.{◌≡◌, ℕ, ◌<◌, Bool, true, false, if◌then◌else◌, List, length, get_or, map, set, replicate, Option, Some, None}
use Rattle.branch_tree.specs.Plain.{data_of}
use Rattle.branch_tree.specs.Numbered.{IsNumbered}
use Rattle.branch_tree.specs.declared.node.LeafData.{LeafData}
use Rattle.branch_tree.specs.declared.node.LeafState.{LeafState}
use Rattle.branch_tree.specs.declared.node.LeafState.TheVariants.{IsOpen, IsClosed}
use Rattle.sound_searches.specs.Sound.{PlainSearch, IsSound}

-- what a contract sees of a manager
pub record PlainManager : Type 0 where
  pub search : PlainSearch
  pub held : List (Option ℕ)

-- ---- open leaves

abbrev pub is_open_state : LeafState → Bool
is_open_state IsOpen = true
is_open_state IsClosed = false

abbrev pub is_open_data : Option LeafData → Bool
is_open_data None = false
is_open_data (Some kept) = is_open_state kept.state

abbrev pub has_open : PlainSearch → ℕ → Bool
has_open S id = is_open_data (data_of id S.tree.root)

-- ---- what workers hold

-- the worker holds the leaf with the id
abbrev pub HoldsLeaf : List (Option ℕ) → ℕ → ℕ → Type 0
HoldsLeaf held w id = get_or held w None ≡ Some id

pub record AreHeld (S : PlainSearch) (held : List (Option ℕ)) : Type 0 where
  pub some : 0 < length held
  pub are_open : (w id : ℕ) → HoldsLeaf held w id → has_open S id ≡ true
  pub one : (v w id : ℕ) → HoldsLeaf held v id → HoldsLeaf held w id → v ≡ w

abbrev pub kept_holding : PlainSearch → Option ℕ → Option ℕ
kept_holding S None = None
kept_holding S (Some id) = if has_open S id then Some id else None

abbrev pub held_on : PlainSearch → List (Option ℕ) → List (Option ℕ)
held_on S held = map (kept_holding S) held

-- ---- managers

pub record IsManager (P : PlainManager) : Type 0 where
  pub sound : IsSound P.search
  pub numbered : IsNumbered P.search.tree
  pub held : AreHeld P.search P.held

-- so many workers, of which none holds a leaf
abbrev pub idle_manager : PlainSearch → ℕ → PlainManager
idle_manager S workers = record { search = S; held = replicate workers None }

-- the worker holds this leaf, or none; all else is as it was
abbrev pub with_holding : PlainManager → ℕ → Option ℕ → PlainManager
with_holding P w holding = record { search = P.search; held = set P.held w holding }
