-- Laws of regions, and of what a search can still place.
use Rattle.std.specs.Prelude.{◌≡◌, ℕ, ◌+◌, ◌*◌, ◌-◌, ◌^◌, ◌<◌, ◌≤◌, IsTrue, ℤ, [], length}
use Rattle.lp_model.specs.Program.{Program, is_integer}
use Rattle.lp_model.specs.Lawful.{IsLawful}
use Rattle.lp_model.specs.Regions.{Path, IsEmptyRegion}
use Rattle.branch_tree.specs.Tree.{left_path, right_path, SplitsLawfully}
use Rattle.branch_tree.specs.Plain.{Plain}
use Rattle.branch_tree.specs.Numbered.{IsNumbered}
use Rattle.branch_tree.specs.Changes.{HasRoom, first_tree}
use Rattle.branch_tree.specs.declared.node.LeafData.{LeafData}
use Rattle.branch_tree.specs.declared.node.LeafState.TheVariants.{IsOpen}
use Rattle.branch_tree.specs.declared.node.NodeResult.{NodeResult}
use Rattle.sound_searches.specs.declared.taken.Taken.{Taken}
use Rattle.sound_searches.specs.declared.taken.Taken.TheVariants.{Stale, Refused, Reopened, Full, Closed, Split, Kept}
use Rattle.search_parts.specs.Checks.{IsSplitAllowed}
use Rattle.sound_searches.specs.Calls.{IsFresh, IsLeafAt}
use Rattle.sound_searches.specs.Placing.{Takes}
use Rattle.sound_searches.specs.Sound.{PlainSearch, IsSound}
use Rattle.search_counting.specs.Points.{points}
use Rattle.search_counting.specs.Work.{whole_points, cap_of, work, splits, work_of, IsRoomy, Lowers, HasRoomFor}

-- a split's two children have together the points of their parent
abbrev pub ChildrenLaw : Type 0
ChildrenLaw =
    (M : Program) (path : Path) (j : ℕ) (v : ℤ) → IsLawful M → j < length M.cols → IsTrue (is_integer M j) → points M (left_path path j v) + points M (right_path path j v) ≡ points M path

-- a region that is not seen to be empty has a point
abbrev pub SomePointLaw : Type 0
SomePointLaw = (M : Program) (path : Path) → IsLawful M → (¬ IsEmptyRegion M path) → 1 ≤ points M path

-- the work of a tree is at most the cap of its model
abbrev pub CapLaw : Type 0
CapLaw = (M : Program) (t : Plain) → IsLawful M → SplitsLawfully M t → work M [] t ≤ cap_of M

-- a search's splits are fewer than the model's points, if it has any
abbrev pub SplitCapLaw : Type 0
SplitCapLaw = (M : Program) (t : Plain) → IsLawful M → SplitsLawfully M t → splits M [] t ≤ whole_points M - 1

-- ---- results

-- the leaf was closed or split
abbrev pub IsEffective : Taken → Type 0
IsEffective Stale = ⊥
IsEffective Refused = ⊥
IsEffective Reopened = ⊥
IsEffective Full = ⊥
IsEffective Closed = Unit {0}
IsEffective Split = Unit {0}
IsEffective Kept = ⊥

-- a result that closes or splits a leaf leaves less to place
abbrev pub LowersLaw : Type 0
LowersLaw =
    (S : PlainSearch) (id : ℕ) (done : NodeResult) (S' : PlainSearch) (taken : Taken) → IsSound S → IsNumbered S.tree → IsLawful S.model → Takes S id done S' taken → IsEffective taken → Lowers S S'

-- an open leaf has a result left
abbrev pub LeftLaw : Type 0
LeftLaw = (S : PlainSearch) (id : ℕ) (path : Path) (kept : LeafData) → IsSound S → IsLawful S.model → IsLeafAt S.tree.root id path kept → kept.state ≡ IsOpen → 1 ≤ work_of S

-- where each split that can come has room, one of an open leaf has it
abbrev pub RoomLaw : Type 0
RoomLaw =
    (S : PlainSearch) (id : ℕ) (path : Path) (kept : LeafData) (j : ℕ) (v : ℤ) → IsSound S → IsLawful S.model → IsLeafAt S.tree.root id path kept → kept.state ≡ IsOpen → IsSplitAllowed S.model path j v →
    IsRoomy S → HasRoom S.tree

-- ---- new searches

-- one whose tree may have as many nodes as the cap says, and three ids beside the first for each of those splits, has room for one split
-- fewer than the model has points
abbrev pub RoomyLaw : Type 0
RoomyLaw = (M : Program) (nodes : ℕ) (S : PlainSearch) → IsFresh M nodes S → cap_of M ≤ nodes → 1 + 3 * (whole_points M - 1) < 2 ^ 64 → HasRoomFor (whole_points M - 1) S.tree

-- one whose tree has no room for all its splits began without room for so many
abbrev pub TooSmallLaw : Type 0
TooSmallLaw = (M : Program) (nodes : ℕ) (S : PlainSearch) → IsFresh M nodes S → IsSound S → IsLawful M → (¬ IsRoomy S) → ¬ HasRoomFor (whole_points M - 1) (first_tree nodes)
