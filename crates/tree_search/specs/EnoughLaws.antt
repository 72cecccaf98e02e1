-- That what is enough for a search can be had: a model without columns and rows asks for one result, one move and one node more; and for each
-- model some number of moves is more than any run of its relaxations has. Whoever shares the search, that is the same.
use Rattle.std.specs.Prelude.{◌≡◌, ℕ, ◌+◌, ◌^◌, ◌<◌, List, [], length, None}
use Rattle.lp_model.specs.Program.{Program}
use Rattle.lp_model.specs.declared.types.CutRow.{CutRow}
use Rattle.branch_tree.specs.Tree.{node_count, split_count}
use Rattle.sound_searches.specs.Sound.{PlainSearch}
use Rattle.tree_search.specs.Enough.{IsEnough, IsKeptEnough}
use Rattle.tree_search.specs.Room.{HasMoves}

abbrev pub EnoughForNewLaw : Type 0
EnoughForNewLaw = (M : Program) (workers seed : ℕ) → M.cols ≡ [] → M.rows ≡ [] → IsEnough M [] (record { nodes = 1; pivots = 1; tree = 1; workers = workers; seed = seed; gap = None })

-- each tree of a search has such ids
abbrev pub EnoughForKeptLaw : Type 0
EnoughForKeptLaw =
    (S : PlainSearch) (workers seed : ℕ) → S.model.cols ≡ [] → S.model.rows ≡ [] → S.tree.last + split_count S.tree.root < 2 ^ 64
    → IsKeptEnough S [] (record { nodes = 1; pivots = 1; tree = node_count S.tree.root + 1; workers = workers; seed = seed; gap = None })

-- each variable is basic, at its low side or at its high one, and no state comes twice
abbrev pub MovesMetLaw : Type 0
MovesMetLaw = (M : Program) (pool : List CutRow) → HasMoves M pool (3 ^ (length M.cols + (length M.rows + length pool)))
