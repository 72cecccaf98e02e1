-- What a search is left with where there is no memory for its next result.
--     LeavesOf ways first pivots job S S'       maybe the first of the cuts that the work on the leaf of a job found were added, and nothing else
--     LeavesTurn ways first pivots crew S S'    the first of the cuts were added that the work on the job found whose worker has its turn
use Rattle.std.specs.Prelude.{◌≡◌, ◌⊎◌, ℕ, List, []}
use Rattle.lp_model.specs.declared.types.Basis.{Basis}
use Rattle.lp_model.specs.declared.types.Derivation.{Derivation}
use Rattle.branch_tree.specs.declared.node.Job.{Job}
use Rattle.sound_searches.specs.Pool.{AddsSome}
use Rattle.sound_searches.specs.Sound.{PlainSearch}
use Rattle.node_solve.specs.declared.working.Worked.{Worked}
use Rattle.node_solve.specs.declared.working.Worked.TheVariants.{Done, Pivots, Wide, Memory}
use Rattle.tree_search.specs.Steps.{WorksNext}
use Rattle.tree_search.specs.Turns.{Crew, ActsOn}
use Rattle.tree_search.specs.declared.searching.Ways.{Ways}

-- the cuts that the work on a leaf found
abbrev pub cuts_found : Worked → List Derivation
cuts_found (Done result found) = found.items
cuts_found (Pivots basis found) = found.items
cuts_found (Wide at found) = found.items
cuts_found Memory = []

-- the leaf of the job was worked, and the first of the cuts that this found were added
pub record AddsFirstFound (ways : Ways) (first : Basis) (pivots : ℕ) (job : Job) (old new : PlainSearch) : Type 0 where
  pub worked : Worked
  pub works : WorksNext ways first pivots old job worked
  pub adds : AddsSome old (cuts_found worked) new

abbrev pub LeavesOf : Ways → Basis → ℕ → Job → PlainSearch → PlainSearch → Type 0
LeavesOf ways first pivots job old new = (new ≡ old) ⊎ AddsFirstFound ways first pivots job old new

abbrev pub LeavesTurn : Ways → Basis → ℕ → Crew → PlainSearch → PlainSearch → Type 0
LeavesTurn ways first pivots crew old new = (job : Job) × (ActsOn crew job × AddsFirstFound ways first pivots job old new)
