-- What a search leaves is in order.
use Rattle.std.specs.Prelude.{ℕ, ◌≤◌}
use Rattle.lp_model.specs.Program.{Program}
use Rattle.lp_model.specs.declared.types.Basis.{Basis}
use Rattle.search_answers.specs.declared.answers.Answer.{Answer}
use Rattle.lp_model.specs.Limits.{node_limit}
use Rattle.branch_tree.specs.Numbered.{IsNumbered}
use Rattle.list_order.specs.Ordered.{IsInOrder}
use Rattle.sound_searches.specs.Sound.{PlainSearch}
use Rattle.tree_search.specs.Search.{Finds, GivesUp}
use Rattle.tree_search.specs.Turns.{Order}
use Rattle.tree_search.specs.Beginnings.{BeginsWith}
use Rattle.tree_search.specs.Solves.{SolvesModel}
use Rattle.tree_search.specs.Warm.{WarmsFrom}
use Rattle.tree_search.specs.declared.limits.Limits.{Limits}
use Rattle.tree_search.specs.declared.searching.Searched.{Searched}
use Rattle.tree_search.specs.declared.searching.Ways.{Ways}

pub record SearchOrderLaw : Type 0 where
  -- along what is placed, to the end or to where it stops
  pub finds : (ways : Ways) (first : Basis) (order : Order) (nodes pivots : ℕ) (old new : PlainSearch) (searched : Searched) → BeginsWith old.model pivots ways first → Finds ways first order nodes pivots old new searched
      → IsNumbered old.tree → IsInOrder old → IsInOrder new
  -- and to where there is no memory
  pub gives : (ways : Ways) (first : Basis) (order : Order) (nodes pivots : ℕ) (old new : PlainSearch) → BeginsWith old.model pivots ways first → GivesUp ways first order nodes pivots old new → IsNumbered old.tree → IsInOrder old → IsInOrder new
  -- what a solve leaves, from a fresh leaf on, with a limit that a search may have
  pub solves : (M : Program) (l : Limits) (old : PlainSearch) (answer : Answer) (new : PlainSearch) → SolvesModel M l old answer new → l.tree ≤ node_limit → IsInOrder old → IsInOrder new
  -- and what one leaves that goes on
  pub warms : (l : Limits) (old : PlainSearch) (answer : Answer) (new : PlainSearch) → WarmsFrom l old answer new → l.tree ≤ node_limit → IsNumbered old.tree → IsInOrder old → IsInOrder new
