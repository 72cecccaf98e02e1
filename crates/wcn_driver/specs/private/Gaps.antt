-- A gap that is looked into, and what is found in it.
use Rattle.std.specs.Prelude.{◌≡◌, ◌≤◌, ℤ, ◌-ℤ◌, ◌<ℤ◌, length, take}
use Rattle.frac128.specs.Rational.{int, ◌<ℚ◌}
use Rattle.frac128.specs.Range.{IsNarrow}
use Rattle.lp_model.specs.Program.{Program, Point, value, IsFeasible, IsOptimum}
use Rattle.frontier.specs.declared.outcomes.Outcome.{Outcome}
use Rattle.frontier.specs.Covers.{IsAhead}
use Rattle.frontier.specs.Laws.{HasEmptyGap}
use Rattle.inner_models.specs.Inner.{pull_model}
use Rattle.front_sweeps.specs.Steps.{IsNondominatedOutcome, gap_between, width_between}
use Rattle.gap_models.specs.Gaps.{FitsGap}
use Rattle.gap_models.specs.declared.gaps.GapPlace.{GapPlace}
use Rattle.gap_models.specs.declared.gaps.GapPlace.TheVariants as gap
use Rattle.front_text.specs.declared.front.TreeOf.TheVariants.{Gap}
use Rattle.front_text.specs.declared.front.FrontTree.{FrontTree}
use Rattle.front_text.specs.Whole.{IsWholeTree}
use Rattle.front_check.specs.Accepted.{gap_part}
use Rattle.front_check.specs.Passing.{IsPassingTree}
use Rattle.wcn_driver.specs.declared.answers.ScalePlace.{ScalePlace}
use Rattle.wcn_driver.specs.declared.answers.ScalePlace.TheVariants as place
use Rattle.wcn_driver.specs.declared.task.Task.{Task}
use Rattle.wcn_driver.specs.declared.settling.Halt.{Halt}
use Rattle.wcn_driver.specs.declared.settling.Halt.TheVariants as halt
use Rattle.wcn_driver.specs.declared.ends.PartFound.{PartFound}
use Rattle.wcn_driver.specs.declared.gaps.GapAt.{GapAt}
use Rattle.wcn_driver.specs.declared.gaps.GapEnd.{GapEnd}
use Rattle.wcn_driver.specs.declared.gaps.GapEnd.TheVariants.{Empty, Holds}
use Rattle.wcn_driver.specs.Answers.{HasNarrowOutcome}
use Rattle.wcn_driver.specs.private.Ends.{IsFoundAtPoint}

abbrev pub IsPlaceOfGap : GapPlace → ScalePlace → Type 0
IsPlaceOfGap gap.Width at = at ≡ place.Width
IsPlaceOfGap (gap.Col col) at = at ≡ place.Col col
IsPlaceOfGap gap.Side at = at ≡ place.Side

-- its outcomes are neighbours that no other dominates, above the least values, and all its numbers have room
pub record IsGapToLookInto (N : Program) (g : GapAt) : Type 0 where
  pub before : IsNondominatedOutcome N g.p
  pub behind : IsNondominatedOutcome N g.q
  pub ahead : IsAhead g.p g.q
  pub beyond : g.least1 <ℤ g.q.f1
  pub above : g.least2 <ℤ g.p.f2
  pub narrow_p : IsNarrow g.p.f2
  pub narrow_q : IsNarrow g.q.f1
  pub narrow1 : IsNarrow g.least1
  pub narrow2 : IsNarrow g.least2

pub record IsEmptyGap (N : Program) (g : GapAt) (tree : FrontTree) : Type 0 where
  pub empty : HasEmptyGap N g.p g.q
  pub named : tree.of ≡ Gap g.number
  pub fits : FitsGap N (g.p.f2 -ℤ g.least2) (g.q.f1 -ℤ g.least1) g.least1 g.least2
  pub passes : IsPassingTree (gap_part N g.least1 g.least2 g.p g.q) tree
  pub whole : IsWholeTree tree

-- a point of the gap's model with Z below the width has the outcome
pub record IsHeldInGap (N : Program) (c d : ℤ) (g : GapAt) (o : Outcome) : Type 0 where
  pub point : Point
  pub feasible : IsFeasible (gap_between N g.least1 g.least2 g.p g.q) point
  pub below : value (gap_between N g.least1 g.least2 g.p g.q) 1 point <ℚ int (width_between g.least1 g.least2 g.p g.q)
  pub has : HasNarrowOutcome N c d (take (length N.cols) point) o

abbrev pub IsGapEnd : Task → GapAt → GapEnd → Type 0
IsGapEnd task g (Empty tree results) = IsEmptyGap task.base g tree × (results ≤ task.nodes)
IsGapEnd task g (Holds outcome results) = IsHeldInGap task.base task.constant1 task.constant2 g outcome × (results ≤ task.nodes)

-- the best point among those that are no worse has the outcome that is found
pub record IsPulled (task : Task) (r : Outcome) (e : PartFound) : Type 0 where
  pub point : Point
  pub optimum : IsOptimum (pull_model task.base r.f1 r.f2) point
  pub found : IsFoundAtPoint task.base task.constant1 task.constant2 point e.found
  pub within : e.results ≤ task.nodes

-- a number of the part has no room, at a place of which this is so; or there is no memory
abbrev pub IsWideHalt : (ScalePlace → Type 0) → Halt → Type 0
IsWideHalt holds (halt.Stopped why results bound best) = ⊥
IsWideHalt holds (halt.Wide at) = holds at
IsWideHalt holds halt.Memory = Unit {0}
