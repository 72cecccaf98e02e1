-- When looking for a front comes to its end.
use Rattle.std.specs.Prelude.{ℕ, ◌-◌, ◌≤◌, List}
use Rattle.lp_model.specs.Program.{Program, HasWholeObjective}
use Rattle.search_answers.specs.declared.answers.Answer.{Answer}
use Rattle.sound_searches.specs.Sound.{PlainSearch}
use Rattle.frontier.specs.declared.outcomes.Outcome.{Outcome}
use Rattle.inner_models.specs.Inner.{bare_model}
use Rattle.front_check.specs.Accepted.{whole_constant}
use Rattle.tree_search.specs.Enough.{IsEnough}
use Rattle.tree_search.specs.Solves.{Solved}
use Rattle.tree_search.specs.declared.limits.Limits.{Limits}
use Rattle.wcn_driver.specs.declared.answers.Part.{Part}
use Rattle.wcn_driver.specs.declared.answers.ScalePlace.{ScalePlace}
use Rattle.wcn_driver.specs.Parts.{part_model}
use Rattle.wcn_driver.specs.Answers.{StandsAtPart, IsFirstWideScale}
use Rattle.front_env.specs.FrontEnvs.{with_results}
use Rattle.front_search.specs.declared.answers.FrontAnswer.{FrontAnswer}
use Rattle.front_search.specs.declared.answers.FrontAnswer.TheVariants.{Complete, Infeasible, Stopped, NotWhole, WideScale, Memory}

-- the results that a stop counts
abbrev pub counted_results : FrontAnswer → ℕ
counted_results (Complete front) = 0
counted_results (Infeasible results) = results
counted_results (Stopped front part why results bound best) = results
counted_results (NotWhole which col) = 0
counted_results (WideScale front part place) = 0
counted_results Memory = 0

-- the front is whole, or there is no feasible point, or there is no memory
abbrev pub HasFrontEnded : FrontAnswer → Type 0
HasFrontEnded (Complete front) = Unit {0}
HasFrontEnded (Infeasible results) = Unit {0}
HasFrontEnded (Stopped front part why results bound best) = ⊥
HasFrontEnded (NotWhole which col) = ⊥
HasFrontEnded (WideScale front part place) = ⊥
HasFrontEnded Memory = Unit {0}

-- Both objectives are whole. Where a part is due, and whichever of at most these results were placed before it, the limits are enough for
-- each search of its inner model with the results that remain; and all its numbers have room.
pub record IsFrontEnough (l : Limits) (M : Program) (results : ℕ) : Type 0 where
  pub first_whole : HasWholeObjective M 1
  pub second_whole : HasWholeObjective M 2
  pub enough :
      (least : List Outcome) (part : Part) (at : StandsAtPart (bare_model M) (whole_constant M 1) (whole_constant M 2) least part) (before : ℕ) (answer : Answer) (search : PlainSearch)
      → before ≤ results → Solved (part_model (bare_model M) at.i1 at.i2 part) (with_results l (l.nodes - before)) answer search
      → IsEnough (part_model (bare_model M) at.i1 at.i2 part) search.cuts (with_results l (l.nodes - before))
  pub room :
      (least : List Outcome) (part : Part) (at : StandsAtPart (bare_model M) (whole_constant M 1) (whole_constant M 2) least part) (place : ScalePlace)
      → ¬ IsFirstWideScale (bare_model M) (whole_constant M 1) (whole_constant M 2) at.i1 at.i2 part place
