-- When a sweep comes to its end.
use Rattle.std.specs.Prelude.{ℕ, ◌-◌, ◌≤◌, ℤ, List}
use Rattle.lp_model.specs.Program.{Program, HasWholeObjective}
use Rattle.search_answers.specs.declared.answers.Answer.{Answer}
use Rattle.frontier.specs.declared.outcomes.Outcome.{Outcome}
use Rattle.front_solver.specs.Truth.{IsStop}
use Rattle.wcn_driver.specs.declared.answers.Part.{Part}
use Rattle.wcn_driver.specs.declared.answers.ScalePlace.{ScalePlace}
use Rattle.wcn_driver.specs.declared.answers.Mc.{Mc}
use Rattle.wcn_driver.specs.declared.answers.Mc.TheVariants.{Complete, Infeasible, Stopped, NotWhole, WideScale, Memory}
use Rattle.wcn_driver.specs.Parts.{part_model}
use Rattle.wcn_driver.specs.Answers.{StandsAtPart, IsFirstWideScale, IsMc}

-- the front is complete, or there is no feasible point, or there is no memory
abbrev pub HasSwept : Mc → Type 0
HasSwept (Complete front cert) = Unit {0}
HasSwept (Infeasible cert results) = Unit {0}
HasSwept (Stopped front part why results bound best) = ⊥
HasSwept (NotWhole which col) = ⊥
HasSwept (WideScale front part at) = ⊥
HasSwept Memory = Unit {0}

-- the results of all parts that an answer counts
abbrev pub results_of_parts : Mc → ℕ
results_of_parts (Complete front cert) = 0
results_of_parts (Infeasible cert results) = results
results_of_parts (Stopped front part why results bound best) = results
results_of_parts (NotWhole which col) = 0
results_of_parts (WideScale front part at) = 0
results_of_parts Memory = 0

-- Both objectives are whole. Where a part is due, and whichever of at most so many results were placed before it, the solver may not stop at
-- its model with the results that remain; and all its numbers have room.
pub record IsUnhindered (stops : Program → ℕ → Answer → Type 0) (N : Program) (nodes results : ℕ) (c d : ℤ) : Type 0 where
  pub first_whole : HasWholeObjective N 1
  pub second_whole : HasWholeObjective N 2
  pub unstopped :
      (front : List Outcome) (part : Part) (at : StandsAtPart N c d front part) (before : ℕ) (answer : Answer) → before ≤ results → IsStop answer
      → ¬ stops (part_model N at.i1 at.i2 part) (nodes - before) answer
  pub narrow : (front : List Outcome) (part : Part) (at : StandsAtPart N c d front part) (place : ScalePlace) → ¬ IsFirstWideScale N c d at.i1 at.i2 part place

-- what nothing hinders comes to its end
abbrev pub SweptToEndLaw : (Program → ℕ → Answer → Type 0) → Type 0
SweptToEndLaw stops = (N : Program) (nodes : ℕ) (c d : ℤ) (answer : Mc) → IsMc stops N nodes c d answer → IsUnhindered stops N nodes (results_of_parts answer) c d → HasSwept answer
