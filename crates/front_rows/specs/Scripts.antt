-- The stops that a script has.
--     TellsStop e k n answer          a solve that ends so after k results, of n that may be placed, stops so
--     IsScriptedStop steps n answer   some solve of the script does
use Rattle.std.specs.Prelude.{◌≡◌, ℕ, ◌≤◌, List, ◌∷◌, ◌++◌}
use Rattle.search_answers.specs.declared.answers.Answer.{Answer}
use Rattle.search_answers.specs.declared.answers.Answer.TheVariants as solve
use Rattle.front_rows.specs.declared.scripted.Ending.{Ending}
use Rattle.front_rows.specs.declared.scripted.Ending.TheVariants.{Finished, Stopped}
use Rattle.front_rows.specs.declared.scripted.Step.{Step}

abbrev pub TellsStop : Ending → ℕ → ℕ → Answer → Type 0
TellsStop Finished results n answer = ⊥
TellsStop (Stopped why bound best) results n answer = (answer ≡ solve.Stopped why results bound best) × (results ≤ n)

pub record IsScriptedStop (steps : List Step) (n : ℕ) (answer : Answer) : Type 0 where
  pub before : List Step
  pub step : Step
  pub behind : List Step
  pub parts : steps ≡ before ++ step ∷ behind
  pub stops : TellsStop step.ending step.results n answer
