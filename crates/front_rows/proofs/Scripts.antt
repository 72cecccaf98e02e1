-- A script of which the last solve was taken.
use Rattle.std.specs.Prelude.{◌≡◌, ℕ, List, [], ◌∷◌, ◌++◌}
use Rattle.std.proofs.Common.{ap, ◌∙◌, append_assoc}
use Rattle.search_answers.specs.declared.answers.Answer.{Answer}
use Rattle.front_rows.specs.declared.scripted.Step.{Step}
use Rattle.front_rows.specs.Scripts.{TellsStop, IsScriptedStop}

-- what is taken may be the stop
pub taken_stop : (old new : List Step) (step : Step) (n : ℕ) (answer : Answer) → old ≡ new ++ step ∷ [] → TellsStop step.ending step.results n answer → IsScriptedStop old n answer
taken_stop old new step n answer e stops = record { before = new; step = step; behind = []; parts = e; stops = stops }

-- and each stop that is left was there
pub left_stop : (old new : List Step) (step : Step) (n : ℕ) (answer : Answer) → old ≡ new ++ step ∷ [] → IsScriptedStop new n answer → IsScriptedStop old n answer
left_stop old new step n answer e h =
    record {
      before = h.before;
      step = h.step;
      behind = h.behind ++ step ∷ [];
      parts = e ∙ ap (λ (l : List Step). l ++ step ∷ []) h.parts ∙ append_assoc h.before (h.step ∷ h.behind) (step ∷ []);
      stops = h.stops;
    }
