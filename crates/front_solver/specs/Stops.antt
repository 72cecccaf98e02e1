-- What a solver may answer as a stop: of a model, with at most so many results, with its cause.
use Rattle.std.specs.Prelude.{ℕ}
use Rattle.lp_model.specs.Program.{Program}
use Rattle.search_answers.specs.declared.answers.Answer.{Answer}

-- each stop that may be answered now could be answered before
abbrev pub AddsNoStop : (Program → ℕ → Answer → Type 0) → (Program → ℕ → Answer → Type 0) → Type 0
AddsNoStop new old = (M : Program) (n : ℕ) (answer : Answer) → new M n answer → old M n answer
