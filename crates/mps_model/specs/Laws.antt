-- What holds of every model that a text means.
use Rattle.std.specs.Prelude.{ℕ, ◌<◌, ◌^◌, List, Option, IfSome}
use Rattle.lp_model.specs.Program.{Program}
use Rattle.word_names.specs.ScriptModels.{IsScriptModel}
use Rattle.mps_model.specs.Faults.{MeantModel}

-- a text means a model that scripts may have, where the upper bound that is handed in, if one is, is below 10^20
abbrev pub ScriptModelLaw : Type 0
ScriptModelLaw = (text : List ℕ) (intupper : Option ℕ) (M : Program) → IfSome intupper (λ n. n < 10 ^ 20) → MeantModel text intupper M → IsScriptModel M
