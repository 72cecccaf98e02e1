-- What contracts of private functions alone cite, beside specs/Rays.
use Rattle.std.specs.Prelude.{ℕ, Bool, true, false, length, Result, Ok, Err}
use Rattle.lp_model.specs.Program.{Program, Point}
use Rattle.lp_model.specs.declared.types.WideStep.{WideStep}
use Rattle.model_points.specs.Rays.{RowsAreKept, IsFirstPassed, IsFirstWideSum}

-- the first row that is passed, or step without room of a row's sum, decides
abbrev pub AreRowsJudged : Program → Point → Result Bool WideStep → Type 0
AreRowsJudged M d (Ok true) = RowsAreKept M d (length M.rows)
AreRowsJudged M d (Ok false) = (i : ℕ) × IsFirstPassed M d i
AreRowsJudged M d (Err step) = IsFirstWideSum M d step
