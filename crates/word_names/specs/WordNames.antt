-- Models whose names are words of a line.
use Rattle.std.specs.List.{All}
use Rattle.text_lines.specs.Words.{IsWord}
use Rattle.lp_model.specs.Program.{Program}

-- each name of a column or a row of the model is a word
pub record HasWordNames (M : Program) : Type 0 where
  pub columns : All (λ c. IsWord c.name) M.cols
  pub rows : All (λ r. IsWord r.name) M.rows
