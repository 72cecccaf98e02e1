-- The mark by which a variable of a list is told from others. Nothing rests on it but speed.
use Rattle.std.specs.Prelude.{ℕ, ◌%◌}
use Rattle.lp_model.specs.declared.types.Var.{Var}
use Rattle.lp_model.specs.Keys.{variable_key}

abbrev pub mark_index : Var → ℕ
mark_index v = variable_key v % 4096
