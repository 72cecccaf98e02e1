-- A number for each variable, another one for each.
use Rattle.std.specs.Prelude.{ℕ, ◌+◌, ◌*◌}
use Rattle.lp_model.specs.declared.types.Var.{Var}
use Rattle.lp_model.specs.declared.types.Var.TheVariants.{Col, Row, Cut}

abbrev pub variable_key : Var → ℕ
variable_key (Col col) = 3 * col.0
variable_key (Row row) = 3 * row.0 + 1
variable_key (Cut cut) = 3 * cut.0 + 2
