-- The names that a new one has to differ from.
use Rattle.std.specs.Prelude.{ℕ, List}
use Rattle.lp_model.specs.Program.{Program}
use Rattle.lp_model.specs.Lawful.{row_names, column_names}
use Rattle.gap_models.specs.declared.names.NameSpace.{NameSpace}
use Rattle.gap_models.specs.declared.names.NameSpace.TheVariants.{Columns, Rows}

abbrev pub names_of_space : NameSpace → Program → List (List ℕ)
names_of_space Columns M = column_names M
names_of_space Rows M = row_names M
