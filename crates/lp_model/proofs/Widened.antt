-- A model that was widened is lawful: its limits are no lower.
use Rattle.std.specs.Prelude.{◌≤◌, Bool, true, false}
use Rattle.std.proofs.Common.{arith}
use Rattle.lp_model.specs.Program.{Program}
use Rattle.lp_model.specs.Limits.{row_limit, col_limit, entry_limit}
use Rattle.lp_model.specs.Lawful.{IsLawful}

pub more_rows : (wide : Bool) → row_limit wide ≤ row_limit true
more_rows true = omega arith
more_rows false = omega arith

pub more_columns : (wide : Bool) → col_limit wide ≤ col_limit true
more_columns true = omega arith
more_columns false = omega arith

pub more_entries : (wide : Bool) → entry_limit wide ≤ entry_limit true
more_entries true = omega arith
more_entries false = omega arith

pub widened-lawful : (M : Program) → IsLawful M → IsLawful (record M { wide = true })
widened-lawful M lawful = record {
  constants = lawful.constants;
  ranges = lawful.ranges;
  columns = lawful.columns;
  rows_distinct = lawful.rows_distinct;
  columns_distinct = lawful.columns_distinct;
  limits = record {
    few_rows = (let few = lawful.limits.few_rows in let more = more_rows M.wide in omega arith);
    few_columns = (let few = lawful.limits.few_columns in let more = more_columns M.wide in omega arith);
    few_entries = (let few = lawful.limits.few_entries in let more = more_entries M.wide in omega arith);
  };
}
