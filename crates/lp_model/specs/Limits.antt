-- How large a model, its names and a search of it may be.
--     row_limit, col_limit, entry_limit     rows, columns and coefficients of a model: more in one that was widened
--     name_limit                            bytes of a name
--     pool_limit, point_limit, node_limit   cuts of a search, points that it keeps, and nodes of its tree
use Rattle.std.specs.Prelude.{ℕ, Bool, if◌then◌else◌}

abbrev pub row_limit : Bool → ℕ
row_limit wide = if wide then 1002 else 1000

abbrev pub col_limit : Bool → ℕ
col_limit wide = if wide then 4001 else 4000

abbrev pub entry_limit : Bool → ℕ
entry_limit wide = if wide then 58002 else 50000

abbrev pub name_limit : ℕ
name_limit = 255

abbrev pub pool_limit : ℕ
pool_limit = 10000

abbrev pub point_limit : ℕ
point_limit = 100

abbrev pub node_limit : ℕ
node_limit = 1000000
