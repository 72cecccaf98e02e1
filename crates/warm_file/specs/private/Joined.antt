-- Parts that are read one behind the other.
use Rattle.std.specs.Prelude.{ℕ, List, [], ◌∷◌, length, codes, Result, Ok}
use Rattle.lp_model.specs.Program.{Program}
use Rattle.lp_model.specs.declared.types.Sense.{Sense}
use Rattle.lp_model.specs.declared.types.Row.{Row}
use Rattle.lp_model.specs.declared.types.Col.{Col}
use Rattle.search_data.specs.declared.data.SearchData.{SearchData}
use Rattle.serde_json.specs.Data.{Data}
use Rattle.warm_file.specs.Faults.{Fault, behind}
use Rattle.warm_file.specs.Values.{member}
use Rattle.warm_file.specs.Models.{name_of, rows_of, cols_of, program_of}
use Rattle.warm_file.specs.Searches.{cuts_of, tree_of}

-- both values, or the first fault
abbrev pub both_of : {A B : Type 0} → Result A Fault → Result B Fault → Result (A × B) Fault
both_of first second = behind first (λ a. behind second (λ b. Ok (a, b)))

-- the rows and the columns of a model whose objectives have these names
unfoldable pub rows_and_cols_of : List ℕ → List ℕ → Data → Result (List Row × List Col) Fault
rows_and_cols_of obj obj2 d = behind (member (codes "rows") (rows_of obj obj2) d) (λ rows. both_of (Ok rows) (member (codes "cols") (cols_of (length rows)) d))

-- the name of the second objective, and what stands behind the names
abbrev pub behind_name : Sense → List ℕ → Data → Result Program Fault
behind_name sense obj d = behind (member (codes "obj2") (name_of (obj ∷ [])) d) (λ obj2. program_of sense obj obj2 d)

-- the cuts behind the model, and what stands behind them
abbrev pub behind_model : ℕ → Program → Data → Result SearchData Fault
behind_model version M d = behind (member (codes "cuts") (cuts_of (length M.rows) (length M.cols)) d) (λ cuts. tree_of version M cuts d)
