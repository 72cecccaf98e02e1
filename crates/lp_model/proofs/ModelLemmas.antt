-- Models by their parts.
use Rattle.std.specs.Prelude.{◌≡◌, ℕ, List}
use Rattle.lp_model.specs.Program.{Program}
use Rattle.lp_model.specs.declared.types.Row.{Row}
use Rattle.lp_model.specs.declared.types.Col.{Col}

-- a model of the same parts
pub same_model : (M : Program) (obj obj2 : List ℕ) (rows : List Row) (cols : List Col) → obj ≡ M.obj → obj2 ≡ M.obj2 → rows ≡ M.rows → cols ≡ M.cols → record M { obj = obj; obj2 = obj2; rows = rows; cols = cols } ≡ M
same_model M obj obj2 rows cols e f g h = (λ i. record M { obj = e i; obj2 = f i; rows = g i; cols = h i })
