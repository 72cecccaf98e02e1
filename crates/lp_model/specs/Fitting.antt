-- The numbers of a model have room, as each `Frac` has.
use Rattle.std.specs.Prelude.{All}
use Rattle.std.specs.Option.{ForSome}
use Rattle.frac128.specs.Range.{Fits}
use Rattle.lp_model.specs.Program.{Program}
use Rattle.lp_model.specs.declared.types.Row.{Row}
use Rattle.lp_model.specs.declared.types.Col.{Col}

pub record SidesFit (r : Row) : Type 0 where
  pub lo : ForSome r.lo Fits
  pub hi : ForSome r.hi Fits

pub record ColumnNumbersFit (c : Col) : Type 0 where
  pub lo : ForSome c.lo Fits
  pub up : ForSome c.up Fits
  pub cost : Fits c.cost
  pub cost2 : Fits c.cost2
  pub entries : All (λ e. Fits e.1) c.rows

pub record ModelFits (M : Program) : Type 0 where
  pub constants : All Fits M.consts
  pub rows : All SidesFit M.rows
  pub columns : All ColumnNumbersFit M.cols
