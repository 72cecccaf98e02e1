use Rattle.std.proofs.Common.{◌<◌, List, length, sym, subst, ◌∙◌}
use Rattle.std.specs.Prelude.{All}
use Rattle.frac128.specs.Rational.{ℚ}
use Rattle.lp_model.specs.declared.types.RowId.{RowId}
use Rattle.lp_model.specs.declared.types.Row.{Row}
use Rattle.dual_bounds.proofs.new_numbers.rows_with.Goals as goal

pub set_sides-requires : goal.set_sides-requires
set_sides-requires c = subst (λ (items : List Row). All (λ (e : RowId × ℚ). e.0.0 < length items) c.args.sides.now) (sym (c.as_mut_slice.ensures.value ∙ c.into_vec-items.ensures)) c.requires
