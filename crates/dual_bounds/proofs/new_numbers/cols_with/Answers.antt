use Rattle.std.proofs.Common.{◌<◌, List, length, sym, subst, ◌∙◌}
use Rattle.std.specs.Prelude.{All}
use Rattle.frac128.specs.Rational.{ℚ}
use Rattle.lp_model.specs.declared.types.ColId.{ColId}
use Rattle.lp_model.specs.declared.types.Col.{Col}
use Rattle.dual_bounds.proofs.new_numbers.cols_with.Goals as goal

pub set_costs-requires : goal.set_costs-requires
set_costs-requires c = subst (λ (items : List Col). All (λ (e : ColId × ℚ). e.0.0 < length items) c.args.costs.now) (sym (c.as_mut_slice.ensures.value ∙ c.into_vec-items.ensures)) c.requires
