use Rattle.std.proofs.Common.{sym, ap, ◌∙◌}
use Rattle.lp_model.proofs.ChangedLaws.{changed_at-set}
use Rattle.dual_bounds.specs.NewNumbers.{with_cost}
use Rattle.dual_bounds.proofs.new_numbers.set_cost_at.Goals as goal

pub returns : goal.returns
returns c = changed_at-set (with_cost c.args.number.now) c.args.cols.now c.args.place c.index-cols-place.result c.set_cost.new.col c.requires c.index-cols-place.is (c.set_cost.ensures ∙ ap (with_cost c.args.number.now) (sym c.index-cols-place.is))
