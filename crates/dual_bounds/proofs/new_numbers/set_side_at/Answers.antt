use Rattle.std.proofs.Common.{sym, ap, ◌∙◌}
use Rattle.lp_model.proofs.ChangedLaws.{changed_at-set}
use Rattle.dual_bounds.specs.NewNumbers.{with_side}
use Rattle.dual_bounds.proofs.new_numbers.set_side_at.Goals as goal

pub returns : goal.returns
returns c = changed_at-set (with_side c.args.number.now) c.args.rows.now c.args.place c.index-rows-place.result c.set_side.new.row c.requires c.index-rows-place.is (c.set_side.ensures ∙ ap (with_side c.args.number.now) (sym c.index-rows-place.is))
