use Rattle.std.specs.Prelude.{length, map, pos}
use Rattle.std.proofs.Common.{◌∙◌, ap}
use Rattle.std.proofs.lemmas.List.{length-map}
use Rattle.frac128.specs.Rational.{ℚ, int}
use Rattle.lp_model.specs.declared.types.Col.{Col}
use Rattle.front_parts.proofs.parts.put_zeros.Goals as goal

abbrev none : Col → ℚ
none c = int (pos 0)

pub set_objective-requires-clause-all : goal.set_objective-requires-clause-all
set_objective-requires-clause-all g c = ap length (c.deref.ensures.value ∙ c.in-Ok.ensures ∙ ap (map none) c.cols.ensures.items) ∙ length-map c.args.base.now.cols none

pub returns-clause-edited : goal.returns-clause-edited
returns-clause-edited g c = c.set_objective.ensures.edited none (c.deref.ensures.value ∙ c.in-Ok.ensures ∙ ap (map none) c.cols.ensures.items)
