use Rattle.std.specs.Prelude.{length, map, nat_eq, if◌then◌else◌}
use Rattle.std.proofs.Common.{◌∙◌, ap}
use Rattle.std.proofs.lemmas.List.{length-map}
use Rattle.frac128.specs.Rational.{ℚ}
use Rattle.lp_model.specs.declared.types.Col.{Col}
use Rattle.front_parts.proofs.parts.put_objective.Goals as goal

pub set_objective-requires-clause-all : goal.set_objective-requires-clause-all
set_objective-requires-clause-all g c =
    let f : Col → ℚ = λ d. if nat_eq c.args.which 2 then d.cost2 else d.cost in
    ap length (c.deref.ensures.value ∙ c.in-Ok.ensures ∙ ap (map f) c.cols.ensures.items) ∙ length-map c.args.base.now.cols f

pub returns-clause-edited : goal.returns-clause-edited
returns-clause-edited g c = c.set_objective.ensures.edited (λ d. if nat_eq c.args.which 2 then d.cost2 else d.cost) (c.deref.ensures.value ∙ c.in-Ok.ensures ∙ ap (map (λ (d : Col). if nat_eq c.args.which 2 then d.cost2 else d.cost)) c.cols.ensures.items)
