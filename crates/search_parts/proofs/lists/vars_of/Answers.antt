use Rattle.std.proofs.Common.{◌∙◌, ap}
use Rattle.std.specs.Prelude.{map}
use Rattle.std.proofs.lemmas.List.{take_all}
use Rattle.frac128.specs.Rational.{ℚ}
use Rattle.lp_model.specs.declared.types.Var.{Var}
use Rattle.search_parts.proofs.lists.vars_of.Goals as goal

pub returns : goal.returns
returns c = c.loop-var.invariant ∙ ap (map (λ (m : Var × ℚ). m.0)) (take_all c.loop-var.var-index c.args.mult.now c.loop-var-test.false)
