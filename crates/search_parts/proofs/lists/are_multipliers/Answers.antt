use Rattle.std.proofs.Common.{◌≡◌, ◌↔◌, ◌∙◌, List, IsTrue, ap, subst}
use Rattle.std.specs.Prelude.{map}
use Rattle.frac128.specs.Rational.{ℚ}
use Rattle.lp_model.specs.Formulations.{formulation}
use Rattle.lp_model.specs.declared.types.Var.{Var}
use Rattle.search_parts.specs.Lists.{IsActivityThere, NamesOnce}
use Rattle.search_parts.proofs.lists.are_multipliers.Goals as goal

pub returns : goal.returns
returns c =
    let names : c.as_slice-2.result.now ≡ map (λ (m : Var × ℚ). m.0) c.args.mult.now = c.as_slice-2.ensures ∙ c.in-Ok.ensures ∙ ap (map (λ (m : Var × ℚ). m.0)) c.as_slice.ensures in
    subst (λ (vs : List Var). IsTrue c.are_rows_once.result ↔ NamesOnce (IsActivityThere (formulation c.args.model.now c.args.pool.now)) vs) names c.are_rows_once.ensures
