use Rattle.std.specs.Prelude.{Ok, Err}
use Rattle.std.proofs.Common.{List, subst}
use Rattle.lp_model.specs.Formulations.{formulation}
use Rattle.lp_model.specs.declared.types.CutRow.{CutRow}
use Rattle.leaf_dual.specs.Dual.{Multipliers}
use Rattle.leaf_dual.specs.Answers.{IsLagAnswer}
use Rattle.leaf_judging.proofs.entry.lag_number.Goals as goal

pub returns-in-Ok-clause-number : goal.returns-in-Ok-clause-number
returns-in-Ok-clause-number g c =
    subst (λ (ms : Multipliers). IsLagAnswer (formulation c.args.model.now c.args.pool.now) c.args.region.now ms (Ok c.in-Ok.value)) c.as_slice.ensures
    (subst (λ (cuts : List CutRow). IsLagAnswer (formulation c.args.model.now cuts) c.args.region.now c.as_slice.result.now (Ok c.in-Ok.value)) c.rows.ensures.rows c.in-Ok.ensures.answer)

pub returns-in-Err-clause-number : goal.returns-in-Err-clause-number
returns-in-Err-clause-number g c =
    subst (λ (ms : Multipliers). IsLagAnswer (formulation c.args.model.now c.args.pool.now) c.args.region.now ms (Err c.in-Err.step)) c.as_slice.ensures
    (subst (λ (cuts : List CutRow). IsLagAnswer (formulation c.args.model.now cuts) c.args.region.now c.as_slice.result.now (Err c.in-Err.step)) c.rows.ensures.rows c.in-Err.ensures.answer)
