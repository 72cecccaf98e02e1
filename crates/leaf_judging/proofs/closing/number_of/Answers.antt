use Rattle.std.specs.Prelude.{Ok, Err}
use Rattle.std.proofs.Common.{◌≡◌, IsTrue, false, ap, subst, length, List, arith}
use Rattle.lp_model.specs.Formulations.{formulation}
use Rattle.lp_model.specs.declared.types.CutRow.{CutRow}
use Rattle.leaf_dual.specs.Dual.{Multipliers}
use Rattle.leaf_dual.specs.Answers.{IsLagAnswer}
use Rattle.leaf_judging.proofs.closing.number_of.Goals as goal

pub path_lag-requires-clause-places : goal.path_lag-requires-clause-places
path_lag-requires-clause-places c = let same = ap length c.rows.ensures.rows in omega (arith, same, c.rows.ensures.few)

pub returns-in-Ok : goal.returns-in-Ok
returns-in-Ok c = (
  (λ h. let t : IsTrue c.is_set_aside.result = c.is_set_aside.ensures.1 h in let f : c.is_set_aside.result ≡ false = c.if-is_set_aside.false in cc),
  subst (λ (ms : Multipliers). IsLagAnswer (formulation c.args.model.now c.args.pool.now) c.args.path.now ms (Ok c.in-Ok.value)) c.as_slice.ensures
      (subst (λ (cuts : List CutRow). IsLagAnswer (formulation c.args.model.now cuts) c.args.path.now c.as_slice.result.now (Ok c.in-Ok.value)) c.rows.ensures.rows c.in-Ok.ensures),
)

pub returns-in-Err : goal.returns-in-Err
returns-in-Err c = (
  (λ h. let t : IsTrue c.is_set_aside.result = c.is_set_aside.ensures.1 h in let f : c.is_set_aside.result ≡ false = c.if-is_set_aside.false in cc),
  subst (λ (ms : Multipliers). IsLagAnswer (formulation c.args.model.now c.args.pool.now) c.args.path.now ms (Err c.in-Err.step)) c.as_slice.ensures
      (subst (λ (cuts : List CutRow). IsLagAnswer (formulation c.args.model.now cuts) c.args.path.now c.as_slice.result.now (Err c.in-Err.step)) c.rows.ensures.rows c.in-Err.ensures),
)
