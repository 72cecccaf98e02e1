use Rattle.std.specs.Prelude.{Ok, Err}
use Rattle.std.proofs.Common.{refl, subst}
use Rattle.lp_model.specs.Program.{value}
use Rattle.model_points.specs.Answers.{IsValueAnswer}
use Rattle.tree_search.proofs.stepping.keep_point.Goals as goal

pub stop_by_value-requires-clause-value : goal.stop_by_value-requires-clause-value
stop_by_value-requires-clause-value c = subst (λ M. IsValueAnswer M 1 c.args.point (Err c.in-Err.step)) c.model.ensures c.in-Err.ensures

pub keep_found-stepped-requires-clause-value : goal.keep_found-stepped-requires-clause-value
keep_found-stepped-requires-clause-value c = subst (λ M. IsValueAnswer M 1 c.args.point (Ok (value M 1 c.args.point))) c.model.ensures (c.in-Ok.ensures.0, refl)

pub stop_by_value-requires-clause-works : goal.stop_by_value-requires-clause-works
stop_by_value-requires-clause-works c = c.requires.works

pub keep_found-stepped-requires-clause-works : goal.keep_found-stepped-requires-clause-works
keep_found-stepped-requires-clause-works c = c.requires.works

pub returns-in-Err-clause-steps : goal.returns-in-Err-clause-steps
returns-in-Err-clause-steps c = c.stop_by_value.ensures.steps

pub returns-in-Ok-clause-steps : goal.returns-in-Ok-clause-steps
returns-in-Ok-clause-steps c = c.keep_found-stepped.ensures.steps
