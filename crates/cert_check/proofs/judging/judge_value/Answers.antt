use Rattle.std.proofs.Common.{inr, refl, subst, Ok}
use Rattle.std.proofs.lemmas.Bool.{iff_false}
use Rattle.model_points.specs.Answers.{IsValueAnswer}
use Rattle.cert_check.proofs.judging.judge_value.Goals as goal

pub returns-in-Err : goal.returns-in-Err
returns-in-Err c = λ feasible. inr (feasible, c.in-Err.ensures)

pub returns-then-is_equal : goal.returns-then-is_equal
returns-then-is_equal c = λ feasible. (feasible, subst (λ w. IsValueAnswer c.args.model.now 1 c.args.point.now (Ok w)) (c.is_equal.ensures.0 c.if-is_equal.true) c.in-Ok.ensures)

pub returns-else-is_equal : goal.returns-else-is_equal
returns-else-is_equal c = λ feasible. inr (feasible, (c.in-Ok.value, (c.in-Ok.ensures, ((λ e. iff_false c.is_equal.ensures c.if-is_equal.false e), refl))))
