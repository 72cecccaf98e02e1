use Rattle.std.specs.Prelude.{Option}
use Rattle.std.proofs.Common.{sym, subst}
use Rattle.frac128.specs.Rational.{ℚ}
use Rattle.model_points.specs.Bounds.{IsFoundValue}
use Rattle.front_rows.proofs.Shown.{shown_best}
use Rattle.front_rows.proofs.scripted.shows_best.Goals as goal

pub returns-in-Optimal : goal.returns-in-Optimal
returns-in-Optimal c =
    λ same. subst (λ (b : Option ℚ). IsFoundValue c.args.model.now b) (sym c.in-Some.is)
    (shown_best c.args.model.now c.args.cert.now c.in-Optimal.value c.in-Some.best c.in-Optimal.is c.requires (c.is_equal.ensures same))
