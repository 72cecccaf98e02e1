use Rattle.std.specs.Prelude.{Option}
use Rattle.std.proofs.Common.{sym, subst}
use Rattle.frac128.specs.Rational.{ℚ}
use Rattle.model_points.specs.Bounds.{IsBound}
use Rattle.front_rows.proofs.Shown.{shown_bound}
use Rattle.front_rows.proofs.scripted.shows_bound.Goals as goal

pub returns-in-Optimal : goal.returns-in-Optimal
returns-in-Optimal c =
    λ within. subst (λ (b : Option ℚ). IsBound c.args.model.now b) (sym c.in-Some.is)
    (shown_bound c.args.model.now c.args.cert.now c.in-Optimal.value c.in-Some.bound c.in-Optimal.is c.requires (c.is_within.ensures within))
