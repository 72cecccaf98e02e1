use Rattle.std.specs.Prelude.{Bool, Decides}
use Rattle.std.proofs.Common.{sym, subst}
use Rattle.frac128.specs.Rational.{◌<ℚ◌}
use Rattle.frac128.proofs.Comparison.{is_lt-decides}
use Rattle.frac128.proofs.frac.Frac.is_below.Goals as goal

pub returns : goal.returns
returns c =
    let x = c.args.self.now in
    let y = c.args.other.now in
    subst (λ (b : Bool). Decides b (x <ℚ y)) (sym c.lt.ensures) (is_lt-decides x y)
