use Rattle.std.specs.Prelude.{Bool, Decides}
use Rattle.std.proofs.Common.{◌∙◌, sym, subst}
use Rattle.std.proofs.lemmas.Bool.Decides.{same_from_decides}
use Rattle.frac128.specs.Rational.{◌≤ℚ◌}
use Rattle.frac128.proofs.Comparison.{is_le-decides, rational_le-decides}
use Rattle.frac128.proofs.frac.Frac.is_at_most.Goals as goal

pub returns-clause-test : goal.returns-clause-test
returns-clause-test c =
    let x = c.args.self.now in
    let y = c.args.other.now in
    c.le.ensures ∙ same_from_decides _ _ (is_le-decides x y) (rational_le-decides x y)

pub returns-clause-decides : goal.returns-clause-decides
returns-clause-decides c =
    let x = c.args.self.now in
    let y = c.args.other.now in
    subst (λ (b : Bool). Decides b (x ≤ℚ y)) (sym c.le.ensures) (is_le-decides x y)
