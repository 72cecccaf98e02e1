use Rattle.std.proofs.Common.{◌≡◌, true, false, ap, sym, ◌∙◌}
use Rattle.std.specs.Prelude.{if◌then◌else◌}
use Rattle.frac128.specs.Rational.{◌+ℚ◌}
use Rattle.mps_fields.specs.Numbers.{is_negative}
use Rattle.mps_model.proofs.ranges.equal_ends.Goals as goal

pub returns-then-is_negative : goal.returns-then-is_negative
returns-then-is_negative c =
    let x = c.args.number.now in
    let r = c.args.range.now in
    let h = c.in-Some.ensures in
    let turned : is_negative r ≡ true = sym c.is_negative.ensures ∙ c.if-is_negative.true in
    (h.0, h.1 ∙ ap (λ b. if b then x +ℚ r else x) (sym turned), ap (λ b. if b then x else x +ℚ r) (sym turned))

pub returns-else-is_negative : goal.returns-else-is_negative
returns-else-is_negative c =
    let x = c.args.number.now in
    let r = c.args.range.now in
    let h = c.in-Some.ensures in
    let straight : is_negative r ≡ false = sym c.is_negative.ensures ∙ c.if-is_negative.false in
    (h.0, ap (λ b. if b then x +ℚ r else x) (sym straight), h.1 ∙ ap (λ b. if b then x else x +ℚ r) (sym straight))
