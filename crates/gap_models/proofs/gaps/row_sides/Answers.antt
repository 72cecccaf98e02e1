use Rattle.std.proofs.Common.{◌≡◌, ◌∙◌, sym, ap, subst}
use Rattle.frac128.specs.Rational.{int, ◌*ℚ◌}
use Rattle.frac128.specs.Range.{Fits}
use Rattle.frac128.proofs.ReadLemmas.{narrow_read}
use Rattle.gap_models.proofs.gaps.row_sides.Goals as goal

pub returns-in_default : goal.returns-in_default
returns-in_default c = λ has.
    let w = c.args.weights.now in
    let first : c.of_whole.result ≡ int c.args.i1 = c.of_whole.ensures ∙ ap int (narrow_read c.args.i1 c.requires.i1) in
    c.in_default.ensures (subst (λ t. Fits (w.a *ℚ t)) (sym first) has.first)

pub returns-in-Ok-mul : goal.returns-in-Ok-mul
returns-in-Ok-mul c =
    let w = c.args.weights.now in
    let first : c.of_whole.result ≡ int c.args.i1 = c.of_whole.ensures ∙ ap int (narrow_read c.args.i1 c.requires.i1) in
    let second : c.of_whole-2.result ≡ int c.args.i2 = c.of_whole-2.ensures ∙ ap int (narrow_read c.args.i2 c.requires.i2) in (
      record { first = subst (λ t. Fits (w.a *ℚ t)) first c.in-Ok.ensures.0; second = subst (λ t. Fits (w.b *ℚ t)) second c.in-Ok-mul.ensures.0 },
      record { first = c.in-Ok.ensures.1 ∙ ap (λ t. w.a *ℚ t) first; second = c.in-Ok-mul.ensures.1 ∙ ap (λ t. w.b *ℚ t) second },
    )

pub returns-in-Err : goal.returns-in-Err
returns-in-Err c = λ has.
    let w = c.args.weights.now in
    let second : c.of_whole-2.result ≡ int c.args.i2 = c.of_whole-2.ensures ∙ ap int (narrow_read c.args.i2 c.requires.i2) in
    c.in-Err.ensures (subst (λ t. Fits (w.b *ℚ t)) (sym second) has.second)
