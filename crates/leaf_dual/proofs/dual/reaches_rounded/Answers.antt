use Rattle.std.proofs.Common.{◌≡◌, ◌∙◌, ap, sym, subst, to_z, of_z}
use Rattle.std.specs.Int.{w128}
use Rattle.std.proofs.lemmas.Bool.{false≢true}
use Rattle.frac128.specs.Rational.{int, ceil, ◌≤ℚ◌}
use Rattle.frac128.specs.Range.{IsNarrow}
use Rattle.frac128.proofs.ReadLemmas.{narrow_read}
use Rattle.leaf_dual.proofs.dual.reaches_rounded.Goals as goal

pub returns-then-not-is_whole : goal.returns-then-not-is_whole
returns-then-not-is_whole c = ((λ e. absurd (false≢true e)), (λ h. absurd (false≢true (sym c.if-not-is_whole.true ∙ c.is_whole.ensures.1 h.0))))

pub of_whole-requires : goal.of_whole-requires
of_whole-requires c = subst IsNarrow (sym (narrow_read c.ceil.result c.ceil.ensures.room)) c.ceil.ensures.room

pub returns : goal.returns
returns c =
    let target = c.args.target.now in
    let read : to_z w128 (of_z w128 c.ceil.result) ≡ c.ceil.result = narrow_read c.ceil.result c.ceil.ensures.room in
    let is : c.of_whole.result ≡ int (ceil c.args.number.now) = c.of_whole.ensures ∙ ap int (read ∙ c.ceil.ensures.value) in (
      (λ t. (c.is_whole.ensures.0 c.if-not-is_whole.false, subst (λ q. target ≤ℚ q) is (c.is_at_most.ensures.decides.0 t))),
      (λ h. c.is_at_most.ensures.decides.1 (subst (λ q. target ≤ℚ q) (sym is) h.1)),
    )
