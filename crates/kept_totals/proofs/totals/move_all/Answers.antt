use Rattle.std.proofs.Common.{◌∙◌, ◌<◌, refl, sym, ap, arith, length, pos, below_more}
use Rattle.std.proofs.lemmas.List.{get_or-set_same, get_or-set_other, get_or_read_under}
use Rattle.frac128.specs.Rational.{ℚ, int, ◌+ℚ◌, ◌*ℚ◌}
use Rattle.kept_totals.proofs.ShortLemmas.{moved_list}
use Rattle.kept_totals.proofs.totals.move_all.Goals as goal

pub loop-place-preserved : goal.loop-place-preserved
loop-place-preserved c =
    let kept = c.loop-place.kept in
    let at = c.loop-place.place in
    let next = c.in-Ok.next in
    let within : at < length kept = let below = c.loop-place-test.true in let size = c.loop-place.auto.kept in omega (arith, below, size) in
    record {
      moved = below_more _ _ (λ k h. get_or-set_other kept at k next (int (pos 0)) (λ e. omega (arith, e, h)) ∙ c.loop-place.invariant.moved k h)
          (get_or-set_same kept at next (int (pos 0)) within ∙ c.in-Ok.ensures.1 ∙ ap (λ (t : ℚ). t +ℚ c.args.term.now.factor *ℚ c.args.term.now.number) (sym c.index-kept-place.is ∙ get_or_read_under kept at (length kept) c.index-kept-place.result (int (pos 0)) c.index-kept-place.is within refl ∙ c.loop-place.invariant.left at (omega arith)));
      left = λ k past. get_or-set_other kept at k next (int (pos 0)) (λ e. omega (arith, e, past)) ∙ c.loop-place.invariant.left k (omega (arith, past));
    }

pub returns : goal.returns
returns c = λ t.
    let size = c.loop-place.auto.kept in
    let past = c.loop-place-test.false in
    moved_list c.args.kept.now c.loop-place.kept (c.args.term.now.factor *ℚ c.args.term.now.number) (omega (arith, size)) (λ k below. c.loop-place.invariant.moved k (omega (arith, below, past, size)))
