use Rattle.std.specs.Prelude.{◌-ℤ◌, pos, get_or}
use Rattle.std.proofs.Common.{◌<◌, length, ap, subst, arith}
use Rattle.frac128.proofs.ReadLemmas.{narrow_read}
use Rattle.gap_models.specs.Gaps.{FitsGap, IsFirstGapPlace}
use Rattle.frontier.specs.declared.outcomes.Outcome.{Outcome}
use Rattle.front_check.proofs.PartSteps.{first_narrow, last_narrow, narrow_item, item_is, narrow_kept}
use Rattle.front_check.proofs.TreeSteps.{lacks_room, fit-more, fit-not}
use Rattle.front_check.proofs.trees.fit_gaps.Goals as goal

pub between-requires-clause-q : goal.between-requires-clause-q
between-requires-clause-q c =
    (narrow_item c.args.outcomes.now.first c.args.outcomes.now.rest.items c.as_slice-outcome-items.result.now c.requires.narrow c.as_slice-outcome-items.ensures.value c.loop-outcome.outcome-index c.loop-outcome-test.true _).first

pub between-requires-clause-i2 : goal.between-requires-clause-i2
between-requires-clause-i2 c = narrow_kept c.args.outcomes.now.last.f2 (last_narrow c.args.outcomes.now c.requires).second

pub returns-in-Err : goal.returns-in-Err
returns-in-Err c =
    let N = c.args.bare.now in
    let b = c.args.outcomes.now in
    let k = c.loop-outcome.outcome-index in
    let p = c.loop-outcome.before in
    let none : Outcome = record { f1 = pos 0; f2 = pos 0 } in
    let q : Outcome = get_or c.as_slice-outcome-items.result.now k none in
    let i1 = narrow_read b.first.f1 (first_narrow b c.requires).first in
    let i2 = narrow_read b.last.f2 (last_narrow b c.requires).second in
    let same = c.as_slice-outcome-items.ensures.value in
    let below : k < length b.rest.items = let e = ap length same in let t = c.loop-outcome-test.true in omega (arith, e, t) in
    let is = item_is b.rest.items c.as_slice-outcome-items.result.now same k c.loop-outcome-test.true none in
    let wide = subst (λ P. P) (λ t. IsFirstGapPlace N (p.f2 -ℤ i2 t) (q.f1 -ℤ i1 t) (i1 t) (i2 t) c.in-Err.field-0) c.in-Err.ensures.wide in
    let lacks = lacks_room N (p.f2 -ℤ b.last.f2) (q.f1 -ℤ b.first.f1) b.first.f1 b.last.f2 c.in-Err.field-0 wide in
    let stops = fit-not N b.first.f1 b.last.f2 b.first b.rest.items k p q below is lacks c.loop-outcome.invariant.fit in
    ((λ e. absurd cc), (λ fits. absurd (stops fits)))

pub loop-outcome-preserved : goal.loop-outcome-preserved
loop-outcome-preserved c =
    let N = c.args.bare.now in
    let b = c.args.outcomes.now in
    let k = c.loop-outcome.outcome-index in
    let p = c.loop-outcome.before in
    let none : Outcome = record { f1 = pos 0; f2 = pos 0 } in
    let q : Outcome = get_or c.as_slice-outcome-items.result.now k none in
    let i1 = narrow_read b.first.f1 (first_narrow b c.requires).first in
    let i2 = narrow_read b.last.f2 (last_narrow b c.requires).second in
    let same = c.as_slice-outcome-items.ensures.value in
    let below : k < length b.rest.items = let e = ap length same in let t = c.loop-outcome-test.true in omega (arith, e, t) in
    let is = item_is b.rest.items c.as_slice-outcome-items.result.now same k c.loop-outcome-test.true none in
    let fits = subst (λ P. P) (λ t. FitsGap N (p.f2 -ℤ i2 t) (q.f1 -ℤ i1 t) (i1 t) (i2 t)) c.in-Ok.ensures.fits in
    record {
      fit = fit-more N b.first.f1 b.last.f2 b.first b.rest.items k p q below is fits c.loop-outcome.invariant.fit;
      narrow = (narrow_item b.first b.rest.items c.as_slice-outcome-items.result.now c.requires.narrow same k c.loop-outcome-test.true none).second;
    }
