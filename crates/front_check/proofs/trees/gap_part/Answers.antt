use Rattle.std.specs.Prelude.{◌-ℤ◌}
use Rattle.std.proofs.Common.{refl, subst}
use Rattle.frac128.proofs.ReadLemmas.{narrow_read}
use Rattle.gap_models.specs.Gaps.{IsGapOf, IsFirstGapPlace}
use Rattle.front_check.proofs.PartSteps.{first_narrow, last_narrow, narrow_before, narrow_here, narrow_kept, fits_here, gap_is}
use Rattle.front_check.proofs.TreeSteps.{lacks_room}
use Rattle.front_check.proofs.trees.gap_part.Goals as goal

pub between-requires-clause-p : goal.between-requires-clause-p
between-requires-clause-p c =
    let b = c.args.outcomes.now in
    (narrow_before b.first b.rest.items c.args.place c.before_gap-before.result c.requires.roomy.narrow c.requires.place c.before_gap-before.ensures).second

pub between-requires-clause-q : goal.between-requires-clause-q
between-requires-clause-q c =
    let b = c.args.outcomes.now in
    (narrow_here b.first b.rest.items c.args.place c.index.result.now c.requires.roomy.narrow c.requires.place c.index.ensures).first

pub between-requires-clause-i2 : goal.between-requires-clause-i2
between-requires-clause-i2 c = narrow_kept c.args.outcomes.now.last.f2 (last_narrow c.args.outcomes.now c.requires.roomy).second

pub unreachable-requires : goal.unreachable-requires
unreachable-requires c =
    let N = c.args.bare.now in
    let b = c.args.outcomes.now in
    let p = c.before_gap-before.result in
    let q = c.index.result.now in
    let i1 = narrow_read b.first.f1 (first_narrow b c.requires.roomy).first in
    let i2 = narrow_read b.last.f2 (last_narrow b c.requires.roomy).second in
    let wide = subst (λ P. P) (λ t. IsFirstGapPlace N (p.f2 -ℤ i2 t) (q.f1 -ℤ i1 t) (i1 t) (i2 t) c.in-Err.field-0) c.in-Err.ensures.wide in
    lacks_room N (p.f2 -ℤ b.last.f2) (q.f1 -ℤ b.first.f1) b.first.f1 b.last.f2 c.in-Err.field-0 wide
    (fits_here b c.requires.roomy N c.args.place p q c.requires.place (c.before_gap-before.ensures p) c.index.ensures c.requires.fits)

pub returns-in-Ok-gap_model : goal.returns-in-Ok-gap_model
returns-in-Ok-gap_model c = λ t.
    let N = c.args.bare.now in
    let b = c.args.outcomes.now in
    let p = c.before_gap-before.result in
    let q = c.index.result.now in
    let i1 = narrow_read b.first.f1 (first_narrow b c.requires.roomy).first in
    let i2 = narrow_read b.last.f2 (last_narrow b c.requires.roomy).second in
    let gap = subst (λ P. P) (λ t. IsGapOf (p.f2 -ℤ i2 t) (q.f1 -ℤ i1 t) (i1 t) (i2 t) c.in-Ok.gap) c.in-Ok.ensures.gap in
    let made = c.in-Ok-gap_model.ensures (p.f2 -ℤ b.last.f2) (q.f1 -ℤ b.first.f1) b.first.f1 b.last.f2 gap in
    gap_is N b.first.f1 b.last.f2 b.first b.rest.items c.args.place p q c.requires.place (c.before_gap-before.ensures b.first) c.index.ensures c.in-Ok.gap c.in-Ok-gap_model.model gap made t _ refl refl
