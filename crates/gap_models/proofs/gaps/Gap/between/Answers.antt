use Rattle.std.proofs.Common.{◌-ℤ◌, subst}
use Rattle.frac128.proofs.ReadLemmas.{narrow_read}
use Rattle.gap_models.specs.Gaps.{HasWidth, HasSides}
use Rattle.gap_models.specs.private.Parts.{IsWeighed, AreSidesOf}
use Rattle.gap_models.proofs.GapNumbers.{narrow_again, gap_of, terms_of, wide_of, sides_back, fits_of}
use Rattle.gap_models.proofs.gaps.Gap.between.Goals as goal

pub weights_between-requires-clause-p2 : goal.weights_between-requires-clause-p2
weights_between-requires-clause-p2 c = narrow_again c.args.p.now.f2 c.requires.p

pub weights_between-requires-clause-q1 : goal.weights_between-requires-clause-q1
weights_between-requires-clause-q1 c = narrow_again c.args.q.now.f1 c.requires.q

pub weights_between-requires-clause-i1 : goal.weights_between-requires-clause-i1
weights_between-requires-clause-i1 c = narrow_again c.args.i1 c.requires.i1

pub weights_between-requires-clause-i2 : goal.weights_between-requires-clause-i2
weights_between-requires-clause-i2 c = narrow_again c.args.i2 c.requires.i2

pub returns-in_default-clause-gap : goal.returns-in_default-clause-gap
returns-in_default-clause-gap c = tt

pub returns-in_default-clause-fits : goal.returns-in_default-clause-fits
returns-in_default-clause-fits c = tt

pub returns-in_default-clause-wide : goal.returns-in_default-clause-wide
returns-in_default-clause-wide c =
    let p = narrow_read c.args.p.now.f2 c.requires.p in
    let q = narrow_read c.args.q.now.f1 c.requires.q in
    let i1 = narrow_read c.args.i1 c.requires.i1 in
    let i2 = narrow_read c.args.i2 c.requires.i2 in
    subst (λ P. P) (λ t. ¬ HasWidth (p t -ℤ i2 t) (q t -ℤ i1 t)) c.in_default.ensures

pub returns-in-Some-first_wide_column-clause-gap : goal.returns-in-Some-first_wide_column-clause-gap
returns-in-Some-first_wide_column-clause-gap c = tt

pub returns-in-Some-first_wide_column-clause-fits : goal.returns-in-Some-first_wide_column-clause-fits
returns-in-Some-first_wide_column-clause-fits c = tt

pub returns-in-Some-first_wide_column-clause-wide : goal.returns-in-Some-first_wide_column-clause-wide
returns-in-Some-first_wide_column-clause-wide c =
    let p = narrow_read c.args.p.now.f2 c.requires.p in
    let q = narrow_read c.args.q.now.f1 c.requires.q in
    let i1 = narrow_read c.args.i1 c.requires.i1 in
    let i2 = narrow_read c.args.i2 c.requires.i2 in
    let parts = subst (λ P. P) (λ t. HasWidth (p t -ℤ i2 t) (q t -ℤ i1 t) × IsWeighed (p t -ℤ i2 t) (q t -ℤ i1 t) c.in-Some.weights) c.in-Some.ensures in
    (parts.0, wide_of (c.args.p.now.f2 -ℤ c.args.i2) (c.args.q.now.f1 -ℤ c.args.i1) c.args.i1 c.args.i2 c.in-Some.weights parts.1 c.args.model.now c.in-Some-first_wide_column.col c.in-Some-first_wide_column.ensures)

pub row_sides-requires-clause-i1 : goal.row_sides-requires-clause-i1
row_sides-requires-clause-i1 c = narrow_again c.args.i1 c.requires.i1

pub row_sides-requires-clause-i2 : goal.row_sides-requires-clause-i2
row_sides-requires-clause-i2 c = narrow_again c.args.i2 c.requires.i2

pub returns-in-Some-row_sides-clause-gap : goal.returns-in-Some-row_sides-clause-gap
returns-in-Some-row_sides-clause-gap c =
    let p = narrow_read c.args.p.now.f2 c.requires.p in
    let q = narrow_read c.args.q.now.f1 c.requires.q in
    let i1 = narrow_read c.args.i1 c.requires.i1 in
    let i2 = narrow_read c.args.i2 c.requires.i2 in
    let parts = subst (λ P. P) (λ t. HasWidth (p t -ℤ i2 t) (q t -ℤ i1 t) × IsWeighed (p t -ℤ i2 t) (q t -ℤ i1 t) c.in-Some.weights) c.in-Some.ensures in
    let w = c.in-Some.weights in
    let sides = subst (λ P. P) (λ t. HasSides w.a w.b (i1 t) (i2 t) × AreSidesOf w.a w.b (i1 t) (i2 t) c.in-Some-row_sides.sides) c.in-Some-row_sides.ensures in
    gap_of (c.args.p.now.f2 -ℤ c.args.i2) (c.args.q.now.f1 -ℤ c.args.i1) c.args.i1 c.args.i2 w parts.1 c.in-Some-row_sides.sides sides.1

pub returns-in-Some-row_sides-clause-fits : goal.returns-in-Some-row_sides-clause-fits
returns-in-Some-row_sides-clause-fits c =
    let p = narrow_read c.args.p.now.f2 c.requires.p in
    let q = narrow_read c.args.q.now.f1 c.requires.q in
    let i1 = narrow_read c.args.i1 c.requires.i1 in
    let i2 = narrow_read c.args.i2 c.requires.i2 in
    let parts = subst (λ P. P) (λ t. HasWidth (p t -ℤ i2 t) (q t -ℤ i1 t) × IsWeighed (p t -ℤ i2 t) (q t -ℤ i1 t) c.in-Some.weights) c.in-Some.ensures in
    let w = c.in-Some.weights in
    let sides = subst (λ P. P) (λ t. HasSides w.a w.b (i1 t) (i2 t) × AreSidesOf w.a w.b (i1 t) (i2 t) c.in-Some-row_sides.sides) c.in-Some-row_sides.ensures in
    fits_of (c.args.p.now.f2 -ℤ c.args.i2) (c.args.q.now.f1 -ℤ c.args.i1) c.args.i1 c.args.i2 w parts.1 c.args.model.now parts.0 c.in_default-first_wide_column.ensures sides.0

pub returns-in-Some-row_sides-clause-wide : goal.returns-in-Some-row_sides-clause-wide
returns-in-Some-row_sides-clause-wide c = tt

pub returns-in-None-clause-gap : goal.returns-in-None-clause-gap
returns-in-None-clause-gap c = tt

pub returns-in-None-clause-fits : goal.returns-in-None-clause-fits
returns-in-None-clause-fits c = tt

pub returns-in-None-clause-wide : goal.returns-in-None-clause-wide
returns-in-None-clause-wide c =
    let p = narrow_read c.args.p.now.f2 c.requires.p in
    let q = narrow_read c.args.q.now.f1 c.requires.q in
    let i1 = narrow_read c.args.i1 c.requires.i1 in
    let i2 = narrow_read c.args.i2 c.requires.i2 in
    let parts = subst (λ P. P) (λ t. HasWidth (p t -ℤ i2 t) (q t -ℤ i1 t) × IsWeighed (p t -ℤ i2 t) (q t -ℤ i1 t) c.in-Some.weights) c.in-Some.ensures in
    let w = c.in-Some.weights in
    let wide = subst (λ P. P) (λ t. ¬ HasSides w.a w.b (i1 t) (i2 t)) c.in-None.ensures in (
      parts.0,
      terms_of (c.args.p.now.f2 -ℤ c.args.i2) (c.args.q.now.f1 -ℤ c.args.i1) c.args.i1 c.args.i2 w parts.1 c.args.model.now c.in_default-first_wide_column.ensures,
      λ sides. wide (sides_back (c.args.p.now.f2 -ℤ c.args.i2) (c.args.q.now.f1 -ℤ c.args.i1) c.args.i1 c.args.i2 w parts.1 sides),
    )
