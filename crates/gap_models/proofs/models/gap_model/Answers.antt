use Rattle.std.specs.Prelude.{ℤ, pos, ◌*ℤ◌}
use Rattle.std.proofs.Common.{◌≡◌, ◌∙◌, ap, sym, subst}
use Rattle.std.proofs.lemmas.Result.{IfOk-weaker}
use Rattle.frac128.specs.Rational.{ℚ, int, ◌*ℚ◌}
use Rattle.lp_model.specs.Program.{Program}
use Rattle.lp_model.specs.Edits.{edited, EditFits}
use Rattle.inner_models.specs.Inner.{g1_name, g2_name, row_terms_less_z, capped, gap_start, gap_model}
use Rattle.gap_models.specs.declared.gaps.Gap.{Gap}
use Rattle.gap_models.specs.declared.models.GapRows.{GapRows}
use Rattle.gap_models.specs.Gaps.{IsGapOf}
use Rattle.gap_models.specs.Rows.{AreRowsOf}
use Rattle.inner_models.proofs.FittingEdits.{fitting_edits}
use Rattle.gap_models.proofs.models.gap_model.Goals as goal

made : (N : Program) (g : Gap) (start : Program) (rows : GapRows) (a b i1 i2 : ℤ) → start ≡ gap_start N (a *ℤ b) → AreRowsOf N g rows → IsGapOf a b i1 i2 g
    → edited (edited start (capped (g1_name N) g.side1 rows.first)) (capped (g2_name N) g.side2 rows.second) ≡ gap_model N a b i1 i2
made N g start rows a b i1 i2 start_is are is =
    let first = are.first ∙ ap (λ (q : ℚ). row_terms_less_z (λ c. q *ℚ c.cost) N) is.first_weight in
    let second = are.second ∙ ap (λ (q : ℚ). row_terms_less_z (λ c. q *ℚ c.cost2) N) is.second_weight in
    (λ t. edited (edited (start_is t) (capped (g1_name N) (is.first_side t) (first t))) (capped (g2_name N) (is.second_side t) (second t)))

pub returns-in-Ok-with_width : goal.returns-in-Ok-with_width
returns-in-Ok-with_width c =
    IfOk-weaker c.with_rows.result _ _
    (λ m h a b i1 i2 is. h ∙ made c.args.model.now c.args.gap.now c.in-Ok-with_width.start c.in-Ok-gap_rows.rows a b i1 i2 (c.in-Ok-with_width.ensures (a *ℤ b) is.width) c.in-Ok-gap_rows.ensures is)
    c.with_rows.ensures

pub with_rows-requires-clause-first : goal.with_rows-requires-clause-first
with_rows-requires-clause-first c =
    let N = c.args.model.now in
    let g = c.args.gap.now in
    let is = c.requires.fits.4.0 in
    let start = c.in-Ok-with_width.ensures (c.requires.fits.0 *ℤ c.requires.fits.1) is.width in
    subst (λ P. P) (λ i. EditFits (sym start i) (capped (g1_name N) g.side1 (sym c.in-Ok-gap_rows.ensures.first i)))
    ((fitting_edits N c.requires.wide c.requires.room).gap_row (λ k. int (pos 0)) (c.requires.fits.0 *ℤ c.requires.fits.1) g.side1 (λ k. g.a *ℚ k.cost))

pub with_rows-requires-clause-second : goal.with_rows-requires-clause-second
with_rows-requires-clause-second c =
    let N = c.args.model.now in
    let g = c.args.gap.now in
    let is = c.requires.fits.4.0 in
    let start = c.in-Ok-with_width.ensures (c.requires.fits.0 *ℤ c.requires.fits.1) is.width in
    subst (λ P. P) (λ i. EditFits (edited (sym start i) (capped (g1_name N) g.side1 (sym c.in-Ok-gap_rows.ensures.first i))) (capped (g2_name N) g.side2 (sym c.in-Ok-gap_rows.ensures.second i)))
    ((fitting_edits N c.requires.wide c.requires.room).second_gap (λ k. int (pos 0)) (c.requires.fits.0 *ℤ c.requires.fits.1) g.side1 g.side2 (λ k. g.a *ℚ k.cost) (λ k. g.b *ℚ k.cost2))
