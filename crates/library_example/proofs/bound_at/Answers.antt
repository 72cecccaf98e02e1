use Rattle.std.proofs.Common.{◌≡◌, ◌<◌, ◌∙◌, List, length, get_or, ap, sym, subst}
use Rattle.frac128.specs.Rational.{ℚ}
use Rattle.lp_model.specs.Program.{Program}
use Rattle.lp_model.specs.declared.types.Row.{Row}
use Rattle.lp_model.specs.declared.types.RowId.{RowId}
use Rattle.dual_bounds.specs.NewNumbers.{AreNewSides}
use Rattle.library_example.proofs.SideLemmas.{one-row}
use Rattle.library_example.proofs.bound_at.Goals as goal

-- the row was found, and its sides were tested
pub lower_bound_with-requires : goal.lower_bound_with-requires
lower_bound_with-requires c =
    let M = c.args.search.now.model in
    let r : Row = c.index-rows-place.result in
    let rows : c.rows.result.now ≡ M.rows = c.rows.ensures.items ∙ ap (λ (N : Program). N.rows) c.model-2.ensures in
    let below : c.in-Some.place.0 < length M.rows = subst (λ (N : Program). c.in-Some.place.0 < length N.rows) c.model.ensures c.in-Some.ensures.0 in
    subst (λ (sides : List (RowId × ℚ)). AreNewSides M sides) (sym c.in_ok-sides.ensures)
    (one-row M c.in-Some.place c.whole.result r below (c.index-rows-place.is ∙ ap (λ l. get_or l c.in-Some.place.0 r) rows) (c.has_equal_sides.ensures.0 c.if-not-has_equal_sides.false))
