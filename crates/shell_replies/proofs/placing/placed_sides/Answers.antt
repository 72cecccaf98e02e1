use Rattle.std.proofs.Common.{◌<◌, List, length, ap, sym, subst, Some, None}
use Rattle.std.specs.Prelude.{All}
use Rattle.frac128.specs.Rational.{ℚ}
use Rattle.lp_model.specs.declared.types.Row.{Row}
use Rattle.lp_model.specs.declared.types.RowId.{RowId}
use Rattle.shell_replies.specs.private.Placing.{IsFirstTwoSidedAt}
use Rattle.shell_replies.proofs.PlacingLemmas.{sides-within, all-one, one-two-sided}
use Rattle.shell_replies.proofs.placing.placed_sides.Goals as goal

pub first_two_sided-requires : goal.first_two_sided-requires
first_two_sided-requires c =
    let sides = c.in-Ok.sides in
    subst (All (λ (e : RowId × ℚ). e.0.0 < length c.rows-2.result.now)) (sym c.as_slice.ensures)
    (subst (λ n. All (λ (e : RowId × ℚ). e.0.0 < n) sides) (sym (ap length c.rows-2.ensures.items)) (sides-within c.args.model.now c.rows.result.now c.args.named.now sides c.rows.ensures.items c.in-Ok.ensures))

pub returns-in-Some : goal.returns-in-Some
returns-in-Some c =
    let sides = c.in-Ok.sides in
    let k = c.in-Some.place in
    one-two-sided c.args.model.now c.rows.result.now c.args.named.now sides c.rows.ensures.items c.in-Ok.ensures k
    (subst (λ (rows : List Row). IsFirstTwoSidedAt rows sides (Some k)) c.rows-2.ensures.items
    (subst (λ (l : List (RowId × ℚ)). IsFirstTwoSidedAt c.rows-2.result.now l (Some k)) c.as_slice.ensures c.in-Some.ensures))

pub returns-in-None : goal.returns-in-None
returns-in-None c =
    let sides = c.in-Ok.sides in
    all-one c.args.model.now c.rows.result.now c.args.named.now sides c.rows.ensures.items c.in-Ok.ensures
    (subst (λ (rows : List Row). IsFirstTwoSidedAt rows sides None) c.rows-2.ensures.items
    (subst (λ (l : List (RowId × ℚ)). IsFirstTwoSidedAt c.rows-2.result.now l None) c.as_slice.ensures c.in-None.ensures))
