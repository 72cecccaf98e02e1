use Rattle.std.proofs.Common.{◌&&◌, ap, sym, ◌∙◌}
use Rattle.mps_model.specs.Ranges.{are_subtractable, ranged_low, ranged_high}
use Rattle.mps_model.proofs.ranges.has_room.Goals as goal

pub returns-in-Some : goal.returns-in-Some
returns-in-Some c =
    let kind = c.args.kind in
    let x = c.args.number.now in
    let r = c.args.range.now in
    let h = c.in-Some.ensures in
    c.are_subtractable.ensures
    ∙ ap (λ lo. are_subtractable lo c.in-Some.sides.1) h.1
    ∙ ap (λ hi. are_subtractable (ranged_low kind x r) hi) h.2
    ∙ ap (λ b. b && are_subtractable (ranged_low kind x r) (ranged_high kind x r)) (sym h.0)

pub returns-in-None : goal.returns-in-None
returns-in-None c =
    let kind = c.args.kind in
    let x = c.args.number.now in
    let r = c.args.range.now in
    ap (λ b. b && are_subtractable (ranged_low kind x r) (ranged_high kind x r)) (sym c.in-None.ensures)
