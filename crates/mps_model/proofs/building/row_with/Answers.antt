use Rattle.std.proofs.Common.{subst, sym}
use Rattle.std.specs.Prelude.{Option}
use Rattle.frac128.specs.Rational.{ℚ}
use Rattle.lp_model.specs.Lawful.{IsRange}
use Rattle.mps_model.specs.Meaning.{low_side_with}
use Rattle.mps_model.proofs.RangeRoom.{sides_with-range}
use Rattle.mps_model.proofs.building.row_with.Goals as goal

pub returns-clause-range : goal.returns-clause-range
returns-clause-range c =
    let kind = c.args.row.now.kind in
    let number = c.args.number.now in
    let range = c.args.range.now in
    subst (λ (lo : Option ℚ). IsRange lo c.sides_of-sides.result.1) (sym c.sides_of-sides.ensures.low) (subst (λ (hi : Option ℚ). IsRange (low_side_with kind number range) hi) (sym c.sides_of-sides.ensures.high) (sides_with-range kind number range c.has_room.ensures c.requires))
