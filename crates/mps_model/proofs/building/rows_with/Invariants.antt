use Rattle.std.proofs.Common.{◌≡◌, map, take}
use Rattle.std.specs.Prelude.{All}
use Rattle.lp_model.specs.Lawful.{IsRange}
use Rattle.lp_model.specs.declared.types.Row.{Row}
use Rattle.mps_model.specs.Meaning.{row_of}
use Rattle.mps_model.proofs.building.rows_with.Given as goal

abbrev pub invariant-loop-place : goal.invariant-loop-place
invariant-loop-place l = record {
  is : l.rows ≡ map (row_of l.sections) (take l.place l.lines);
  ranges : All (λ (r : Row). IsRange r.lo r.hi) l.rows;
}
