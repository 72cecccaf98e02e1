use Rattle.std.proofs.Common.{◌≡◌, drop}
use Rattle.lp_model.specs.Regions.{AreNarrow, high_along}
use Rattle.lp_model.proofs.regions.high_along.Given as goal

abbrev pub invariant-loop-change : goal.invariant-loop-change
invariant-loop-change l = record {
  rest : high_along l.region l.col l.fn.bound ≡ high_along (drop l.change-index l.region) l.col l.high;
  narrow : AreNarrow (drop l.change-index l.region);
}
