use Rattle.std.proofs.Common.{◌≡◌, drop}
use Rattle.lp_model.specs.Regions.{AreNarrow, low_along}
use Rattle.lp_model.proofs.regions.low_along.Given as goal

abbrev pub invariant-loop-change : goal.invariant-loop-change
invariant-loop-change l = record {
  rest : low_along l.region l.col l.fn.bound ≡ low_along (drop l.change-index l.region) l.col l.low;
  narrow : AreNarrow (drop l.change-index l.region);
}
