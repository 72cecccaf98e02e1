use Rattle.std.proofs.Common.{take}
use Rattle.lp_model.specs.Regions.{AreNarrow}
use Rattle.tight_regions.specs.SameBounds.{SameBounds}
use Rattle.tight_regions.proofs.given.tightest.Given as goal

abbrev pub invariant-loop-change : goal.invariant-loop-change
invariant-loop-change l = record {
  bounds : SameBounds l.region.items (take l.change-index l.path);
  narrow : AreNarrow (take l.change-index l.path) → AreNarrow l.region.items;
}
