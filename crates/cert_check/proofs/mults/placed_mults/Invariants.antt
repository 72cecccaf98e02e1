use Rattle.std.proofs.Common.{◌≡◌, All, take}
use Rattle.cert_check.specs.Mults.{IsMultiplierThere, mults_of}
use Rattle.cert_check.proofs.mults.placed_mults.Given as goal

abbrev pub invariant-loop-index : goal.invariant-loop-index
invariant-loop-index l = record {
  there : All (IsMultiplierThere l.model l.count) (take l.index l.mults);
  placed_is : l.placed ≡ take l.index (mults_of l.model l.mults);
}
