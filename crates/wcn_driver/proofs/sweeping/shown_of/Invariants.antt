use Rattle.std.proofs.Common.{◌≡◌, map}
use Rattle.wcn_driver.specs.declared.found.Found.{Found}
use Rattle.wcn_driver.proofs.sweeping.shown_of.Given as goal

abbrev pub invariant-loop-item : goal.invariant-loop-item
invariant-loop-item l = l.list ≡ map (λ (f : Found). f.shown) l.yielded
