use Rattle.std.proofs.Common.{◌≡◌, take}
use Rattle.kept_cuts.specs.Kept.{gone_with}
use Rattle.kept_cuts.proofs.pool.gone_with.Given as goal

abbrev pub invariant-loop-place : goal.invariant-loop-place
invariant-loop-place l = l.gone.items ≡ gone_with l.model l.edit (take l.place l.cuts)
