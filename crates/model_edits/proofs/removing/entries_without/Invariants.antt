use Rattle.std.proofs.Common.{◌≡◌, take}
use Rattle.lp_model.specs.Edits.{entries_without}
use Rattle.model_edits.proofs.removing.entries_without.Given as goal

abbrev pub invariant-loop-place : goal.invariant-loop-place
invariant-loop-place l = l.kept ≡ entries_without l.row (take l.place-index l.entries)
