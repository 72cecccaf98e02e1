use Rattle.std.proofs.Common.{◌≡◌, ◌<◌, ℕ, get_or, false}
use Rattle.frac_text.specs.private.Parts.{marks}
use Rattle.frac_text.proofs.spelling.cut_at.Given as goal

abbrev pub invariant-loop-place : goal.invariant-loop-place
invariant-loop-place l = (k : ℕ) → k < l.place → marks l.mark (get_or l.bytes k 0) ≡ false
