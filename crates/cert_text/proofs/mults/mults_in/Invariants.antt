use Rattle.std.proofs.Common.{◌≡◌, length, map}
use Rattle.cert_text.specs.Mults.{mults_in}
use Rattle.cert_text.specs.Reading.{joined_items}
use Rattle.cert_text.proofs.mults.mults_in.Given as goal

abbrev pub invariant-loop-rest : goal.invariant-loop-rest
invariant-loop-rest l = mults_in (map (λ word. word.now) l.words) ≡ joined_items l.gathered.least l.gathered.items (mults_in (map (λ word. word.now) l.rest))

abbrev pub decreases-loop-rest : goal.decreases-loop-rest
decreases-loop-rest l = length l.rest
