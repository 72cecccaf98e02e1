use Rattle.std.proofs.Common.{◌≡◌, take}
use Rattle.std.specs.Prelude.{map}
use Rattle.kept_cuts.specs.Kept.{literal_after}
use Rattle.kept_cuts.proofs.pool.literals_after.Given as goal

abbrev pub invariant-loop-literal : goal.invariant-loop-literal
invariant-loop-literal l = l.after ≡ map (literal_after l.gone) (take l.literal-index l.literals)
