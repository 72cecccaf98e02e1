use Rattle.std.specs.Prelude.{false, None, List}
use Rattle.front_text.specs.declared.front.FrontTree.{FrontTree}
use Rattle.front_text.specs.declared.front.FrontOutcome.{FrontOutcome}
use Rattle.front_text.specs.Text.{StatedFront, stated_front}
use Rattle.front_text.proofs.front_reading.FrontReading.new.Goals as goal

first : List FrontOutcome → List FrontTree → StatedFront
first outcomes trees = record { count = 0; outcomes = outcomes; waiting = None; trees = trees; last = None; ended = false }

pub returns-clause-stated : goal.returns-clause-stated
unfolding stated_front first
returns-clause-stated c = (λ i. first (c.new-outcomes.ensures i) (c.new-trees.ensures i))
