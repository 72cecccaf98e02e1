use Rattle.std.specs.Prelude.{box_value}
use Rattle.std.specs.Option.{option_map}
use Rattle.std.proofs.Common.{ap}
use Rattle.leaf_judging.specs.Numbers.{kept_entry}
use Rattle.leaf_judging.proofs.NumberLemmas.{apart-id}
use Rattle.leaf_judging.proofs.numbers.LeafNumbers.remove.Goals as goal

pub returns-clause-gone : goal.returns-clause-gone
unfolding kept_entry
returns-clause-gone c = ap (option_map box_value) c.remove.ensures.updates.1

pub returns-clause-others : goal.returns-clause-others
unfolding kept_entry
returns-clause-others c = λ i ne. ap (option_map box_value) (c.remove.ensures.updates.2 i (apart-id c.args.id i ne))
