use Rattle.std.specs.Prelude.{box_value}
use Rattle.std.specs.BTreeMap.{get}
use Rattle.std.specs.Option.{option_map}
use Rattle.std.specs.Ordering.{nat_cmp}
use Rattle.std.proofs.Common.{ap}
use Rattle.leaf_judging.specs.Numbers.{kept_entry}
use Rattle.leaf_judging.proofs.NumberLemmas.{apart-id, some-held}
use Rattle.leaf_judging.proofs.numbers.LeafNumbers.set.Goals as goal

pub put_over-requires : goal.put_over-requires
unfolding kept_entry
put_over-requires c = some-held (get nat_cmp c.args.self.now.kept c.args.id) c.requires

pub returns : goal.returns
unfolding kept_entry
returns c = (c.put_over.ensures.value, λ i ne. ap (option_map box_value) (c.put_over.ensures.others i (apart-id c.args.id i ne)))
