use Rattle.std.specs.Prelude.{Some, box_value}
use Rattle.std.specs.Option.{option_map}
use Rattle.std.proofs.Common.{ap, ◌∙◌}
use Rattle.leaf_judging.specs.Numbers.{kept_entry}
use Rattle.leaf_judging.proofs.NumberLemmas.{apart-id}
use Rattle.leaf_judging.proofs.numbers.LeafNumbers.put.Goals as goal

pub returns-clause-put : goal.returns-clause-put
unfolding kept_entry
returns-clause-put c =
    let updates = c.in_ok-insert.ensures.updates in
    (ap (option_map box_value) updates.1 ∙ ap Some c.in_ok-held.ensures, λ i ne. ap (option_map box_value) (updates.2 i (apart-id c.args.id i ne)))
