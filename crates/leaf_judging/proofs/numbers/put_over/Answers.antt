use Rattle.std.specs.Prelude.{Some, box_value}
use Rattle.std.specs.Option.{option_map}
use Rattle.std.proofs.Common.{ap, ◌∙◌}
use Rattle.leaf_judging.proofs.numbers.put_over.Goals as goal

pub returns-clause-value : goal.returns-clause-value
returns-clause-value g c = ap (option_map box_value) ((c.get_mut.follows.holds c.replace.new.b).3 c.requires).1 ∙ ap Some c.replace.ensures.after

pub returns-clause-others : goal.returns-clause-others
returns-clause-others g c = ((c.get_mut.follows.holds c.replace.new.b).3 c.requires).2
