use Rattle.std.proofs.Common.{subst}
use Rattle.warm_file.specs.Faults.{at_key}
use Rattle.warm_file.specs.private.Faults.{SaysFault}
use Rattle.warm_file.proofs.parts.at_item.Goals as goal

pub returns : goal.returns
returns g c = λ said h. subst (λ t. SaysFault (at_key t said) c.at_key.result) c.format.ensures.text (c.at_key.ensures said h)
