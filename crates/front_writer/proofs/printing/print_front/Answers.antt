use Rattle.std.proofs.Common.{sym, subst}
use Rattle.front_text.specs.Text.{MeantFront}
use Rattle.front_writer.proofs.PrintedLaws.{printed_states}
use Rattle.front_writer.proofs.printing.print_front.Goals as goal

pub put_front-requires : goal.put_front-requires
put_front-requires c = c.new-text.ensures.items

pub returns-clause-text : goal.returns-clause-text
returns-clause-text c = c.in-Ok.ensures.text

pub returns-clause-states : goal.returns-clause-states
returns-clause-states c = λ whole words.
    subst (λ text. MeantFront text c.args.cert.now) (sym c.in-Ok.ensures.text) (printed_states c.args.cert.now whole words c.in-Ok.ensures.room)
