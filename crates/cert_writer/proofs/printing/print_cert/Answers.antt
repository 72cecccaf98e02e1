use Rattle.std.proofs.Common.{sym, subst}
use Rattle.cert_text.specs.Text.{MeantCertificate}
use Rattle.cert_writer.proofs.PrintedLaws.{printed_states}
use Rattle.cert_writer.proofs.printing.print_cert.Goals as goal

pub put_cert-requires : goal.put_cert-requires
put_cert-requires c = c.new-text.ensures.items

pub returns-clause-text : goal.returns-clause-text
returns-clause-text c = c.in-Ok.ensures.text

pub returns-clause-states : goal.returns-clause-states
returns-clause-states c = λ whole words.
    subst (λ text. MeantCertificate text c.args.cert.now) (sym c.in-Ok.ensures.text) (printed_states c.args.cert.now whole words c.in-Ok.ensures.room)
