use Rattle.frac128.specs.Printing.{printed}
use Rattle.cert_writer.proofs.PutLaws.{number_last}
use Rattle.cert_writer.proofs.printing.put_number.Goals as goal

pub returns-clause-text : goal.returns-clause-text
returns-clause-text c = number_last c.write_to.result c.args.text.now.items (printed c.args.number.now) c.push.new.self.items c.write_to.new.text.items c.in_ok-push.ensures.items c.write_to.ensures.written
