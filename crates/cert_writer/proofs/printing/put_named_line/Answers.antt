use Rattle.cert_writer.specs.CertText.{named_words}
use Rattle.cert_writer.proofs.PutLaws.{named_line_last, if_ok}
use Rattle.cert_writer.proofs.printing.put_named_line.Goals as goal

pub returns-clause-text : goal.returns-clause-text
returns-clause-text c =
    named_line_last c.extend_from_slice-2.result c.args.text.now.items c.args.word.now (named_words c.args.named.now) c.extend_from_slice.new.self.items c.put_named.new.text.items c.extend_from_slice-2.new.self.items c.in-Ok.ensures.items
    c.in-Ok-put_named.ensures.text c.extend_from_slice-2.ensures.items

pub returns-clause-room : goal.returns-clause-room
returns-clause-room c = if_ok c.extend_from_slice-2.result c.in-Ok-put_named.ensures.room
