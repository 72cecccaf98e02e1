use Rattle.cert_writer.proofs.PutLaws.{word_last}
use Rattle.cert_writer.proofs.printing.put_word.Goals as goal

pub returns : goal.returns
returns c = word_last c.extend_from_slice.result c.args.text.now.items c.args.word.now c.push.new.self.items c.extend_from_slice.new.self.items c.in_ok-push.ensures.items c.extend_from_slice.ensures.items
