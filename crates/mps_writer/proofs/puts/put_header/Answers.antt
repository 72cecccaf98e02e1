use Rattle.mps_writer.proofs.PutLaws.{header_put}
use Rattle.mps_writer.proofs.puts.put_header.Goals as goal

pub returns : goal.returns
returns c = header_put c.args.word.now c.args.text.now.items c.extend_from_slice.new.self.items c.push.new.self.items c.in-Ok.ensures.items c.in-Ok-push.ensures.items
