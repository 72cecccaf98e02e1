use Rattle.warm_file.proofs.Saying.{bytes-added}
use Rattle.warm_file.proofs.parts.add.Goals as goal

pub returns : goal.returns
returns c = bytes-added c.extend_from_slice.result c.args.text.now.items c.extend_from_slice.new.self.items c.args.bytes.now c.extend_from_slice.ensures.items
