use Rattle.std.specs.Prelude.{codes}
use Rattle.cert_writer.proofs.PutLaws.{behind_last}
use Rattle.front_replies.specs.FrontReplies.{value_words}
use Rattle.front_replies.proofs.parts.put_pull.Goals as goal

pub returns : goal.returns
returns c = behind_last c.put_values.result c.args.text.now.items (codes "pull") (value_words c.args.most.now) c.extend_from_slice.new.self.items c.put_values.new.text.items c.in-Ok.ensures.items c.put_values.ensures
