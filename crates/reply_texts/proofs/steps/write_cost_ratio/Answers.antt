use Rattle.std.proofs.Common.{◌++◌}
use Rattle.std.specs.Prelude.{codes}
use Rattle.reply_texts.specs.Places.{next_text}
use Rattle.reply_texts.proofs.TextLemmas.{join_piece}
use Rattle.reply_texts.proofs.steps.write_cost_ratio.Goals as goal

pub returns : goal.returns
returns c =
    join_piece c.extend_from_slice.result c.args.reply.now.items ((codes "ratio" ++ next_text c.args.model.now c.args.leaving.now) ++ next_text c.args.model.now c.args.entering.now) (codes " 0") c.write_pair.new.reply.items c.extend_from_slice.new.self.items
    c.in-Ok.ensures c.extend_from_slice.ensures.items
