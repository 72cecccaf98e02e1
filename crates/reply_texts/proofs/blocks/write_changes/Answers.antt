use Rattle.std.proofs.Common.{arith}
use Rattle.reply_texts.specs.Places.{change_text}
use Rattle.reply_texts.proofs.TextLemmas.{texts-step, texts-all}
use Rattle.reply_texts.proofs.blocks.write_changes.Goals as goal

pub loop-change-preserved : goal.loop-change-preserved
loop-change-preserved c =
    texts-step (change_text c.args.model.now) c.args.changes.now c.loop-change.change-index _ c.args.reply.now.items c.loop-change.reply.items c.write_change.new.reply.items
    c.loop-change-test.true c.loop-change.invariant c.in-Ok.ensures

pub returns : goal.returns
returns c = texts-all (change_text c.args.model.now) c.args.changes.now c.loop-change.change-index c.args.reply.now.items c.loop-change.reply.items (omega (arith, c.loop-change-test.false)) c.loop-change.invariant
