use Rattle.std.proofs.Common.{arith}
use Rattle.reply_texts.specs.Places.{next_text}
use Rattle.reply_texts.proofs.TextLemmas.{texts-step, texts-all}
use Rattle.reply_texts.proofs.names.write_variables.Goals as goal

pub loop-variable-preserved : goal.loop-variable-preserved
loop-variable-preserved c =
    texts-step (next_text c.args.model.now) c.args.variables.now c.loop-variable.variable-index _ c.args.reply.now.items c.loop-variable.reply.items c.write_next.new.reply.items
    c.loop-variable-test.true c.loop-variable.invariant c.in-Ok.ensures

pub returns : goal.returns
returns c = texts-all (next_text c.args.model.now) c.args.variables.now c.loop-variable.variable-index c.args.reply.now.items c.loop-variable.reply.items (omega (arith, c.loop-variable-test.false)) c.loop-variable.invariant
