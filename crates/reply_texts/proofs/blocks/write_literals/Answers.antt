use Rattle.std.proofs.Common.{arith}
use Rattle.reply_texts.specs.Places.{literal_text}
use Rattle.reply_texts.proofs.TextLemmas.{texts-step, texts-all}
use Rattle.reply_texts.proofs.blocks.write_literals.Goals as goal

pub loop-literal-preserved : goal.loop-literal-preserved
loop-literal-preserved c =
    texts-step (literal_text c.args.model.now) c.args.literals.now c.loop-literal.literal-index _ c.args.reply.now.items c.loop-literal.reply.items c.write_literal.new.reply.items
    c.loop-literal-test.true c.loop-literal.invariant c.in-Ok.ensures

pub returns : goal.returns
returns c = texts-all (literal_text c.args.model.now) c.args.literals.now c.loop-literal.literal-index c.args.reply.now.items c.loop-literal.reply.items (omega (arith, c.loop-literal-test.false)) c.loop-literal.invariant
