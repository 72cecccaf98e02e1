use Rattle.std.proofs.Common.{◌++◌, ◌+◌, ◌∙◌, ap, arith}
use Rattle.reply_texts.specs.Places.{cut_line}
use Rattle.reply_texts.proofs.TextLemmas.{cuts-begin, cuts-step, cuts-all}
use Rattle.reply_texts.proofs.blocks.write_cuts.Goals as goal

pub loop-index-init : goal.loop-index-init
loop-index-init c = cuts-begin c.args.model.now c.args.cuts.now c.args.reply.now.items

pub loop-index-preserved : goal.loop-index-preserved
loop-index-preserved c =
    cuts-step c.args.model.now c.args.cuts.now c.loop-index.index c.index-cuts-index.result c.args.reply.now.items c.loop-index.reply.items c.write_cut_line.new.reply.items c.loop-index-test.true c.loop-index.invariant
    (c.in-Ok.ensures ∙ ap (λ d. c.loop-index.reply.items ++ cut_line c.args.model.now (c.loop-index.index + 1) d) c.index-cuts-index.is)

pub returns : goal.returns
returns c = cuts-all c.args.model.now c.args.cuts.now c.loop-index.index c.args.reply.now.items c.loop-index.reply.items (omega (arith, c.loop-index-test.false)) c.loop-index.invariant
