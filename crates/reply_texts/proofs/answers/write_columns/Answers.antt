use Rattle.std.proofs.Common.{◌∙◌, ap, ◌++◌}
use Rattle.reply_texts.specs.Texts.{column_line}
use Rattle.reply_texts.proofs.TextLemmas.{lines-begin, lines-step}
use Rattle.reply_texts.proofs.answers.write_columns.Goals as goal

pub loop-index-init : goal.loop-index-init
loop-index-init c = lines-begin c.args.columns.now c.args.numbers.now c.args.reply.now.items

pub loop-index-preserved : goal.loop-index-preserved
loop-index-preserved c =
    lines-step c.args.columns.now c.args.numbers.now c.loop-index.index c.index-columns-index.result c.index-numbers-index.result c.args.reply.now.items c.loop-index.reply.items c.write_column_line.new.reply.items
    c.loop-index-test.true c.requires c.index-columns-index.is c.index-numbers-index.is c.loop-index.invariant
    (c.in-Ok.ensures ∙ ap (λ n. c.loop-index.reply.items ++ column_line n c.index-numbers-index.result) c.as_slice.ensures)
