use Rattle.std.proofs.Common.{◌++◌, ◌∙◌, ap}
use Rattle.std.specs.Prelude.{codes}
use Rattle.lp_model.specs.Program.{value}
use Rattle.reply_texts.specs.Texts.{within_line, column_lines}
use Rattle.reply_texts.proofs.TextLemmas.{join, join_piece}
use Rattle.reply_texts.proofs.answers.write_within.Goals as goal

pub returns : goal.returns
returns c =
    let M = c.args.model.now in
    let point = c.args.point.now in
    let gap = c.args.gap.now in
    let first = within_line gap (value M 1 point) c.args.results in
    let lines = column_lines M.cols point in
    let before = c.write_gap_and_value.new.reply.items in
    join_piece c.extend_from_slice.result c.args.reply.now.items (first ++ lines) (codes "end\n") c.write_columns.new.reply.items c.extend_from_slice.new.self.items
    (join c.args.reply.now.items first lines before c.write_columns.new.reply.items
    (c.in-Ok.ensures ∙ ap (λ v. c.args.reply.now.items ++ within_line gap v c.args.results) c.requires.best)
    (c.in-Ok-write_columns.ensures ∙ (λ i. before ++ column_lines (c.cols.ensures.items i) (c.as_slice.ensures i))))
    c.extend_from_slice.ensures.items
