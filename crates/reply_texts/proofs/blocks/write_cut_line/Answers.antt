use Rattle.std.proofs.Common.{◌++◌, ◌∙◌, ap}
use Rattle.std.specs.Prelude.{codes, decimal}
use Rattle.std.specs.List.{flat_map}
use Rattle.lp_model.specs.Lawful.{row_name}
use Rattle.reply_texts.specs.Places.{side_text, literal_text}
use Rattle.reply_texts.proofs.TextLemmas.{join, join_piece}
use Rattle.reply_texts.proofs.blocks.write_cut_line.Goals as goal

pub returns : goal.returns
returns c =
    let cut = c.args.cut.now in
    let side = (((codes "cut " ++ decimal c.args.place) ++ codes " ") ++ row_name c.args.model.now cut.row.0) ++ side_text cut.side in
    let literals = flat_map (literal_text c.args.model.now) cut.literals in
    join_piece c.extend_from_slice.result c.args.reply.now.items (side ++ literals) (codes "\n") c.write_literals.new.reply.items c.extend_from_slice.new.self.items
    (join c.args.reply.now.items side literals c.write_cut_side.new.reply.items c.write_literals.new.reply.items c.in-Ok.ensures
    (c.in-Ok-write_literals.ensures ∙ ap (λ literals. c.write_cut_side.new.reply.items ++ flat_map (literal_text c.args.model.now) literals) c.as_slice.ensures))
    c.extend_from_slice.ensures.items
