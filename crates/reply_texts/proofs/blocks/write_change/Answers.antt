use Rattle.std.proofs.Common.{◌++◌, ◌∙◌, ap, rules}
use Rattle.std.specs.Prelude.{codes}
use Rattle.std.specs.Fmt.{signed_decimal}
use Rattle.lp_model.specs.Lawful.{column_name}
use Rattle.reply_texts.specs.Places.{relation_text}
use Rattle.reply_texts.proofs.TextLemmas.{join}
use Rattle.reply_texts.proofs.blocks.write_change.Goals as goal

pub returns : goal.returns
returns c =
    let r = c.args.reply.now.items in
    let relation = relation_text c.args.change.side in
    let column = column_name c.args.model.now c.args.change.col.0 in
    let one = c.extend_from_slice.new.self.items in
    let two = c.extend_from_slice-2.new.self.items in
    let three = c.extend_from_slice-3.new.self.items in
    join r ((relation ++ column) ++ codes " ") (signed_decimal c.args.change.v) three c.write_whole.new.reply.items
    (join r (relation ++ column) (codes " ") two three
    (join r relation column one two
    (c.in-Ok.ensures.items ∙ ap (λ t. r ++ t) c.relation.ensures)
    (c.in-Ok-extend_from_slice.ensures.items ∙ ap (λ t. one ++ t) c.column_name.ensures))
    c.in-Ok-extend_from_slice-2.ensures.items)
    (search rules)
