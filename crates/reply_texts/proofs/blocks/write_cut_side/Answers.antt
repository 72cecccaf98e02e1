use Rattle.std.proofs.Common.{◌≡◌, ℕ, List, ◌++◌, ◌∙◌, subst, ap}
use Rattle.std.specs.Prelude.{codes, decimal, is_ok, if◌then◌else◌}
use Rattle.lp_model.specs.Lawful.{row_name}
use Rattle.reply_texts.specs.Places.{side_text}
use Rattle.reply_texts.proofs.TextLemmas.{join_two, join_piece}
use Rattle.reply_texts.proofs.blocks.write_cut_side.Goals as goal

pub returns : goal.returns
returns c =
    let place = codes "cut " ++ decimal c.args.place in
    let row = row_name c.args.model.now c.args.row.0 in
    let before = c.write_two.new.reply.items in
    join_piece c.extend_from_slice.result c.args.reply.now.items ((place ++ codes " ") ++ row) (side_text c.args.of) before c.extend_from_slice.new.self.items
    (join_two c.args.reply.now.items place (codes " ") row c.write_count.new.reply.items before c.in-Ok.ensures
    (c.in-Ok-write_two.ensures ∙ ap (λ (t : List ℕ). c.write_count.new.reply.items ++ (codes " " ++ t)) c.row_name.ensures))
    (subst (λ (t : List ℕ). c.extend_from_slice.new.self.items ≡ (if is_ok c.extend_from_slice.result then before ++ t else before)) c.side.ensures c.extend_from_slice.ensures.items)
