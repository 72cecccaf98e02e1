use Rattle.std.proofs.Common.{◌++◌, ◌∙◌, ap}
use Rattle.std.specs.Prelude.{codes}
use Rattle.std.specs.List.{flat_map}
use Rattle.reply_texts.specs.Places.{change_text}
use Rattle.reply_texts.proofs.TextLemmas.{join, join_piece}
use Rattle.reply_texts.proofs.blocks.write_path.Goals as goal

pub returns : goal.returns
returns c =
    let changes = flat_map (change_text c.args.model.now) c.args.path.now in
    join_piece c.extend_from_slice-2.result c.args.reply.now.items (codes "path" ++ changes) (codes "\n") c.write_changes.new.reply.items c.extend_from_slice-2.new.self.items
    (join c.args.reply.now.items (codes "path") changes c.extend_from_slice.new.self.items c.write_changes.new.reply.items c.in-Ok.ensures.items
    (c.in-Ok-write_changes.ensures ∙ ap (λ changes. c.extend_from_slice.new.self.items ++ flat_map (change_text c.args.model.now) changes) c.as_slice.ensures))
    c.extend_from_slice-2.ensures.items
