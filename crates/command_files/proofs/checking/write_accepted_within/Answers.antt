use Rattle.std.proofs.Common.{◌++◌}
use Rattle.std.specs.Prelude.{codes}
use Rattle.frac128.specs.Printing.{printed}
use Rattle.reply_texts.proofs.TextLemmas.{join, join_piece}
use Rattle.command_files.proofs.checking.write_accepted_within.Goals as goal

pub returns : goal.returns
returns c =
    let r = c.args.reply.now.items in
    let p = c.extend_from_slice.new.self.items in
    let q = c.write_to.new.text.items in
    let s = c.extend_from_slice-2.new.self.items in
    let t = c.write_to-2.new.text.items in
    let word = codes "accepted within " in
    let gap = printed c.args.gap.now in
    let value = printed c.args.value.now in
    let two = join r word gap p q c.in_ok-extend_from_slice.ensures.items c.in_ok-write_to.ensures.written in
    let three = join r (word ++ gap) (codes " ") q s two c.in_ok-extend_from_slice-2.ensures.items in
    let four = join r ((word ++ gap) ++ codes " ") value s t three c.in_ok-write_to-2.ensures.written in
    join_piece c.extend_from_slice-3.result r (((word ++ gap) ++ codes " ") ++ value) (codes "\n") t c.extend_from_slice-3.new.self.items four c.extend_from_slice-3.ensures.items
