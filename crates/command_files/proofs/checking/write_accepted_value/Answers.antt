use Rattle.std.proofs.Common.{◌++◌}
use Rattle.std.specs.Prelude.{codes}
use Rattle.frac128.specs.Printing.{printed}
use Rattle.reply_texts.proofs.TextLemmas.{join, join_piece}
use Rattle.command_files.proofs.checking.write_accepted_value.Goals as goal

pub returns : goal.returns
returns c =
    let r = c.args.reply.now.items in
    let p = c.extend_from_slice.new.self.items in
    let q = c.write_to.new.text.items in
    let word = codes "accepted optimal " in
    let value = printed c.args.value.now in
    let two = join r word value p q c.in_ok-extend_from_slice.ensures.items c.in_ok-write_to.ensures.written in
    join_piece c.extend_from_slice-2.result r (word ++ value) (codes "\n") q c.extend_from_slice-2.new.self.items two c.extend_from_slice-2.ensures.items
