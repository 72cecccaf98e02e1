use Rattle.std.proofs.Common.{◌++◌, ◌∙◌, ap}
use Rattle.std.specs.Prelude.{codes, decimal}
use Rattle.reply_texts.proofs.TextLemmas.{join, join_piece}
use Rattle.command_files.proofs.checking.write_accepted_front.Goals as goal

pub returns : goal.returns
returns c =
    let r = c.args.reply.now.items in
    let p = c.extend_from_slice.new.self.items in
    let q = c.extend_from_slice-2.new.self.items in
    let words = codes "accepted frontier " in
    let outcomes = decimal c.args.outcomes in
    let two = join r words outcomes p q c.in_ok-extend_from_slice.ensures.items (c.in_ok-extend_from_slice-2.ensures.items ∙ ap (λ d. p ++ d) (c.as_bytes.ensures.value ∙ c.format.ensures.text)) in
    join_piece c.extend_from_slice-3.result r (words ++ outcomes) (codes "\n") q c.extend_from_slice-3.new.self.items two c.extend_from_slice-3.ensures.items
