use Rattle.std.proofs.Common.{◌++◌, ◌∙◌, ap}
use Rattle.std.specs.Prelude.{codes, decimal}
use Rattle.reply_texts.proofs.TextLemmas.{join, join_piece}
use Rattle.command_files.proofs.checking.write_rejected.Goals as goal

pub returns : goal.returns
returns c =
    let r = c.args.reply.now.items in
    let p = c.extend_from_slice.new.self.items in
    let q = c.extend_from_slice-2.new.self.items in
    let s = c.extend_from_slice-3.new.self.items in
    let t = c.extend_from_slice-4.new.self.items in
    let word = codes "rejected " in
    let node = decimal c.args.node in
    let why = decimal c.args.why in
    let two = join r word node p q c.in_ok-extend_from_slice.ensures.items (c.in_ok-extend_from_slice-2.ensures.items ∙ ap (λ d. p ++ d) (c.as_bytes.ensures.value ∙ c.format.ensures.text)) in
    let three = join r (word ++ node) (codes " ") q s two c.in_ok-extend_from_slice-3.ensures.items in
    let four = join r ((word ++ node) ++ codes " ") why s t three (c.in_ok-extend_from_slice-4.ensures.items ∙ ap (λ d. s ++ d) (c.as_bytes-2.ensures.value ∙ c.format-2.ensures.text)) in
    join_piece c.extend_from_slice-5.result r (((word ++ node) ++ codes " ") ++ why) (codes "\n") t c.extend_from_slice-5.new.self.items four c.extend_from_slice-5.ensures.items
