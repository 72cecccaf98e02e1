use Rattle.std.proofs.Common.{◌++◌, ◌∙◌, ap}
use Rattle.std.specs.Prelude.{codes, decimal}
use Rattle.reply_texts.specs.Places.{step_text}
use Rattle.reply_texts.proofs.TextLemmas.{join, join_piece}
use Rattle.command_files.proofs.checking.write_wide.Goals as goal

pub returns : goal.returns
returns c =
    let r = c.args.reply.now.items in
    let p = c.extend_from_slice.new.self.items in
    let q = c.extend_from_slice-2.new.self.items in
    let s = c.extend_from_slice-3.new.self.items in
    let t = c.write_step.new.reply.items in
    let word = codes "wide " in
    let node = decimal c.args.node in
    let step = step_text c.args.model.now c.args.step.now in
    let two = join r word node p q c.in_ok-extend_from_slice.ensures.items (c.in_ok-extend_from_slice-2.ensures.items ∙ ap (λ d. p ++ d) (c.as_bytes.ensures.value ∙ c.format.ensures.text)) in
    let three = join r (word ++ node) (codes " ") q s two c.in_ok-extend_from_slice-3.ensures.items in
    let four = join r ((word ++ node) ++ codes " ") step s t three c.in_ok-write_step.ensures in
    join_piece c.extend_from_slice-4.result r (((word ++ node) ++ codes " ") ++ step) (codes "\n") t c.extend_from_slice-4.new.self.items four c.extend_from_slice-4.ensures.items
