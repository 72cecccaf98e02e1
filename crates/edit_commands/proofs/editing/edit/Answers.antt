use Rattle.std.proofs.Common.{◌++◌, map, refl, subst, sym, ap, ◌∙◌, inl}
use Rattle.std.specs.Prelude.{OnOk, OnErr}
use Rattle.edit_words.specs.EditWords.{EditAsks, edit_asks}
use Rattle.edit_words.proofs.BoundLemmas.{new-parts}
use Rattle.reply_texts.specs.Texts.{arguments_text, number_text, memory_text}
use Rattle.edit_commands.specs.Editing.{RepliesToWords}
use Rattle.command_family.proofs.ReplyLemmas.{told, on_ok_if, always}
use Rattle.edit_commands.proofs.EditLemmas.{unread}
use Rattle.edit_commands.proofs.editing.edit.Goals as goal

pub change-requires-clause-named : goal.change-requires-clause-named
change-requires-clause-named c = (new-parts (map (λ word. word.now) c.args.words.now) c.in-Edits.edit c.in-Edits.ensures.asked).0

pub change-requires-clause-near : goal.change-requires-clause-near
change-requires-clause-near c = (new-parts (map (λ word. word.now) c.args.words.now) c.in-Edits.edit c.in-Edits.ensures.asked).1

pub returns-in-Edits-clause-answered : goal.returns-in-Edits-clause-answered
returns-in-Edits-clause-answered c =
    subst (λ (asks : EditAsks). OnOk c.change.result (RepliesToWords asks c.args.env.now c.change.new.reply.items c.change.new.env)) (sym c.in-Edits.ensures.asked) c.change.ensures.answered

pub returns-in-Edits-clause-unfinished : goal.returns-in-Edits-clause-unfinished
returns-in-Edits-clause-unfinished c =
    subst (λ (asks : EditAsks). OnErr c.change.result (RepliesToWords asks c.args.env.now memory_text c.change.new.env)) (sym c.in-Edits.ensures.asked) c.change.ensures.unfinished

pub returns-in-Misused-clause-answered : goal.returns-in-Misused-clause-answered
returns-in-Misused-clause-answered c =
    let reply = c.extend_from_slice.new.self.items in
    told c.extend_from_slice.result c.args.reply.now.items reply arguments_text c.extend_from_slice.ensures.items c.requires.empty
    (λ e. subst (λ (asks : EditAsks). RepliesToWords asks c.args.env.now reply c.args.env.now) (sym c.in-Misused.ensures.asked) (record { unchanged = refl; answer = inl e }))

pub returns-in-Misused-clause-unfinished : goal.returns-in-Misused-clause-unfinished
returns-in-Misused-clause-unfinished c = always c.extend_from_slice.result (unread (edit_asks (map (λ word. word.now) c.args.words.now)) c.args.env.now)

pub returns-in-NoNumber-clause-answered : goal.returns-in-NoNumber-clause-answered
returns-in-NoNumber-clause-answered c =
    let reply = c.write_no_number.new.reply.items in
    let text = number_text c.in-NoNumber.word.now in
    on_ok_if c.write_no_number.result
    (λ e. subst (λ (asks : EditAsks). RepliesToWords asks c.args.env.now reply c.args.env.now) (sym c.in-NoNumber.ensures.asked) (record { unchanged = refl; answer = inl (e ∙ ap (λ t. t ++ text) c.requires.empty) }))
    c.write_no_number.ensures

pub returns-in-NoNumber-clause-unfinished : goal.returns-in-NoNumber-clause-unfinished
returns-in-NoNumber-clause-unfinished c = always c.write_no_number.result (unread (edit_asks (map (λ word. word.now) c.args.words.now)) c.args.env.now)

pub returns-in-Memory-clause-answered : goal.returns-in-Memory-clause-answered
returns-in-Memory-clause-answered c =
    let reply = c.extend_from_slice-in-Memory.new.self.items in
    told c.extend_from_slice-in-Memory.result c.args.reply.now.items reply memory_text c.extend_from_slice-in-Memory.ensures.items c.requires.empty
    (λ e. subst (λ t. RepliesToWords (edit_asks (map (λ word. word.now) c.args.words.now)) c.args.env.now t c.args.env.now) (sym e) (unread (edit_asks (map (λ word. word.now) c.args.words.now)) c.args.env.now))

pub returns-in-Memory-clause-unfinished : goal.returns-in-Memory-clause-unfinished
returns-in-Memory-clause-unfinished c = always c.extend_from_slice-in-Memory.result (unread (edit_asks (map (λ word. word.now) c.args.words.now)) c.args.env.now)
