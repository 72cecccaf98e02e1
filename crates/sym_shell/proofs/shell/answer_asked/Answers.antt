use Rattle.std.proofs.Common.{◌++◌, ◌∙◌, ap, subst, refl, inl, inr}
use Rattle.std.specs.Prelude.{map}
use Rattle.command_words.specs.Asks.{Load, Solve, Warm, McSolve, Edit, Trim, Save, Restore, Bound, Cert, Write, Quit, Unknown, Misused, NoNumber, IsAskable, asks_shown}
use Rattle.edit_words.specs.EditWords.{edit_asks, pairs_asks}
use Rattle.command_family.specs.State.{shell_state}
use Rattle.reply_texts.specs.Texts.{ok_text, unknown_text, arguments_text, number_text, memory_text}
use Rattle.command_family.proofs.ReplyLemmas.{told, on_ok, on_ok_if, always, on_err}
use Rattle.bound_commands.proofs.BoundLemmas.{pairs-untold}
use Rattle.search_replies.proofs.ReplyLemmas.{solve-step, warm-step}
use Rattle.front_commands.proofs.ReplyLemmas.{front-step}
use Rattle.sym_shell.specs.Step.{AnswersTo}
use Rattle.sym_shell.proofs.StepLemmas.{arm, would-be, edit-step, trim-step}
use Rattle.sym_shell.proofs.shell.answer_asked.Goals as goal

pub search_anew-requires-clause-workers : goal.search_anew-requires-clause-workers
search_anew-requires-clause-workers g c = (subst IsAskable (ap asks_shown c.in-Solve.is) c.requires.askable).0

pub search_anew-requires-clause-gap : goal.search_anew-requires-clause-gap
search_anew-requires-clause-gap g c = (subst IsAskable (ap asks_shown c.in-Solve.is) c.requires.askable).1

pub search_on-requires-clause-workers : goal.search_on-requires-clause-workers
search_on-requires-clause-workers g c = (subst IsAskable (ap asks_shown c.in-Warm.is) c.requires.askable).0

pub search_on-requires-clause-gap : goal.search_on-requires-clause-gap
search_on-requires-clause-gap g c = (subst IsAskable (ap asks_shown c.in-Warm.is) c.requires.askable).1

pub returns-in-Load-clause-answered : goal.returns-in-Load-clause-answered
returns-in-Load-clause-answered g c =
    let old = shell_state c.args.env.now (g.S.Store.files c.args.store.now) (g.S.Store.faults c.args.store.now) in
    let new = shell_state c.load.new.env (g.S.Store.files c.load.new.store) (g.S.Store.faults c.load.new.store) in
    let asks = Load c.in-Load.file.now c.in-Load.intupper in
    arm c.load.result asks (asks_shown c.args.asked.now) old new c.load.new.reply.items (ap asks_shown c.in-Load.is) c.load.ensures.answered
    (would-be c.load.result (λ x. AnswersTo asks old x new) memory_text c.load.ensures.unfinished)

pub returns-in-Save-clause-answered : goal.returns-in-Save-clause-answered
returns-in-Save-clause-answered g c =
    let old = shell_state c.args.env.now (g.S.Store.files c.args.store.now) (g.S.Store.faults c.args.store.now) in
    let new = shell_state c.args.env.now (g.S.Store.files c.save.new.store) (g.S.Store.faults c.save.new.store) in
    let asks = Save c.in-Save.file.now in
    arm c.save.result asks (asks_shown c.args.asked.now) old new c.save.new.reply.items (ap asks_shown c.in-Save.is) c.save.ensures.answered
    (would-be c.save.result (λ x. AnswersTo asks old x new) memory_text c.save.ensures.unfinished)

pub returns-in-Restore-clause-answered : goal.returns-in-Restore-clause-answered
returns-in-Restore-clause-answered g c =
    let old = shell_state c.args.env.now (g.S.Store.files c.args.store.now) (g.S.Store.faults c.args.store.now) in
    let new = shell_state c.restore.new.env (g.S.Store.files c.restore.new.store) (g.S.Store.faults c.restore.new.store) in
    let asks = Restore c.in-Restore.file.now in
    arm c.restore.result asks (asks_shown c.args.asked.now) old new c.restore.new.reply.items (ap asks_shown c.in-Restore.is) c.restore.ensures.answered
    (would-be c.restore.result (λ x. AnswersTo asks old x new) memory_text c.restore.ensures.unfinished)

pub returns-in-Write-clause-answered : goal.returns-in-Write-clause-answered
returns-in-Write-clause-answered g c =
    let old = shell_state c.args.env.now (g.S.Store.files c.args.store.now) (g.S.Store.faults c.args.store.now) in
    let new = shell_state c.args.env.now (g.S.Store.files c.write.new.store) (g.S.Store.faults c.write.new.store) in
    let asks = Write c.in-Write.file.now in
    arm c.write.result asks (asks_shown c.args.asked.now) old new c.write.new.reply.items (ap asks_shown c.in-Write.is) c.write.ensures.answered
    (would-be c.write.result (λ x. AnswersTo asks old x new) memory_text c.write.ensures.unfinished)

pub returns-in-Cert-clause-answered : goal.returns-in-Cert-clause-answered
returns-in-Cert-clause-answered g c =
    let old = shell_state c.args.env.now (g.S.Store.files c.args.store.now) (g.S.Store.faults c.args.store.now) in
    let new = shell_state c.args.env.now (g.S.Store.files c.cert.new.store) (g.S.Store.faults c.cert.new.store) in
    let asks = Cert c.in-Cert.file.now in
    arm c.cert.result asks (asks_shown c.args.asked.now) old new c.cert.new.reply.items (ap asks_shown c.in-Cert.is) c.cert.ensures.answered
    (would-be c.cert.result (λ x. AnswersTo asks old x new) memory_text c.cert.ensures.unfinished)

pub returns-in-Solve-clause-answered : goal.returns-in-Solve-clause-answered
returns-in-Solve-clause-answered g c =
    let files = g.S.Store.files c.args.store.now in
    let faults = g.S.Store.faults c.args.store.now in
    let old = shell_state c.args.env.now files faults in
    let new = shell_state c.search_anew.new.env files faults in
    let asks = Solve c.in-Solve.options in
    let step = solve-step c.args.env.now c.search_anew.new.env files faults c.in-Solve.options in
    arm c.search_anew.result asks (asks_shown c.args.asked.now) old new c.search_anew.new.reply.items (ap asks_shown c.in-Solve.is) (on_ok c.search_anew.result (step c.search_anew.new.reply.items) c.search_anew.ensures.answered)
    (on_err c.search_anew.result (λ h. (h.0, step h.0 h.1)) c.search_anew.ensures.unfinished)

pub returns-in-Warm-clause-answered : goal.returns-in-Warm-clause-answered
returns-in-Warm-clause-answered g c =
    let files = g.S.Store.files c.args.store.now in
    let faults = g.S.Store.faults c.args.store.now in
    let old = shell_state c.args.env.now files faults in
    let new = shell_state c.search_on.new.env files faults in
    let asks = Warm c.in-Warm.options in
    let step = warm-step c.args.env.now c.search_on.new.env files faults c.in-Warm.options in
    arm c.search_on.result asks (asks_shown c.args.asked.now) old new c.search_on.new.reply.items (ap asks_shown c.in-Warm.is) (on_ok c.search_on.result (step c.search_on.new.reply.items) c.search_on.ensures.answered)
    (on_err c.search_on.result (λ h. (h.0, step h.0 h.1)) c.search_on.ensures.unfinished)

pub returns-in-McSolve-clause-answered : goal.returns-in-McSolve-clause-answered
returns-in-McSolve-clause-answered g c =
    let files = g.S.Store.files c.args.store.now in
    let faults = g.S.Store.faults c.args.store.now in
    let old = shell_state c.args.env.now files faults in
    let new = shell_state c.look_for_front.new.env files faults in
    let asks = McSolve c.in-McSolve.nodes c.in-McSolve.pivots in
    let step = front-step c.args.env.now c.look_for_front.new.env files faults c.in-McSolve.nodes c.in-McSolve.pivots in
    arm c.look_for_front.result asks (asks_shown c.args.asked.now) old new c.look_for_front.new.reply.items (ap asks_shown c.in-McSolve.is) (on_ok c.look_for_front.result (step c.look_for_front.new.reply.items) c.look_for_front.ensures.answered)
    (on_err c.look_for_front.result (λ h. (h.0, step h.0 h.1)) c.look_for_front.ensures.unfinished)

pub returns-in-Edit-clause-answered : goal.returns-in-Edit-clause-answered
returns-in-Edit-clause-answered g c =
    let files = g.S.Store.files c.args.store.now in
    let faults = g.S.Store.faults c.args.store.now in
    let old = shell_state c.args.env.now files faults in
    let new = shell_state c.edit.new.env files faults in
    let asks = Edit (map (λ word. word.now) c.in-Edit.words.now) in
    let step = edit-step c.args.env.now c.edit.new.env files faults (edit_asks (map (λ word. word.now) c.in-Edit.words.now)) in
    arm c.edit.result asks (asks_shown c.args.asked.now) old new c.edit.new.reply.items (ap asks_shown c.in-Edit.is) (on_ok c.edit.result (step c.edit.new.reply.items) c.edit.ensures.answered)
    (would-be c.edit.result (λ x. AnswersTo asks old x new) memory_text (on_err c.edit.result (step memory_text) c.edit.ensures.unfinished))

pub returns-in-Trim-clause-answered : goal.returns-in-Trim-clause-answered
returns-in-Trim-clause-answered g c =
    let files = g.S.Store.files c.args.store.now in
    let faults = g.S.Store.faults c.args.store.now in
    let old = shell_state c.args.env.now files faults in
    let new = shell_state c.trim.new.env files faults in
    let asks = Trim c.in-Trim.depth in
    let step = trim-step c.args.env.now c.trim.new.env files faults c.in-Trim.depth in
    arm c.trim.result asks (asks_shown c.args.asked.now) old new c.trim.new.reply.items (ap asks_shown c.in-Trim.is) (on_ok c.trim.result (step c.trim.new.reply.items) c.trim.ensures.answered)
    (would-be c.trim.result (λ x. AnswersTo asks old x new) memory_text (on_err c.trim.result (step memory_text) c.trim.ensures.unfinished))

pub returns-in-Bound-clause-answered : goal.returns-in-Bound-clause-answered
returns-in-Bound-clause-answered g c =
    let old = shell_state c.args.env.now (g.S.Store.files c.args.store.now) (g.S.Store.faults c.args.store.now) in
    arm c.bound.result (Bound c.in-Bound.which c.in-Bound.numbers (map (λ word. word.now) c.in-Bound.words.now)) (asks_shown c.args.asked.now) old old c.bound.new.reply.items (ap asks_shown c.in-Bound.is)
    (on_ok c.bound.result (λ h. record { unchanged = refl; answer = h }) c.bound.ensures)
    (always c.bound.result (memory_text, record { unchanged = refl; answer = pairs-untold c.in-Bound.which c.in-Bound.numbers (pairs_asks (map (λ word. word.now) c.in-Bound.words.now)) c.args.env.now }))

pub returns-in-Quit-clause-answered : goal.returns-in-Quit-clause-answered
returns-in-Quit-clause-answered g c =
    let old = shell_state c.args.env.now (g.S.Store.files c.args.store.now) (g.S.Store.faults c.args.store.now) in
    arm c.extend_from_slice.result (Quit) (asks_shown c.args.asked.now) old old c.extend_from_slice.new.self.items (ap asks_shown c.in-Quit.is)
    (told c.extend_from_slice.result c.args.reply.now.items c.extend_from_slice.new.self.items ok_text c.extend_from_slice.ensures.items c.requires.empty (λ e. record { unchanged = refl; answer = e }))
    (always c.extend_from_slice.result (ok_text, record { unchanged = refl; answer = refl }))

pub returns-in-Misused-clause-answered : goal.returns-in-Misused-clause-answered
returns-in-Misused-clause-answered g c =
    let old = shell_state c.args.env.now (g.S.Store.files c.args.store.now) (g.S.Store.faults c.args.store.now) in
    arm c.extend_from_slice-in-Misused.result (Misused) (asks_shown c.args.asked.now) old old c.extend_from_slice-in-Misused.new.self.items (ap asks_shown c.in-Misused.is)
    (told c.extend_from_slice-in-Misused.result c.args.reply.now.items c.extend_from_slice-in-Misused.new.self.items arguments_text c.extend_from_slice-in-Misused.ensures.items c.requires.empty (λ e. record { unchanged = refl; answer = inl e }))
    (always c.extend_from_slice-in-Misused.result (memory_text, record { unchanged = refl; answer = inr refl }))

pub returns-in-Unknown-clause-answered : goal.returns-in-Unknown-clause-answered
returns-in-Unknown-clause-answered g c =
    let old = shell_state c.args.env.now (g.S.Store.files c.args.store.now) (g.S.Store.faults c.args.store.now) in
    arm c.write_unknown.result (Unknown c.in-Unknown.word.now) (asks_shown c.args.asked.now) old old c.write_unknown.new.reply.items (ap asks_shown c.in-Unknown.is)
    (on_ok_if c.write_unknown.result (λ e. record { unchanged = refl; answer = inl (e ∙ ap (λ t. t ++ unknown_text c.in-Unknown.word.now) c.requires.empty) }) c.write_unknown.ensures)
    (always c.write_unknown.result (memory_text, record { unchanged = refl; answer = inr refl }))

pub returns-in-NoNumber-clause-answered : goal.returns-in-NoNumber-clause-answered
returns-in-NoNumber-clause-answered g c =
    let old = shell_state c.args.env.now (g.S.Store.files c.args.store.now) (g.S.Store.faults c.args.store.now) in
    arm c.write_no_number.result (NoNumber c.in-NoNumber.word.now) (asks_shown c.args.asked.now) old old c.write_no_number.new.reply.items (ap asks_shown c.in-NoNumber.is)
    (on_ok_if c.write_no_number.result (λ e. record { unchanged = refl; answer = inl (e ∙ ap (λ t. t ++ number_text c.in-NoNumber.word.now) c.requires.empty) }) c.write_no_number.ensures)
    (always c.write_no_number.result (memory_text, record { unchanged = refl; answer = inr refl }))

pub load-requires-clause-name : goal.load-requires-clause-name
load-requires-clause-name g c = subst IsAskable (ap asks_shown c.in-Load.is) c.requires.askable

pub save-requires-clause-name : goal.save-requires-clause-name
save-requires-clause-name g c = subst IsAskable (ap asks_shown c.in-Save.is) c.requires.askable

pub restore-requires-clause-name : goal.restore-requires-clause-name
restore-requires-clause-name g c = subst IsAskable (ap asks_shown c.in-Restore.is) c.requires.askable

pub cert-requires-clause-name : goal.cert-requires-clause-name
cert-requires-clause-name g c = subst IsAskable (ap asks_shown c.in-Cert.is) c.requires.askable

pub write-requires-clause-name : goal.write-requires-clause-name
write-requires-clause-name g c = subst IsAskable (ap asks_shown c.in-Write.is) c.requires.askable
