use Rattle.std.proofs.Common.{ℕ, List, refl, map, subst, ◌∙◌, ap}
use Rattle.std.specs.Prelude.{Vec}
use Rattle.std.specs.declared.alloc.Global.{Global}
use Rattle.std.specs.Io.KnownBytes.{Appends}
use Rattle.script_session.specs.Request.{RequestStep, Words}
use Rattle.script_session.specs.Output.{WritesFront}
use Rattle.script_session.specs.private.Session.{moment_of}
use Rattle.script_session.proofs.SessionLemmas.{Serves-one, Breaks-one, Wants-one}
use Rattle.script_session.proofs.session.Session.serve_command.Goals as goal

pub returns-in_default-clause-served : goal.returns-in_default-clause-served
returns-in_default-clause-served g c =
    let written = g.W.Sink.written in
    let files = g.S.Store.files in
    let faults = g.S.Store.faults in
    let request = Words (map (λ word. word.now) c.args.words.now) in
    let old = moment_of c.args.self.now c.args.machine.now (written c.args.out.now) (files c.args.store.now) (faults c.args.store.now) in
    let new = moment_of c.args.self.now c.answer.new.self (written c.args.out.now) (files c.answer.new.store) (faults c.answer.new.store) in
    Wants-one (RequestStep g.M.Machine.step) old new request c.in_default.ensures.unfinished refl

pub returns-in_default-write_all-clause-served : goal.returns-in_default-write_all-clause-served
returns-in_default-write_all-clause-served g c =
    let written = g.W.Sink.written in
    let files = g.S.Store.files in
    let faults = g.S.Store.faults in
    let request = Words (map (λ word. word.now) c.args.words.now) in
    let old = moment_of c.args.self.now c.args.machine.now (written c.args.out.now) (files c.args.store.now) (faults c.args.store.now) in
    let new = moment_of c.note_reply.new.self c.answer.new.self (written c.write_all.new.out) (files c.answer.new.store) (faults c.answer.new.store) in
    let reply = c.answer.new.reply.items in
    let same = c.deref.ensures.value ∙ ap (λ (reply : Vec ℕ Global). reply.items) c.note_reply.ensures.reply in
    let sent = subst (λ (bytes : List ℕ). WritesFront old.written new.written bytes) same c.in_default-write_all.ensures.err in
    Breaks-one (RequestStep g.M.Machine.step) old new request reply c.in-Ok.ensures.answered sent

pub returns-clause-served : goal.returns-clause-served
returns-clause-served g c =
    let written = g.W.Sink.written in
    let files = g.S.Store.files in
    let faults = g.S.Store.faults in
    let request = Words (map (λ word. word.now) c.args.words.now) in
    let old = moment_of c.args.self.now c.args.machine.now (written c.args.out.now) (files c.args.store.now) (faults c.args.store.now) in
    let new = moment_of c.note_reply.new.self c.answer.new.self (written c.write_all.new.out) (files c.answer.new.store) (faults c.answer.new.store) in
    let reply = c.answer.new.reply.items in
    let same = c.deref.ensures.value ∙ ap (λ (reply : Vec ℕ Global). reply.items) c.note_reply.ensures.reply in
    let sent = subst (λ (bytes : List ℕ). Appends old.written new.written bytes) same c.in-Ok-write_all.ensures.ok in
    Serves-one (RequestStep g.M.Machine.step) old new request reply c.in-Ok.ensures.answered sent c.note_reply.ensures.wanted c.note_reply.ensures.refused
