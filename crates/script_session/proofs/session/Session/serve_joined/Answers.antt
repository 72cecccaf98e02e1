use Rattle.std.proofs.Common.{◌≡◌, ◌++◌, refl, ◌∙◌}
use Rattle.std.specs.Prelude.{Ok, Err}
use Rattle.text_lines.specs.Lines.{ended_line}
use Rattle.script_session.specs.Request.{RequestStep}
use Rattle.script_session.specs.Script.{line_requests}
use Rattle.script_session.specs.private.Session.{moment_of}
use Rattle.script_session.proofs.SessionLemmas.{Wants-none}
use Rattle.script_session.proofs.PieceLemmas.{served_line}
use Rattle.script_session.proofs.session.Session.serve_joined.Goals as goal

pub returns-in_default-clause-served : goal.returns-in_default-clause-served
returns-in_default-clause-served g c =
    let old = moment_of c.args.self.now c.args.machine.now (g.W.Sink.written c.args.out.now) (g.S.Store.files c.args.store.now) (g.S.Store.faults c.args.store.now) in
    Wants-none (RequestStep g.M.Machine.step) old (line_requests (ended_line (c.args.pending.now.items ++ c.args.end.now)))

pub returns-in-Ok-serve_line-clause-served : goal.returns-in-Ok-serve_line-clause-served
returns-in-Ok-serve_line-clause-served g c =
    let written = g.W.Sink.written in
    let files = g.S.Store.files in
    let faults = g.S.Store.faults in
    let old = moment_of c.args.self.now c.args.machine.now (written c.args.out.now) (files c.args.store.now) (faults c.args.store.now) in
    let new = moment_of c.serve_line.new.self c.serve_line.new.machine (written c.serve_line.new.out) (files c.serve_line.new.store) (faults c.serve_line.new.store) in
    let whole = c.args.pending.now.items ++ c.args.end.now in
    let all : c.deref.result.now ≡ whole = c.deref.ensures.value ∙ c.in-Ok.ensures.items in
    served_line g.M.Machine.ends (RequestStep g.M.Machine.step) (Ok c.in-Ok-serve_line.flow) (Ok c.in-Ok-serve_line.flow) old new c.deref.result.now whole refl all c.in-Ok-serve_line.ensures.served

pub returns-in-Err-clause-served : goal.returns-in-Err-clause-served
returns-in-Err-clause-served g c =
    let written = g.W.Sink.written in
    let files = g.S.Store.files in
    let faults = g.S.Store.faults in
    let old = moment_of c.args.self.now c.args.machine.now (written c.args.out.now) (files c.args.store.now) (faults c.args.store.now) in
    let new = moment_of c.serve_line.new.self c.serve_line.new.machine (written c.serve_line.new.out) (files c.serve_line.new.store) (faults c.serve_line.new.store) in
    let whole = c.args.pending.now.items ++ c.args.end.now in
    let all : c.deref.result.now ≡ whole = c.deref.ensures.value ∙ c.in-Ok.ensures.items in
    served_line g.M.Machine.ends (RequestStep g.M.Machine.step) (Err c.in-Err.stop) (Err c.in-Err.stop) old new c.deref.result.now whole refl all c.in-Err.ensures.served
