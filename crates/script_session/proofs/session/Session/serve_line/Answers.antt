use Rattle.std.proofs.Common.{◌≡◌, ℕ, List, refl, subst, true, false, arith}
use Rattle.std.proofs.lemmas.Bool.Decides.{nat_tests}
use Rattle.script_session.specs.Request.{RequestStep}
use Rattle.text_lines.specs.Lines.{Line}
use Rattle.script_session.specs.Script.{is_long_line, text_requests, is_end_text}
use Rattle.script_session.specs.private.Session.{moment_of, ServesAll}
use Rattle.script_session.specs.declared.session.Session.{Session}
use Rattle.script_session.proofs.SessionLemmas.{Serves-overlong, Breaks-overlong}
use Rattle.script_session.proofs.PieceLemmas.{long_broken, short_line, long_line}
use Rattle.script_session.proofs.session.Session.serve_line.Goals as goal

pub returns-in_default-clause-served : goal.returns-in_default-clause-served
returns-in_default-clause-served g c =
    let written = g.W.Sink.written in
    let files = g.S.Store.files in
    let faults = g.S.Store.faults in
    let line : Line = record { bytes = c.args.bytes.now; ended = c.args.ended } in
    let long : is_long_line line ≡ true = grind (arith, nat_tests) in
    let old = moment_of c.args.self.now c.args.machine.now (written c.args.out.now) (files c.args.store.now) (faults c.args.store.now) in
    let refused : Session = record c.args.self.now { refused = true } in
    let new = moment_of refused c.args.machine.now (written c.write_all.new.out) (files c.args.store.now) (faults c.args.store.now) in
    long_broken g.M.Machine.ends (RequestStep g.M.Machine.step) old new line long (Breaks-overlong g.M.Machine.step old new refl c.in_default.ensures.err)

pub returns-then-is_long-clause-served : goal.returns-then-is_long-clause-served
returns-then-is_long-clause-served g c =
    let written = g.W.Sink.written in
    let files = g.S.Store.files in
    let faults = g.S.Store.faults in
    let line : Line = record { bytes = c.args.bytes.now; ended = c.args.ended } in
    let long : is_long_line line ≡ true = grind (arith, nat_tests) in
    let old = moment_of c.args.self.now c.args.machine.now (written c.args.out.now) (files c.args.store.now) (faults c.args.store.now) in
    let refused : Session = record c.args.self.now { refused = true } in
    let new = moment_of refused c.args.machine.now (written c.write_all.new.out) (files c.args.store.now) (faults c.args.store.now) in
    long_line g.M.Machine.ends (RequestStep g.M.Machine.step) old new line long (Serves-overlong g.M.Machine.step old new refl c.in-Ok.ensures.ok refl refl)

pub returns-clause-served : goal.returns-clause-served
returns-clause-served g c =
    let written = g.W.Sink.written in
    let files = g.S.Store.files in
    let faults = g.S.Store.faults in
    let line : Line = record { bytes = c.args.bytes.now; ended = c.args.ended } in
    let short : is_long_line line ≡ false = grind (arith, nat_tests) in
    let old = moment_of c.args.self.now c.args.machine.now (written c.args.out.now) (files c.args.store.now) (faults c.args.store.now) in
    let new = moment_of c.serve_text.new.self c.serve_text.new.machine (written c.serve_text.new.out) (files c.serve_text.new.store) (faults c.serve_text.new.store) in
    short_line g.M.Machine.ends (RequestStep g.M.Machine.step) c.serve_text.result old new line short
    (subst (λ (text : List ℕ). ServesAll (RequestStep g.M.Machine.step) c.serve_text.result old (text_requests text) (is_end_text g.M.Machine.ends text) new) c.line_text-text.ensures c.serve_text.ensures.served)
