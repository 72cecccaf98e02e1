use Rattle.std.proofs.Common.{◌<◌, length, arith}
use Rattle.script_session.specs.Request.{RequestStep}
use Rattle.script_session.specs.private.Session.{moment_of}
use Rattle.script_session.proofs.ReadLemmas.{rest_failed, rest_done, rest_none}
use Rattle.script_session.proofs.session.Session.serve_rest.Goals as goal

pub returns-then-is_empty-clause-served : goal.returns-then-is_empty-clause-served
returns-then-is_empty-clause-served g c =
    let old = moment_of c.args.self.now c.args.machine.now (g.W.Sink.written c.args.out.now) (g.S.Store.files c.args.store.now) (g.S.Store.faults c.args.store.now) in
    rest_none g.M.Machine.ends (RequestStep g.M.Machine.step) old c.args.pending.now (grind arith)

pub returns-in-Err-clause-served : goal.returns-in-Err-clause-served
returns-in-Err-clause-served g c =
    let some : 0 < length c.args.pending.now = grind arith in
    let old = moment_of c.args.self.now c.args.machine.now (g.W.Sink.written c.args.out.now) (g.S.Store.files c.args.store.now) (g.S.Store.faults c.args.store.now) in
    let new = moment_of c.serve_line.new.self c.serve_line.new.machine (g.W.Sink.written c.serve_line.new.out) (g.S.Store.files c.serve_line.new.store) (g.S.Store.faults c.serve_line.new.store) in
    rest_failed g.M.Machine.ends (RequestStep g.M.Machine.step) c.in-Err.stop old new c.args.pending.now c.requires some c.in-Err.ensures.served

pub returns-in-Ok-clause-served : goal.returns-in-Ok-clause-served
returns-in-Ok-clause-served g c =
    let some : 0 < length c.args.pending.now = grind arith in
    let old = moment_of c.args.self.now c.args.machine.now (g.W.Sink.written c.args.out.now) (g.S.Store.files c.args.store.now) (g.S.Store.faults c.args.store.now) in
    let new = moment_of c.serve_line.new.self c.serve_line.new.machine (g.W.Sink.written c.serve_line.new.out) (g.S.Store.files c.serve_line.new.store) (g.S.Store.faults c.serve_line.new.store) in
    rest_done g.M.Machine.ends (RequestStep g.M.Machine.step) old new c.args.pending.now c.requires some c.in-Ok.ensures.served.0
