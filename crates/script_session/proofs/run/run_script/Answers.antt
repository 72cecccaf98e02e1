use Rattle.std.proofs.Common.{sym, ap}
use Rattle.script_session.specs.Request.{RequestStep}
use Rattle.script_session.specs.private.Session.{moment_of}
use Rattle.script_session.proofs.RunLemmas.{run_ended, run_stopped, stop_status}
use Rattle.script_session.proofs.run.run_script.Goals as goal

pub returns-in-Ok-clause-ran : goal.returns-in-Ok-clause-ran
returns-in-Ok-clause-ran g c =
    let left = g.R.Source.left in
    let handed = g.R.Source.handed in
    let written = g.W.Sink.written in
    let files = g.S.Store.files in
    let faults = g.S.Store.faults in
    let old = moment_of c.new-session.result c.args.machine.now (written c.args.out.now) (files c.args.store.now) (faults c.args.store.now) in
    let new = moment_of c.read_script.new.self c.read_script.new.machine (written c.read_script.new.out) (files c.read_script.new.store) (faults c.read_script.new.store) in
    run_ended g.M.Machine.ends (RequestStep g.M.Machine.step) (left c.args.script.now) (left c.read_script.new.script) (handed c.args.script.now) (handed c.read_script.new.script) (g.R.Source.faults c.args.script.now) (g.R.Source.faults c.read_script.new.script) (g.W.Sink.faults c.args.out.now) (g.W.Sink.faults c.read_script.new.out) old new c.status.result
    c.in-Ok.ensures.served c.new-session.ensures.wanted c.new-session.ensures.refused c.status.ensures c.read_script.ensures.source_later c.read_script.ensures.sink_later

pub returns-in-Err-Source-clause-ran : goal.returns-in-Err-Source-clause-ran
returns-in-Err-Source-clause-ran g c =
    let left = g.R.Source.left in
    let handed = g.R.Source.handed in
    let written = g.W.Sink.written in
    let files = g.S.Store.files in
    let faults = g.S.Store.faults in
    let old = moment_of c.new-session.result c.args.machine.now (written c.args.out.now) (files c.args.store.now) (faults c.args.store.now) in
    let new = moment_of c.read_script.new.self c.read_script.new.machine (written c.read_script.new.out) (files c.read_script.new.store) (faults c.read_script.new.store) in
    run_stopped g.M.Machine.ends (RequestStep g.M.Machine.step) c.in-Err-Source.field-0 (left c.args.script.now) (left c.read_script.new.script) (handed c.args.script.now) (handed c.read_script.new.script) (g.R.Source.faults c.args.script.now) (g.R.Source.faults c.read_script.new.script) (g.W.Sink.faults c.args.out.now) (g.W.Sink.faults c.read_script.new.out) old new 3
    c.in-Err-Source.ensures.served c.in-Err-Source.ensures.source_cause c.in-Err-Source.ensures.sink_cause (sym (ap stop_status c.in-Err-Source.field-0-is)) c.read_script.ensures.source_later c.read_script.ensures.sink_later

pub returns-in-Err-Sink-clause-ran : goal.returns-in-Err-Sink-clause-ran
returns-in-Err-Sink-clause-ran g c =
    let left = g.R.Source.left in
    let handed = g.R.Source.handed in
    let written = g.W.Sink.written in
    let files = g.S.Store.files in
    let faults = g.S.Store.faults in
    let old = moment_of c.new-session.result c.args.machine.now (written c.args.out.now) (files c.args.store.now) (faults c.args.store.now) in
    let new = moment_of c.read_script.new.self c.read_script.new.machine (written c.read_script.new.out) (files c.read_script.new.store) (faults c.read_script.new.store) in
    run_stopped g.M.Machine.ends (RequestStep g.M.Machine.step) c.in-Err-Sink.field-0 (left c.args.script.now) (left c.read_script.new.script) (handed c.args.script.now) (handed c.read_script.new.script) (g.R.Source.faults c.args.script.now) (g.R.Source.faults c.read_script.new.script) (g.W.Sink.faults c.args.out.now) (g.W.Sink.faults c.read_script.new.out) old new 4
    c.in-Err-Sink.ensures.served c.in-Err-Sink.ensures.source_cause c.in-Err-Sink.ensures.sink_cause (sym (ap stop_status c.in-Err-Sink.field-0-is)) c.read_script.ensures.source_later c.read_script.ensures.sink_later

pub returns-in-Err-Memory-clause-ran : goal.returns-in-Err-Memory-clause-ran
returns-in-Err-Memory-clause-ran g c =
    let left = g.R.Source.left in
    let handed = g.R.Source.handed in
    let written = g.W.Sink.written in
    let files = g.S.Store.files in
    let faults = g.S.Store.faults in
    let old = moment_of c.new-session.result c.args.machine.now (written c.args.out.now) (files c.args.store.now) (faults c.args.store.now) in
    let new = moment_of c.read_script.new.self c.read_script.new.machine (written c.read_script.new.out) (files c.read_script.new.store) (faults c.read_script.new.store) in
    run_stopped g.M.Machine.ends (RequestStep g.M.Machine.step) c.in-Err-Memory.field-0 (left c.args.script.now) (left c.read_script.new.script) (handed c.args.script.now) (handed c.read_script.new.script) (g.R.Source.faults c.args.script.now) (g.R.Source.faults c.read_script.new.script) (g.W.Sink.faults c.args.out.now) (g.W.Sink.faults c.read_script.new.out) old new 5
    c.in-Err-Memory.ensures.served c.in-Err-Memory.ensures.source_cause c.in-Err-Memory.ensures.sink_cause (sym (ap stop_status c.in-Err-Memory.field-0-is)) c.read_script.ensures.source_later c.read_script.ensures.sink_later

pub returns-clause-ran : goal.returns-clause-ran
returns-clause-ran g c =
    let left = g.R.Source.left in
    let handed = g.R.Source.handed in
    let written = g.W.Sink.written in
    let files = g.S.Store.files in
    let faults = g.S.Store.faults in
    let old = moment_of c.new-session.result c.args.machine.now (written c.args.out.now) (files c.args.store.now) (faults c.args.store.now) in
    let new = moment_of c.read_script.new.self c.read_script.new.machine (written c.read_script.new.out) (files c.read_script.new.store) (faults c.read_script.new.store) in
    run_stopped g.M.Machine.ends (RequestStep g.M.Machine.step) c.in-Err-TooLong.field-0 (left c.args.script.now) (left c.read_script.new.script) (handed c.args.script.now) (handed c.read_script.new.script) (g.R.Source.faults c.args.script.now) (g.R.Source.faults c.read_script.new.script) (g.W.Sink.faults c.args.out.now) (g.W.Sink.faults c.read_script.new.out) old new 6
    c.in-Err-TooLong.ensures.served c.in-Err-TooLong.ensures.source_cause c.in-Err-TooLong.ensures.sink_cause (sym (ap stop_status c.in-Err-TooLong.field-0-is)) c.read_script.ensures.source_later c.read_script.ensures.sink_later
