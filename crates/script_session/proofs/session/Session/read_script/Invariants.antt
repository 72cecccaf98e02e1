use Rattle.std.proofs.Common.{◌≤◌, ◌-◌}
use Rattle.script_session.specs.Request.{RequestStep}
use Rattle.script_session.specs.private.Session.{moment_of}
use Rattle.script_session.specs.Limits.{script_limit}
use Rattle.script_session.proofs.ReadLemmas.{ReadsOn}
use Rattle.script_session.proofs.session.Session.read_script.Given as goal

abbrev pub invariant-loop-count : goal.invariant-loop-count
invariant-loop-count g l =
    let written = g.W.Sink.written in
    let files = g.S.Store.files in
    let faults = g.S.Store.faults in
    record {
      reads : ReadsOn g.M.Machine.ends (RequestStep g.M.Machine.step) (g.R.Source.left l.fn.script) (g.R.Source.left l.script)
          (moment_of l.fn.self l.fn.machine (written l.fn.out) (files l.fn.store) (faults l.fn.store))
          (moment_of l.self l.machine (written l.out) (files l.store) (faults l.store)) l.taken l.pending.items;
      limit : l.taken ≤ script_limit;
      source_later : g.R.Source.faults l.fn.script ≤ g.R.Source.faults l.script;
      sink_later : g.W.Sink.faults l.fn.out ≤ g.W.Sink.faults l.out;
      store_later : faults l.fn.store ≤ faults l.store;
    }

abbrev pub decreases-loop-count : goal.decreases-loop-count
decreases-loop-count g l = script_limit - l.taken
