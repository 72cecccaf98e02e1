use Rattle.std.proofs.Common.{◌≤◌, ◌++◌, length}
use Rattle.script_session.specs.Request.{RequestStep}
use Rattle.text_lines.specs.Lines.{HasNoNewline}
use Rattle.script_session.specs.private.Session.{moment_of}
use Rattle.script_session.proofs.PieceLemmas.{Stands}
use Rattle.script_session.proofs.session.Session.feed.Given as goal

abbrev pub invariant-loop-line : goal.invariant-loop-line
invariant-loop-line g l =
    let written = g.W.Sink.written in
    let files = g.S.Store.files in
    let faults = g.S.Store.faults in
    record {
      stands : Stands g.M.Machine.ends (RequestStep g.M.Machine.step) (moment_of l.fn.self l.fn.machine (written l.fn.out) (files l.fn.store) (faults l.fn.store)) (l.fn.pending.items ++ l.fn.piece)
          (moment_of l.self l.machine (written l.out) (files l.store) (faults l.store)) (l.pending.items ++ l.rest);
      clean : HasNoNewline l.pending.items;
      later : g.W.Sink.faults l.fn.out ≤ g.W.Sink.faults l.out;
      store_later : faults l.fn.store ≤ faults l.store;
    }

abbrev pub decreases-loop-line : goal.decreases-loop-line
decreases-loop-line g l = length l.rest
