use Rattle.script_session.specs.Run.{outside}
use Rattle.sym_shell.proofs.RunLemmas.{script_run}
use Rattle.sym_shell.proofs.program.run_commands.Goals as goal

pub returns-clause-ran : goal.returns-clause-ran
returns-clause-ran g c =
    let left = g.R.Source.left in
    let handed = g.R.Source.handed in
    let written = g.W.Sink.written in
    let before = outside (left c.args.script.now) (handed c.args.script.now) (g.R.Source.faults c.args.script.now) (written c.args.out.now) (g.W.Sink.faults c.args.out.now) in
    let after = outside (left c.run_script-status.new.script) (handed c.run_script-status.new.script) (g.R.Source.faults c.run_script-status.new.script) (written c.run_script-status.new.out) (g.W.Sink.faults c.run_script-status.new.out) in
    script_run c.new-shell.result c.run_script-status.new.machine before after (g.S.Store.files c.args.store.now) (g.S.Store.files c.run_script-status.new.store) (g.S.Store.faults c.args.store.now) (g.S.Store.faults c.run_script-status.new.store) c.run_script-status.result c.new-shell.ensures
    c.run_script-status.ensures.ran

pub returns-clause-source_later : goal.returns-clause-source_later
returns-clause-source_later g c = c.run_script-status.ensures.ran.source_later

pub returns-clause-sink_later : goal.returns-clause-sink_later
returns-clause-sink_later g c = c.run_script-status.ensures.ran.sink_later
