use Rattle.std.specs.Io.KnownBytes.{Appends}
use Rattle.std.proofs.Common.{refl, subst}
use Rattle.script_session.specs.Output.{WritesFront}
use Rattle.command_files.specs.Checking.{CutOff, Whole}
use Rattle.bench_replies.proofs.printing.run_bench.Goals as goal

pub returns-in-Ok-write_all-clause-printed : goal.returns-in-Ok-write_all-clause-printed
returns-in-Ok-write_all-clause-printed g c =
    let written = g.W.Sink.written in
    Whole c.in-Ok.text.items c.in-Ok.ensures (subst (λ bytes. Appends (written c.args.out.now) (written c.write_all.new.out) bytes) c.deref.ensures.value c.in-Ok-write_all.ensures.ok) refl

pub returns-clause-printed : goal.returns-clause-printed
returns-clause-printed g c =
    let written = g.W.Sink.written in
    CutOff c.in-Ok.text.items c.in-Ok.ensures (subst (λ bytes. WritesFront (written c.args.out.now) (written c.write_all.new.out) bytes) c.deref.ensures.value c.in-Err.ensures.err) c.in-Err.ensures.failed refl
