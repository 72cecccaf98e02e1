use Rattle.std.proofs.Common.{ℕ, List, refl, ◌∙◌, ap, subst, inl, inr}
use Rattle.std.specs.Io.KnownBytes.{Appends}
use Rattle.script_session.specs.Output.{WritesFront}
use Rattle.script_session.specs.Reply.{wants_memory}
use Rattle.command_files.specs.Checking.{is_accepted, check_status}
use Rattle.command_files.specs.Checking.{Whole, CutOff, MemoryWanted}
use Rattle.command_files.proofs.CheckLemmas.{known-status}
use Rattle.command_files.proofs.printing.run_check.Goals as goal

pub returns-in-Ok-write_all-clause-printed : goal.returns-in-Ok-write_all-clause-printed
returns-in-Ok-write_all-clause-printed g c =
    let written = g.W.Sink.written in
    let sent = subst (λ (bytes : List ℕ). Appends (written c.args.out.now) (written c.write_all.new.out) bytes) c.deref.ensures.value c.in-Ok-write_all.ensures.ok in
    Whole c.in-Ok.reply.items c.in-Ok.ensures.answer sent (c.status_of_check.ensures ∙ ap check_status c.deref-in-Ok-write_all.ensures.value)

pub returns-clause-printed : goal.returns-clause-printed
returns-clause-printed g c =
    let written = g.W.Sink.written in
    let sent = subst (λ (bytes : List ℕ). WritesFront (written c.args.out.now) (written c.write_all.new.out) bytes) c.deref.ensures.value c.in-Err.ensures.err in
    CutOff c.in-Ok.reply.items c.in-Ok.ensures.answer sent c.in-Err.ensures.failed refl

pub returns-in-Ok-write_all-clause-known : goal.returns-in-Ok-write_all-clause-known
returns-in-Ok-write_all-clause-known g c =
    let bytes = c.deref-in-Ok-write_all.result.now in
    known-status (wants_memory bytes) (is_accepted bytes) c.status_of_check.result c.status_of_check.ensures

pub returns-clause-known : goal.returns-clause-known
returns-clause-known g c = inr (inl refl)

pub returns-in-Ok-write_all-clause-files : goal.returns-in-Ok-write_all-clause-files
returns-in-Ok-write_all-clause-files g c = c.check_text.ensures.kept

pub returns-in-Ok-write_all-clause-sink_later : goal.returns-in-Ok-write_all-clause-sink_later
returns-in-Ok-write_all-clause-sink_later g c = c.write_all.ensures.later

pub returns-in-Ok-write_all-clause-store_later : goal.returns-in-Ok-write_all-clause-store_later
returns-in-Ok-write_all-clause-store_later g c = c.check_text.ensures.later

pub returns-clause-files : goal.returns-clause-files
returns-clause-files g c = c.check_text.ensures.kept

pub returns-clause-sink_later : goal.returns-clause-sink_later
returns-clause-sink_later g c = c.write_all.ensures.later

pub returns-clause-store_later : goal.returns-clause-store_later
returns-clause-store_later g c = c.check_text.ensures.later

pub returns-in_default-clause-known : goal.returns-in_default-clause-known
returns-in_default-clause-known g c = inr (inr refl)

pub returns-in_default-clause-printed : goal.returns-in_default-clause-printed
returns-in_default-clause-printed g c = MemoryWanted refl refl

pub returns-in_default-clause-files : goal.returns-in_default-clause-files
returns-in_default-clause-files g c = c.check_text.ensures.kept

pub returns-in_default-clause-store_later : goal.returns-in_default-clause-store_later
returns-in_default-clause-store_later g c = c.check_text.ensures.later
