use Rattle.std.proofs.Common.{◌∷◌, [], map, refl, sym, ◌∙◌, ap}
use Rattle.std.specs.Prelude.{if◌then◌else◌}
use Rattle.script_session.specs.Request.{RequestStep, Words}
use Rattle.script_session.specs.private.Session.{moment_of}
use Rattle.script_session.specs.declared.session.Flow.TheVariants.{Open, Ended}
use Rattle.script_session.proofs.PieceLemmas.{all_failed}
use Rattle.script_session.proofs.session.Session.serve_words.Goals as goal

pub returns-in-Err-clause-served : goal.returns-in-Err-clause-served
returns-in-Err-clause-served g c =
    let written = g.W.Sink.written in
    let files = g.S.Store.files in
    let faults = g.S.Store.faults in
    let old = moment_of c.args.self.now c.args.machine.now (written c.args.out.now) (files c.args.store.now) (faults c.args.store.now) in
    let new = moment_of c.serve_command.new.self c.serve_command.new.machine (written c.serve_command.new.out) (files c.serve_command.new.store) (faults c.serve_command.new.store) in
    let request = Words (map (λ word. word.now) c.args.words.now) in
    all_failed g.M.Machine.ends (RequestStep g.M.Machine.step) c.in-Err.stop old new (request ∷ []) _ request refl c.in-Err.ensures.served

pub returns-then-ends_script-clause-served : goal.returns-then-ends_script-clause-served
returns-then-ends_script-clause-served g c = (c.in-Ok.ensures.served, ap (λ b. if b then Ended else Open) (sym (sym c.ends_script.ensures ∙ c.if-ends_script.true)))

pub returns-else-ends_script-clause-served : goal.returns-else-ends_script-clause-served
returns-else-ends_script-clause-served g c = (c.in-Ok.ensures.served, ap (λ b. if b then Ended else Open) (sym (sym c.ends_script.ensures ∙ c.if-ends_script.false)))
