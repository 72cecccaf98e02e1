use Rattle.std.specs.Prelude.{ℕ, List, map, OnOk, OnErr}
use Rattle.std.proofs.Common.{subst}
use Rattle.kept_env.specs.Env.{PlainEnv}
use Rattle.command_words.specs.Asks.{asks_shown}
use Rattle.command_family.specs.State.{shell_state}
use Rattle.script_session.specs.Stand.{stand}
use Rattle.sym_shell.specs.Shell.{ShellStep}
use Rattle.sym_shell.specs.Step.{AnswersTo}
use Rattle.sym_shell.proofs.StepLemmas.{step_of, answered-later, when-whole, when-broken}
use Rattle.sym_shell.proofs.shell.ShellMachine.answer.Goals as goal

pub returns-clause-answered : goal.returns-clause-answered
returns-clause-answered g c =
    let files = g.S.Store.files c.args.store.now in
    let faults = g.S.Store.faults c.args.store.now in
    let words = map (λ word. word.now) c.args.words.now in
    let files' = g.S.Store.files c.answer_asked-told.new.store in
    let faults' = g.S.Store.faults c.answer_asked-told.new.store in
    let asks = asks_shown c.read_words-asked.result in
    let env = c.answer_asked-told.new.env in
    let reply = c.answer_asked-told.new.reply.items in
    let old = shell_state c.self.inside.env files faults in
    let new = shell_state env files' faults' in
    let A : List ℕ → Type 0 = λ x. AnswersTo asks old x new in
    let B : List ℕ → Type 0 = λ x. ShellStep (stand c.self.inside.env files faults) words x (stand env files' faults') in
    let each : (x : List ℕ) → A x → B x = λ x h. record { step = step_of words asks old new x c.read_words-asked.ensures.asked h; sound = c.search-sound.ensures.sound; held = c.held-held.ensures.shown; script = c.answer_asked-told.ensures.script } in
    subst (λ (before : PlainEnv). OnOk c.answer_asked-told.result (ShellStep (stand before files faults) words reply (stand env files' faults'))) c.self.view_is
    (when-whole c.answer_asked-told.result A reply (each reply) c.answer_asked-told.ensures.answered)

pub returns-clause-unfinished : goal.returns-clause-unfinished
returns-clause-unfinished g c =
    let files = g.S.Store.files c.args.store.now in
    let faults = g.S.Store.faults c.args.store.now in
    let words = map (λ word. word.now) c.args.words.now in
    let files' = g.S.Store.files c.answer_asked-told.new.store in
    let faults' = g.S.Store.faults c.answer_asked-told.new.store in
    let asks = asks_shown c.read_words-asked.result in
    let env = c.answer_asked-told.new.env in
    let reply = c.answer_asked-told.new.reply.items in
    let old = shell_state c.self.inside.env files faults in
    let new = shell_state env files' faults' in
    let A : List ℕ → Type 0 = λ x. AnswersTo asks old x new in
    let B : List ℕ → Type 0 = λ x. ShellStep (stand c.self.inside.env files faults) words x (stand env files' faults') in
    let each : (x : List ℕ) → A x → B x = λ x h. record { step = step_of words asks old new x c.read_words-asked.ensures.asked h; sound = c.search-sound.ensures.sound; held = c.held-held.ensures.shown; script = c.answer_asked-told.ensures.script } in
    subst (λ (before : PlainEnv). OnErr c.answer_asked-told.result ((bytes : List ℕ) × ShellStep (stand before files faults) words bytes (stand env files' faults'))) c.self.view_is
    (when-broken c.answer_asked-told.result A B reply each c.answer_asked-told.ensures.answered)

pub returns-clause-store_later : goal.returns-clause-store_later
returns-clause-store_later g c =
    let old = shell_state c.self.inside.env (g.S.Store.files c.args.store.now) (g.S.Store.faults c.args.store.now) in
    let new = shell_state c.answer_asked-told.new.env (g.S.Store.files c.answer_asked-told.new.store) (g.S.Store.faults c.answer_asked-told.new.store) in
    answered-later c.answer_asked-told.result (asks_shown c.read_words-asked.result) old new c.answer_asked-told.new.reply.items c.answer_asked-told.ensures.answered
