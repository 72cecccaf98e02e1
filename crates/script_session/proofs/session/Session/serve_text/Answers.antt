use Rattle.std.proofs.Common.{◌≡◌, ◌<◌, ℕ, List, [], ◌∷◌, map, length, Bor, sym, ◌∙◌, ap, subst, arith}
use Rattle.std.specs.Prelude.{if◌then◌else◌}
use Rattle.script_session.specs.Request.{RequestStep, Words}
use Rattle.script_session.specs.Script.{text_requests}
use Rattle.script_session.specs.private.Session.{moment_of, Serves, ServesAll}
use Rattle.script_session.specs.declared.session.Flow.TheVariants.{Open, Ended}
use Rattle.script_session.proofs.SessionLemmas.{Serves-none, Wants-none}
use Rattle.script_session.proofs.ScriptLemmas.{comment-silent, wordless-silent, spoken, spoken-requests, silent-requests, silent-end, spoken-end}
use Rattle.script_session.proofs.session.Session.serve_text.Goals as goal

pub returns-then-is_comment_line-clause-served : goal.returns-then-is_comment_line-clause-served
returns-then-is_comment_line-clause-served g c =
    let text = c.args.text.now in
    let silent = comment-silent text (sym c.is_comment_line.ensures ∙ c.if-is_comment_line.true) in
    let old = moment_of c.args.self.now c.args.machine.now (g.W.Sink.written c.args.out.now) (g.S.Store.files c.args.store.now) (g.S.Store.faults c.args.store.now) in (
      subst (λ requests. Serves (RequestStep g.M.Machine.step) old requests old) (sym (silent-requests text silent)) (Serves-none (RequestStep g.M.Machine.step) old),
      ap (λ b. if b then Ended else Open) (sym (silent-end g.M.Machine.ends text silent)),
    )

pub returns-in_default-clause-served : goal.returns-in_default-clause-served
returns-in_default-clause-served g c =
    let old = moment_of c.args.self.now c.args.machine.now (g.W.Sink.written c.args.out.now) (g.S.Store.files c.args.store.now) (g.S.Store.faults c.args.store.now) in
    Wants-none (RequestStep g.M.Machine.step) old (text_requests c.args.text.now)

pub returns-then-is_empty-clause-served : goal.returns-then-is_empty-clause-served
returns-then-is_empty-clause-served g c =
    let text = c.args.text.now in
    let none : length c.in-Ok.words.items ≡ 0 = grind arith in
    let silent = wordless-silent text c.in-Ok.words.items c.in-Ok.ensures none in
    let old = moment_of c.args.self.now c.args.machine.now (g.W.Sink.written c.args.out.now) (g.S.Store.files c.args.store.now) (g.S.Store.faults c.args.store.now) in (
      subst (λ requests. Serves (RequestStep g.M.Machine.step) old requests old) (sym (silent-requests text silent)) (Serves-none (RequestStep g.M.Machine.step) old),
      ap (λ b. if b then Ended else Open) (sym (silent-end g.M.Machine.ends text silent)),
    )

pub returns-clause-served : goal.returns-clause-served
returns-clause-served g c =
    let written = g.W.Sink.written in
    let files = g.S.Store.files in
    let faults = g.S.Store.faults in
    let ends = g.M.Machine.ends in
    let old = moment_of c.args.self.now c.args.machine.now (written c.args.out.now) (files c.args.store.now) (faults c.args.store.now) in
    let new = moment_of c.serve_words-flow.new.self c.serve_words-flow.new.machine (written c.serve_words-flow.new.out) (files c.serve_words-flow.new.store) (faults c.serve_words-flow.new.store) in
    let text = c.args.text.now in
    let words = c.in-Ok.words.items in
    let some : 0 < length words = grind arith in
    let speaks = spoken text words (sym c.is_comment_line.ensures ∙ c.if-is_comment_line.false) c.in-Ok.ensures some in
    let asked = spoken-requests text (map (λ word. word.now) words) speaks c.in-Ok.ensures in
    let last = spoken-end ends text (map (λ word. word.now) words) speaks c.in-Ok.ensures in
    let requests = ap (λ (words : List (Bor (List ℕ))). Words (map (λ word. word.now) words) ∷ []) c.deref.ensures.value ∙ sym asked in
    let ending = ap (λ (words : List (Bor (List ℕ))). ends (map (λ word. word.now) words)) c.deref.ensures.value ∙ sym last in
    subst (λ P. P) (λ i. ServesAll (RequestStep g.M.Machine.step) c.serve_words-flow.result old (requests i) (ending i) new) c.serve_words-flow.ensures.served
