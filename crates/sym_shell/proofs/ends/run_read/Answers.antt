use Rattle.std.proofs.Common.{◌≡◌, ◌∙◌, ℕ, List, inl, inr, subst, sym}
use Rattle.std.specs.Prelude.{String}
use Rattle.std.specs.declared.alloc.Global.{Global}
use Rattle.std.proofs.lemmas.Result.{IfErr-weaker, IfOk-weaker}
use Rattle.std.specs.Vec.Iter.{into_iter_items}
use Rattle.script_session.specs.Run.{outside}
use Rattle.program_words.specs.Forms.{TakesWords}
use Rattle.program_words.proofs.FormLemmas.{name_refused}
use Rattle.sym_shell.specs.Run.{around, RunsWords}
use Rattle.sym_shell.proofs.RunLemmas.{untaken}
use Rattle.sym_shell.proofs.ends.run_read.Goals as goal

pub returns-in-Ok-clause-usage : goal.returns-in-Ok-clause-usage
returns-in-Ok-clause-usage g c =
    IfOk-weaker c.args.read _ _ (λ arguments given some two takes.
    let same : c.deref.result.now ≡ into_iter_items arguments = c.deref.ensures.value ∙ given some in
    c.run.ensures.usage (sym c.from.ensures ∙ two) (subst TakesWords (sym same) takes)) c.in-Ok.ensures.given

pub returns-in-Ok-clause-usage_only : goal.returns-in-Ok-clause-usage_only
returns-in-Ok-clause-usage_only g c =
    IfOk-weaker c.args.read _ _ (λ arguments given some refuses.
    let same : c.deref.result.now ≡ into_iter_items arguments = c.deref.ensures.value ∙ given some in
    elim (c.run.ensures.usage_only (subst (λ words. TakesWords words → ⊥) (sym same) refuses)) [
      | inl two ↦ inl (c.from.ensures ∙ two)
      | inr five ↦ inr (c.from.ensures ∙ five)
    ]) c.in-Ok.ensures.given

pub returns-in-Ok-clause-nothing : goal.returns-in-Ok-clause-nothing
returns-in-Ok-clause-nothing g c =
    IfOk-weaker c.args.read _ _ (λ arguments alone none.
    elim (c.run.ensures.usage_only (subst (λ words. TakesWords words → ⊥) (sym c.deref.ensures.value) (name_refused c.in-Ok.words.items (alone none)))) [
      | inl two ↦ inl (c.from.ensures ∙ two)
      | inr five ↦ inr (c.from.ensures ∙ five)
    ]) c.in-Ok.ensures.alone

pub returns-in-Ok-clause-unread : goal.returns-in-Ok-clause-unread
returns-in-Ok-clause-unread g c =
    IfErr-weaker c.args.read _ _ (λ error alone.
    elim (c.run.ensures.usage_only (subst (λ words. TakesWords words → ⊥) (sym c.deref.ensures.value) (name_refused c.in-Ok.words.items alone))) [
      | inl two ↦ inl (c.from.ensures ∙ two)
      | inr five ↦ inr (c.from.ensures ∙ five)
    ]) c.in-Ok.ensures.unread

pub returns-in-Ok-clause-ran : goal.returns-in-Ok-clause-ran
returns-in-Ok-clause-ran g c =
    let left = g.R.Source.left in
    let handed = g.R.Source.handed in
    let written = g.W.Sink.written in
    let before = outside (left c.args.script.now) (handed c.args.script.now) (g.R.Source.faults c.args.script.now) (written c.args.out.now) (g.W.Sink.faults c.args.out.now) in
    let after = outside (left c.run.new.script) (handed c.run.new.script) (g.R.Source.faults c.run.new.script) (written c.run.new.out) (g.W.Sink.faults c.run.new.out) in
    let all = around before after (g.S.Store.files c.args.store.now) (g.S.Store.files c.run.new.store) (g.S.Store.faults c.args.store.now) (g.S.Store.faults c.run.new.store) in
    IfOk-weaker c.args.read _ _ (λ arguments given some.
    let same : c.deref.result.now ≡ into_iter_items arguments = c.deref.ensures.value ∙ given some in
    subst (λ (status : ℕ). RunsWords (into_iter_items arguments) all status) (sym c.from.ensures)
    (subst (λ (words : List (String Global)). RunsWords words all c.run.result) same c.run.ensures.ran)) c.in-Ok.ensures.given

pub returns-in-Ok-clause-usage_line : goal.returns-in-Ok-clause-usage_line
returns-in-Ok-clause-usage_line g c two = c.run.ensures.usage_line (sym c.from.ensures ∙ two)

pub returns-in-Ok-clause-unwritten : goal.returns-in-Ok-clause-unwritten
returns-in-Ok-clause-unwritten g c refused five =
    c.run.ensures.unwritten (untaken (λ arguments. into_iter_items arguments) c.args.read c.in-Ok.words.items c.deref.result.now c.deref.ensures.value c.in-Ok.ensures.given c.in-Ok.ensures.alone c.in-Ok.ensures.unread refused) (sym c.from.ensures ∙ five)

pub returns-in-Ok-clause-untouched : goal.returns-in-Ok-clause-untouched
returns-in-Ok-clause-untouched g c refused =
    c.run.ensures.untouched (untaken (λ arguments. into_iter_items arguments) c.args.read c.in-Ok.words.items c.deref.result.now c.deref.ensures.value c.in-Ok.ensures.given c.in-Ok.ensures.alone c.in-Ok.ensures.unread refused)
