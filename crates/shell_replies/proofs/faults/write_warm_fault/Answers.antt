use Rattle.std.specs.Prelude.{ℕ, List, IfOk}
use Rattle.std.proofs.Common.{◌≡◌, ◌++◌, subst, sym}
use Rattle.reply_texts.specs.Texts.{warm_text, memory_text}
use Rattle.shell_replies.specs.Faults.{warm_fault_text}
use Rattle.shell_replies.proofs.TextLemmas.{text-written}
use Rattle.shell_replies.proofs.faults.write_warm_fault.Goals as goal

pub returns-in-Bad : goal.returns-in-Bad
returns-in-Bad c =
    let before = c.args.reply.now.items in
    let after = c.write_faulty_search.new.reply.items in
    subst (λ f. IfOk c.write_faulty_search.result (λ _. after ≡ before ++ warm_fault_text f)) (sym c.in-Bad.is) (subst (λ (name : List ℕ). IfOk c.write_faulty_search.result (λ _. after ≡ before ++ warm_text name c.in-Bad.code)) c.as_slice.ensures c.write_faulty_search.ensures)

pub returns-in-Memory : goal.returns-in-Memory
returns-in-Memory c =
    let before = c.args.reply.now.items in
    let after = c.extend_from_slice.new.self.items in
    subst (λ f. IfOk c.extend_from_slice.result (λ _. after ≡ before ++ warm_fault_text f)) (sym c.in-Memory.is) (text-written c.extend_from_slice.result before after memory_text c.extend_from_slice.ensures.items)
