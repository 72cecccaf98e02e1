use Rattle.std.specs.Prelude.{ℕ, List, IfOk}
use Rattle.std.proofs.Common.{◌≡◌, ◌++◌, subst, sym}
use Rattle.reply_texts.specs.Texts.{unknown_name_text, taken_text, bounds_text, sides_text, memory_text}
use Rattle.shell_replies.specs.Faults.{edit_fault_text}
use Rattle.shell_replies.proofs.TextLemmas.{text-written}
use Rattle.shell_replies.proofs.faults.write_edit_fault.Goals as goal

pub returns-in-NoSuch : goal.returns-in-NoSuch
returns-in-NoSuch c =
    let before = c.args.reply.now.items in
    let after = c.write_unknown_name.new.reply.items in
    subst (λ f. IfOk c.write_unknown_name.result (λ _. after ≡ before ++ edit_fault_text f)) (sym c.in-NoSuch.is) (subst (λ (name : List ℕ). IfOk c.write_unknown_name.result (λ _. after ≡ before ++ unknown_name_text name)) c.as_slice.ensures c.write_unknown_name.ensures)

pub returns-in-Duplicate : goal.returns-in-Duplicate
returns-in-Duplicate c =
    let before = c.args.reply.now.items in
    let after = c.write_taken.new.reply.items in
    subst (λ f. IfOk c.write_taken.result (λ _. after ≡ before ++ edit_fault_text f)) (sym c.in-Duplicate.is) (subst (λ (name : List ℕ). IfOk c.write_taken.result (λ _. after ≡ before ++ taken_text name)) c.as_slice-in-Duplicate.ensures c.write_taken.ensures)

pub returns-in-IntegerUnbounded : goal.returns-in-IntegerUnbounded
returns-in-IntegerUnbounded c =
    let before = c.args.reply.now.items in
    let after = c.write_bounds.new.reply.items in
    subst (λ f. IfOk c.write_bounds.result (λ _. after ≡ before ++ edit_fault_text f)) (sym c.in-IntegerUnbounded.is) (subst (λ (name : List ℕ). IfOk c.write_bounds.result (λ _. after ≡ before ++ bounds_text name)) c.as_slice-in-IntegerUnbounded.ensures c.write_bounds.ensures)

pub returns-in-Ranged : goal.returns-in-Ranged
returns-in-Ranged c =
    let before = c.args.reply.now.items in
    let after = c.write_sides.new.reply.items in
    subst (λ f. IfOk c.write_sides.result (λ _. after ≡ before ++ edit_fault_text f)) (sym c.in-Ranged.is) (subst (λ (name : List ℕ). IfOk c.write_sides.result (λ _. after ≡ before ++ sides_text name)) c.as_slice-in-Ranged.ensures c.write_sides.ensures)

pub returns-in-Limit : goal.returns-in-Limit
returns-in-Limit c =
    let before = c.args.reply.now.items in
    let after = c.write_limit.new.reply.items in
    subst (λ f. IfOk c.write_limit.result (λ _. after ≡ before ++ edit_fault_text f)) (sym c.in-Limit.is) c.write_limit.ensures

pub returns-in-Memory : goal.returns-in-Memory
returns-in-Memory c =
    let before = c.args.reply.now.items in
    let after = c.extend_from_slice.new.self.items in
    subst (λ f. IfOk c.extend_from_slice.result (λ _. after ≡ before ++ edit_fault_text f)) (sym c.in-Memory.is) (text-written c.extend_from_slice.result before after memory_text c.extend_from_slice.ensures.items)
