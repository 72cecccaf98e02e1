use Rattle.std.specs.Prelude.{IfOk, codes}
use Rattle.std.proofs.Common.{◌≡◌, ◌++◌, subst, sym}
use Rattle.command_files.specs.Checking.{claim_text}
use Rattle.command_files.proofs.FileLemmas.{text-written}
use Rattle.command_files.proofs.checking.write_accepted.Goals as goal

pub returns-in-Optimal : goal.returns-in-Optimal
returns-in-Optimal c =
    let before = c.args.reply.now.items in
    let after = c.write_accepted_value.new.reply.items in
    subst (λ claim. IfOk c.write_accepted_value.result (λ _. after ≡ before ++ claim_text claim)) (sym c.in-Optimal.is) c.write_accepted_value.ensures

pub returns-in-Within : goal.returns-in-Within
returns-in-Within c =
    let before = c.args.reply.now.items in
    let after = c.write_accepted_within.new.reply.items in
    subst (λ claim. IfOk c.write_accepted_within.result (λ _. after ≡ before ++ claim_text claim)) (sym c.in-Within.is) c.write_accepted_within.ensures

pub returns-in-Infeasible : goal.returns-in-Infeasible
returns-in-Infeasible c =
    let before = c.args.reply.now.items in
    let after = c.extend_from_slice.new.self.items in
    subst (λ claim. IfOk c.extend_from_slice.result (λ _. after ≡ before ++ claim_text claim)) (sym c.in-Infeasible.is) (text-written c.extend_from_slice.result before after (codes "accepted infeasible\n") c.extend_from_slice.ensures.items)

pub returns-in-Unbounded : goal.returns-in-Unbounded
returns-in-Unbounded c =
    let before = c.args.reply.now.items in
    let after = c.extend_from_slice-in-Unbounded.new.self.items in
    subst (λ claim. IfOk c.extend_from_slice-in-Unbounded.result (λ _. after ≡ before ++ claim_text claim)) (sym c.in-Unbounded.is)
    (text-written c.extend_from_slice-in-Unbounded.result before after (codes "accepted unbounded\n") c.extend_from_slice-in-Unbounded.ensures.items)
