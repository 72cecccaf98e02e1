use Rattle.std.specs.Prelude.{IfOk}
use Rattle.std.proofs.Common.{◌≡◌, ◌++◌, subst, sym}
use Rattle.reply_texts.specs.Texts.{store_text, file_too_long_text, memory_text}
use Rattle.command_files.specs.Checking.{cert_refusal_text}
use Rattle.command_files.proofs.FileLemmas.{text-written}
use Rattle.command_files.proofs.refusing.write_cert_refusal.Goals as goal

pub returns-in-Store : goal.returns-in-Store
returns-in-Store c =
    let before = c.args.reply.now.items in
    let after = c.extend_from_slice.new.self.items in
    subst (λ r. IfOk c.extend_from_slice.result (λ _. after ≡ before ++ cert_refusal_text r)) (sym c.in-Store.is) (text-written c.extend_from_slice.result before after store_text c.extend_from_slice.ensures.items)

pub returns-in-FileTooLong : goal.returns-in-FileTooLong
returns-in-FileTooLong c =
    let before = c.args.reply.now.items in
    let after = c.extend_from_slice-in-FileTooLong.new.self.items in
    subst (λ r. IfOk c.extend_from_slice-in-FileTooLong.result (λ _. after ≡ before ++ cert_refusal_text r)) (sym c.in-FileTooLong.is) (text-written c.extend_from_slice-in-FileTooLong.result before after file_too_long_text c.extend_from_slice-in-FileTooLong.ensures.items)

pub returns-in-Memory : goal.returns-in-Memory
returns-in-Memory c =
    let before = c.args.reply.now.items in
    let after = c.extend_from_slice-in-Memory.new.self.items in
    subst (λ r. IfOk c.extend_from_slice-in-Memory.result (λ _. after ≡ before ++ cert_refusal_text r)) (sym c.in-Memory.is) (text-written c.extend_from_slice-in-Memory.result before after memory_text c.extend_from_slice-in-Memory.ensures.items)

pub returns-in-Faulty : goal.returns-in-Faulty
returns-in-Faulty c =
    let before = c.args.reply.now.items in
    let after = c.write_faulty_certificate.new.reply.items in
    subst (λ r. IfOk c.write_faulty_certificate.result (λ _. after ≡ before ++ cert_refusal_text r)) (sym c.in-Faulty.is) c.write_faulty_certificate.ensures
