use Rattle.std.proofs.Common.{rules, ◌++◌, refl, sym, ap, subst, ◌∙◌}
use Rattle.sym_io.specs.Files.{KeepsOthers, Sets}
use Rattle.reply_texts.specs.Texts.{ok_text, store_text, file_too_long_text}
use Rattle.command_files.specs.Filing.{Written, TooLong, Failed}
use Rattle.command_files.proofs.FileLemmas.{told, put-written, put-failed}
use Rattle.command_files.proofs.filing.write_file.Goals as goal

pub returns-then-text-gt-MAX_FILE_LENGTH-clause-answered : goal.returns-then-text-gt-MAX_FILE_LENGTH-clause-answered
returns-then-text-gt-MAX_FILE_LENGTH-clause-answered g c =
    told c.extend_from_slice.result c.args.reply.now.items c.extend_from_slice.new.self.items file_too_long_text c.extend_from_slice.ensures.items c.requires.empty
    (λ e. TooLong c.args.text.now refl (search rules) refl e)

pub returns-else-is_err-clause-answered : goal.returns-else-is_err-clause-answered
returns-else-is_err-clause-answered g c =
    let sets = put-written c.put.result (g.S.Store.files c.args.store.now) (g.S.Store.files c.put.new.self) c.file_name.result.now c.args.text.now (sym c.is_err.ensures.value ∙ c.if-is_err.false) c.put.ensures.answer in
    Written c.args.text.now refl (search rules)
    (subst (λ n. Sets (g.S.Store.files c.args.store.now) (g.S.Store.files c.put.new.self) n c.args.text.now) c.file_name.ensures sets)
    (c.in_ok-extend_from_slice.ensures.items ∙ ap (λ t. t ++ ok_text) c.requires.empty)

pub returns-in_ok-extend_from_slice-2-clause-answered : goal.returns-in_ok-extend_from_slice-2-clause-answered
returns-in_ok-extend_from_slice-2-clause-answered g c =
    let failed = put-failed c.put.result (g.S.Store.files c.args.store.now) (g.S.Store.files c.put.new.self) (g.S.Store.faults c.args.store.now) (g.S.Store.faults c.put.new.self) c.file_name.result.now c.args.text.now (sym c.is_err.ensures.value ∙ c.if-is_err.true) c.put.ensures.answer c.put.ensures.failed in
    Failed c.args.text.now refl (search rules) failed.0
    (subst (λ n. KeepsOthers (g.S.Store.files c.args.store.now) (g.S.Store.files c.put.new.self) n) c.file_name.ensures failed.1)
    (c.in_ok-extend_from_slice-2.ensures.items ∙ ap (λ t. t ++ store_text) c.clear.ensures.items)
