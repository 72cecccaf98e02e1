use Rattle.std.proofs.Common.{◌≡◌, refl, sym, subst, ◌∙◌, inl}
use Rattle.reply_texts.specs.Texts.{memory_text}
use Rattle.command_files.specs.Filing.{Wanting, IsWrittenModel}
use Rattle.command_files.proofs.FileLemmas.{told, writes-as, on_ok, on_err, always}
use Rattle.command_files.proofs.filing.write_model.Goals as goal

pub returns-in-Ok-clause-answered : goal.returns-in-Ok-clause-answered
returns-in-Ok-clause-answered g c =
    let M = c.args.model.now in
    on_ok c.write_file.result
    (writes-as (λ written. written ≡ c.deref.result.now) (IsWrittenModel M) c.args.name.now (g.S.Store.files c.args.store.now) (g.S.Store.faults c.args.store.now) c.write_file.new.reply.items (g.S.Store.files c.write_file.new.store) (g.S.Store.faults c.write_file.new.store) (λ text e.
    subst (IsWrittenModel M) (sym (e ∙ c.deref.ensures.value)) (record { is = c.in-Ok.ensures.text; means = c.in-Ok.ensures.means })))
    c.write_file.ensures.answered

pub returns-in-Ok-clause-unfinished : goal.returns-in-Ok-clause-unfinished
returns-in-Ok-clause-unfinished g c =
    let M = c.args.model.now in
    on_err c.write_file.result
    (writes-as (λ written. written ≡ c.deref.result.now) (IsWrittenModel M) c.args.name.now (g.S.Store.files c.args.store.now) (g.S.Store.faults c.args.store.now) memory_text (g.S.Store.files c.write_file.new.store) (g.S.Store.faults c.write_file.new.store) (λ text e.
    subst (IsWrittenModel M) (sym (e ∙ c.deref.ensures.value)) (record { is = c.in-Ok.ensures.text; means = c.in-Ok.ensures.means })))
    c.write_file.ensures.unfinished

pub returns-in-Err-clause-answered : goal.returns-in-Err-clause-answered
returns-in-Err-clause-answered g c = told c.extend_from_slice.result c.args.reply.now.items c.extend_from_slice.new.self.items memory_text c.extend_from_slice.ensures.items c.requires.empty (λ e. Wanting (inl refl) e)

pub returns-in-Err-clause-unfinished : goal.returns-in-Err-clause-unfinished
returns-in-Err-clause-unfinished g c = always c.extend_from_slice.result (Wanting (inl refl) refl)
