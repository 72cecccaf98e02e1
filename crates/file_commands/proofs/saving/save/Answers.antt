use Rattle.std.proofs.Common.{sym, ap, refl, inl, inr, subst, ◌∙◌}
use Rattle.std.specs.Prelude.{IfSome, Option}
use Rattle.std.specs.Option.{option_copied, option_map}
use Rattle.reply_texts.specs.Texts.{no_model_text, memory_text}
use Rattle.lp_model.specs.Lawful.{IsLawful}
use Rattle.word_names.specs.ScriptModels.{IsScriptModel}
use Rattle.sound_searches.specs.Sound.{PlainSearch, IsSound}
use Rattle.list_order.specs.Ordered.{IsInOrder}
use Rattle.search_file.proofs.OrderLaws.{writable}
use Rattle.file_commands.proofs.SaveLemmas.{search-saved, none-saved}
use Rattle.command_files.proofs.FileLemmas.{told, on_ok, on_err, always}
use Rattle.file_commands.proofs.saving.save.Goals as goal

pub write_search-requires-clause-writable : goal.write_search-requires-clause-writable
write_search-requires-clause-writable g c =
    let S = c.in-Some.search.now in
    let there = sym (ap option_copied c.in-Some.is) ∙ c.search.ensures.search in
    let sound = subst (λ (o : Option PlainSearch). IfSome o IsSound) (sym there) c.search.ensures.sound in
    let order = subst (λ (o : Option PlainSearch). IfSome o IsInOrder) (sym there) c.requires.order in
    let script = subst (λ (o : Option PlainSearch). IfSome (option_map (λ (R : PlainSearch). R.model) o) IsScriptModel) (sym there) c.requires.script in
    writable S sound order (record { lawful = subst IsLawful c.model.ensures c.cols-lawful.ensures.lawful; script = script })

pub returns-in-Some-clause-answered : goal.returns-in-Some-clause-answered
returns-in-Some-clause-answered g c =
    let files = g.S.Store.files c.args.store.now in
    let faults = g.S.Store.faults c.args.store.now in
    let after = g.S.Store.files c.write_search.new.store in
    let later = g.S.Store.faults c.write_search.new.store in
    let reply = c.write_search.new.reply.items in
    on_ok c.write_search.result (search-saved files after faults later c.args.name.now reply c.in-Some.search.now c.args.env.now (sym (ap option_copied c.in-Some.is) ∙ c.search.ensures.search) c.write_search.ensures.later) c.write_search.ensures.answered

pub returns-in-Some-clause-unfinished : goal.returns-in-Some-clause-unfinished
returns-in-Some-clause-unfinished g c =
    let files = g.S.Store.files c.args.store.now in
    let faults = g.S.Store.faults c.args.store.now in
    let after = g.S.Store.files c.write_search.new.store in
    let later = g.S.Store.faults c.write_search.new.store in
    on_err c.write_search.result (search-saved files after faults later c.args.name.now memory_text c.in-Some.search.now c.args.env.now (sym (ap option_copied c.in-Some.is) ∙ c.search.ensures.search) c.write_search.ensures.later) c.write_search.ensures.unfinished

pub returns-in-None-clause-answered : goal.returns-in-None-clause-answered
returns-in-None-clause-answered g c =
    let files = g.S.Store.files c.args.store.now in
    let faults = g.S.Store.faults c.args.store.now in
    let reply = c.extend_from_slice.new.self.items in
    told c.extend_from_slice.result c.args.reply.now.items reply no_model_text c.extend_from_slice.ensures.items c.requires.empty
    (λ e. none-saved files faults c.args.name.now reply c.args.env.now (sym (ap option_copied c.in-None.is) ∙ c.search.ensures.search) (inl e))

pub returns-in-None-clause-unfinished : goal.returns-in-None-clause-unfinished
returns-in-None-clause-unfinished g c =
    let files = g.S.Store.files c.args.store.now in
    let faults = g.S.Store.faults c.args.store.now in
    always c.extend_from_slice.result (none-saved files faults c.args.name.now memory_text c.args.env.now (sym (ap option_copied c.in-None.is) ∙ c.search.ensures.search) (inr refl))
