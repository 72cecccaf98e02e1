use Rattle.std.proofs.Common.{refl, subst}
use Rattle.std.specs.Prelude.{IfOk}
use Rattle.reply_texts.specs.Texts.{memory_text}
use Rattle.search_file.specs.Files.{IsTextOf}
use Rattle.file_commands.proofs.SaveLemmas.{search-written, search-untold}
use Rattle.command_files.proofs.FileLemmas.{told, on_ok, on_err, always}
use Rattle.file_commands.proofs.saving.write_search.Goals as goal

pub returns-in-Ok-clause-answered : goal.returns-in-Ok-clause-answered
returns-in-Ok-clause-answered g c =
    let files = g.S.Store.files c.args.store.now in
    let faults = g.S.Store.faults c.args.store.now in
    let after = g.S.Store.files c.write_file.new.store in
    let later = g.S.Store.faults c.write_file.new.store in
    let S = c.args.search.now in
    let own = subst (λ r. IfOk r (λ text. IsTextOf S text.items)) c.in-Ok.is (c.text_of.ensures.states c.requires.writable) in
    on_ok c.write_file.result (search-written files after faults later c.args.name.now c.write_file.new.reply.items S c.in-Ok.text c.deref.result.now own c.deref.ensures.value) c.write_file.ensures.answered

pub returns-in-Ok-clause-unfinished : goal.returns-in-Ok-clause-unfinished
returns-in-Ok-clause-unfinished g c =
    let files = g.S.Store.files c.args.store.now in
    let faults = g.S.Store.faults c.args.store.now in
    let after = g.S.Store.files c.write_file.new.store in
    let later = g.S.Store.faults c.write_file.new.store in
    let S = c.args.search.now in
    let own = subst (λ r. IfOk r (λ text. IsTextOf S text.items)) c.in-Ok.is (c.text_of.ensures.states c.requires.writable) in
    on_err c.write_file.result (search-written files after faults later c.args.name.now memory_text S c.in-Ok.text c.deref.result.now own c.deref.ensures.value) c.write_file.ensures.unfinished

pub returns-in-Err-clause-answered : goal.returns-in-Err-clause-answered
returns-in-Err-clause-answered g c =
    let files = g.S.Store.files c.args.store.now in
    let faults = g.S.Store.faults c.args.store.now in
    let S = c.args.search.now in
    let reply = c.extend_from_slice.new.self.items in
    told c.extend_from_slice.result c.args.reply.now.items reply memory_text c.extend_from_slice.ensures.items c.requires.empty (λ e. search-untold files faults c.args.name.now reply S e)

pub returns-in-Err-clause-unfinished : goal.returns-in-Err-clause-unfinished
returns-in-Err-clause-unfinished g c =
    let files = g.S.Store.files c.args.store.now in
    let faults = g.S.Store.faults c.args.store.now in
    let S = c.args.search.now in
    always c.extend_from_slice.result (search-untold files faults c.args.name.now memory_text S refl)
