use Rattle.std.specs.Prelude.{ℕ, List, Err}
use Rattle.std.proofs.Common.{subst, sym}
use Rattle.mps_model.specs.Faults.{MeantModel}
use Rattle.mps_model.proofs.ScriptModels.{meant-script}
use Rattle.command_files.specs.Reading.{ReadsFile, HasText}
use Rattle.command_files.proofs.ReadLemmas.{model-missing, text-read, model-faulty}
use Rattle.command_files.proofs.reading.read_model.Goals as goal

pub returns-in-Ok-model-clause-script : goal.returns-in-Ok-model-clause-script
returns-in-Ok-model-clause-script g c = meant-script c.deref.result.now c.args.intupper c.in-Ok-model.model c.bound_is_near.ensures c.in-Ok-model.ensures

pub returns-in-Err-clause-answer : goal.returns-in-Err-clause-answer
returns-in-Err-clause-answer g c =
    let files = g.S.Store.files c.args.store.now in
    let before = g.S.Store.faults c.args.store.now in
    let after = g.S.Store.faults c.get.new.self in
    subst (λ (name : List ℕ). ReadsFile files name c.args.intupper before after (Err c.from.result)) c.file_name.ensures
    (subst (λ r. ReadsFile files c.file_name.result.now c.args.intupper before after (Err r)) (sym c.from.ensures) (model-missing files c.file_name.result.now before after c.args.intupper c.in-Err.fault c.in-Err.ensures.answer))

pub returns-in-Ok-model-clause-answer : goal.returns-in-Ok-model-clause-answer
returns-in-Ok-model-clause-answer g c =
    let files = g.S.Store.files c.args.store.now in
    let before = g.S.Store.faults c.args.store.now in
    let after = g.S.Store.faults c.get.new.self in
    let M = c.in-Ok-model.model in
    subst (λ (name : List ℕ). HasText files name (λ t. MeantModel t c.args.intupper M)) c.file_name.ensures
    (text-read files c.file_name.result.now before after c.in-Ok.text c.deref.result.now c.in-Ok.ensures.answer c.deref.ensures.value (λ t. MeantModel t c.args.intupper M) c.in-Ok-model.ensures)

pub returns-in-Err-model-clause-answer : goal.returns-in-Err-model-clause-answer
returns-in-Err-model-clause-answer g c =
    let files = g.S.Store.files c.args.store.now in
    let before = g.S.Store.faults c.args.store.now in
    let after = g.S.Store.faults c.get.new.self in
    subst (λ (name : List ℕ). ReadsFile files name c.args.intupper before after (Err c.from-in-Err-model.result)) c.file_name.ensures
    (subst (λ r. ReadsFile files c.file_name.result.now c.args.intupper before after (Err r)) (sym c.from-in-Err-model.ensures)
    (model-faulty files c.file_name.result.now before after c.in-Ok.text c.deref.result.now c.in-Ok.ensures.answer c.deref.ensures.value c.args.intupper c.in-Err-model.fault c.in-Err-model.ensures))
