use Rattle.std.proofs.Common.{◌++◌, List, ℕ, ap, sym, subst, ◌∙◌}
use Rattle.std.specs.Prelude.{None}
use Rattle.mps_model.specs.Faults.{MeantModel}
use Rattle.mps_writer.specs.Canonical.{canonical_text}
use Rattle.mps_writer.proofs.Means.{means}
use Rattle.mps_writer.proofs.writing.write.Goals as goal

pub returns-in-Ok-clause-text : goal.returns-in-Ok-clause-text
returns-in-Ok-clause-text c = c.in-Ok.ensures ∙ ap (λ (text : List ℕ). text ++ canonical_text c.args.model.now) c.new-text.ensures.items

-- the text is the model's, so it means the model
pub returns-in-Ok-clause-means : goal.returns-in-Ok-clause-means
returns-in-Ok-clause-means c =
    let M = c.args.model.now in
    λ writable. subst (λ (text : List ℕ). MeantModel text None M) (sym (returns-in-Ok-clause-text c)) (means M c.show_model.ensures.lawful c.show_model.ensures.room writable)
