-- A lawful writable model is what its canonical text means: so it is read back as itself.
use Rattle.std.proofs.Common.{◌≡◌, ℕ, List, sym, ◌∙◌, ap, inl, inr}
use Rattle.std.specs.Prelude.{◌⊎◌, None, Result, Ok, Err}
use Rattle.lp_model.specs.Program.{Program}
use Rattle.lp_model.specs.Lawful.{IsLawful}
use Rattle.mps_sections.specs.declared.statements.Sections.{Sections}
use Rattle.mps_model.specs.Meaning.{model_of}
use Rattle.mps_model.specs.Faults.{sections_flaw, flaw_of_whole, MeantModel, ModelMeansOne, HasOneFault}
use Rattle.mps_model.specs.Answers.{IsModelAnswer}
use Rattle.mps_model.specs.declared.reader.MpsFault.{MpsFault}
use Rattle.mps_model.specs.declared.reader.MpsFault.TheVariants.{Bad, Memory}
use Rattle.mps_model.proofs.Verdict.{exactly_one}
use Rattle.mps_writer.specs.Canonical.{canonical_text}
use Rattle.lp_model.specs.Fitting.{ModelFits}
use Rattle.mps_writer.specs.Writable.{IsWritableMps}
use Rattle.mps_writer.specs.Laws.{IsReadBack}
use Rattle.mps_writer.proofs.WholeText.{all_entries, whole_text, states}
use Rattle.mps_writer.proofs.ModelWhole.{flawless, meant}

pub means : (M : Program) → IsLawful M → ModelFits M → IsWritableMps M → MeantModel (canonical_text M) None M
unfolding flaw_of_whole
means M h f w = record {
  entries = all_entries M;
  whole = whole_text M h w f;
  flawless = ap (λ (s : Sections). sections_flaw s None) (states M h w f) ∙ flawless M h w f;
  is = meant M h w f ∙ ap (λ (s : Sections). model_of s None) (sym (states M h w f));
}

-- what is read of a text that means a model is the model
pub read_as_meant : (M : Program) (text : List ℕ) (answer : Result Program MpsFault) → MeantModel text None M → IsModelAnswer text None answer → IsReadBack M answer
read_as_meant M text (Ok N) m read = by (exactly_one text None)
  where
    by : ModelMeansOne text None ⊎ HasOneFault text None → N ≡ M
    by (inl one) = one.only N read ∙ sym (one.only M m)
    by (inr fault) = absurd (fault.meaningless M m)
read_as_meant M text (Err (Bad line code)) m read = by (exactly_one text None)
  where
    by : ModelMeansOne text None ⊎ HasOneFault text None → ⊥
    by (inl one) = one.faultless (record { line = line; code = code }) read
    by (inr fault) = fault.meaningless M m
read_as_meant M text (Err Memory) m read = tt
