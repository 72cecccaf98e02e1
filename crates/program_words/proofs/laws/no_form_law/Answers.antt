use Rattle.program_words.proofs.FormLemmas as form
use Rattle.program_words.proofs.laws.no_form_law.Goals as goal

pub returns : goal.returns
returns c = form.no_form_law
