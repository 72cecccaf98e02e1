use Rattle.program_words.proofs.FormLemmas as form
use Rattle.program_words.proofs.laws.check_law.Goals as goal

pub returns : goal.returns
returns c = form.check_law
