use Rattle.word_names.proofs.ScriptNames.{script-words}
use Rattle.word_names.proofs.laws.script_names_law.Goals as goal

pub returns : goal.returns
returns c = script-words
