use Rattle.std.proofs.Common.{ap, ◌∙◌}
use Rattle.program_words.specs.Forms.{spelled_or_zero}
use Rattle.program_words.proofs.NumberLemmas.{spelled, unspelled}
use Rattle.program_words.proofs.words.number_of.Goals as goal

pub returns-in-Ok : goal.returns-in-Ok
returns-in-Ok c = spelled c.value_of.result.now c.parse.result c.in-Ok.number c.in-Ok.is c.parse.ensures.value.0 ∙ ap spelled_or_zero c.value_of.ensures

pub returns-in-Err : goal.returns-in-Err
returns-in-Err c = unspelled c.value_of.result.now c.parse.result c.in-Err.is c.parse.ensures.value.0 ∙ ap spelled_or_zero c.value_of.ensures
