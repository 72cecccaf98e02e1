use Rattle.std.proofs.Common.{Result, Ok, Err, ap}
use Rattle.clap.specs.Words.{app_of, subcommand_rows_of}
use Rattle.program_words.specs.Forms.{form_shown}
use Rattle.program_words.specs.declared.words.Form.{Form}
use Rattle.program_words.specs.declared.words.WordsFault.{WordsFault}
use Rattle.program_words.specs.declared.words.WordsFault.TheVariants.{Memory}
use Rattle.program_words.proofs.FormLemmas.{taken, asked, refused}
use Rattle.program_words.proofs.words.form_of.Goals as goal

abbrev fault_in : Result Form WordsFault → WordsFault
fault_in (Ok form) = Memory
fault_in (Err fault) = fault

pub returns-in-Ok-try_get_matches_from-clause-taken : goal.returns-in-Ok-try_get_matches_from-clause-taken
returns-in-Ok-try_get_matches_from-clause-taken c = taken (app_of c.in-Ok.command) c.args.words.now c.in-Ok.ensures c.in-Ok-try_get_matches_from.ensures.kinds

pub returns-in-Ok-try_get_matches_from-clause-asked : goal.returns-in-Ok-try_get_matches_from-clause-asked
returns-in-Ok-try_get_matches_from-clause-asked c =
    asked (app_of c.in-Ok.command) c.args.words.now (form_shown c.form_in-form.result) (subcommand_rows_of c.in-Ok-try_get_matches_from.matches) c.in-Ok.ensures (λ simple. (c.in-Ok-try_get_matches_from.ensures.matches simple).1) c.form_in-form.ensures

pub returns-in-Err-clause-refused : goal.returns-in-Err-clause-refused
returns-in-Err-clause-refused c = λ told.
    refused (app_of c.in-Ok.command) c.args.words.now c.in-Err.error c.in-Ok.ensures c.in-Err.ensures.kinds (c.fault_by.ensures (ap fault_in told))
