-- Each family is lawful, and which of them work on the search.
use Rattle.std.proofs.Common.{◌≢◌, ℕ, refl}
use Rattle.command_words.specs.declared.options.SearchOptions.{SearchOptions}
use Rattle.command_words.specs.Asks.{Asks, Load, Solve, Warm, McSolve, Edit, Trim, Save, Restore, Bound, Cert, Write, Quit, Unknown, Misused, NoNumber}
use Rattle.command_family.specs.Family.{IsLawfulFamily}
use Rattle.file_commands.proofs.CauseLemmas.{filings-lawful}
use Rattle.edit_commands.proofs.CauseLemmas.{changes-lawful}
use Rattle.bound_commands.proofs.CauseLemmas.{bounds-lawful}
use Rattle.cert_commands.proofs.CauseLemmas.{certificates-lawful}
use Rattle.search_replies.proofs.CauseLemmas.{searches-lawful}
use Rattle.front_commands.proofs.CauseLemmas.{fronts-lawful}
use Rattle.sym_shell.specs.Step.{in_family}
use Rattle.sym_shell.proofs.OwnLemmas.{own-lawful}

pub lawful : (asks : Asks) → IsLawfulFamily (in_family asks).family
lawful (Load file intupper) = filings-lawful
lawful (Solve options) = searches-lawful
lawful (Warm options) = searches-lawful
lawful (McSolve nodes pivots) = fronts-lawful
lawful (Edit words) = changes-lawful
lawful (Trim depth) = changes-lawful
lawful (Save file) = filings-lawful
lawful (Restore file) = filings-lawful
lawful (Bound which numbers words) = bounds-lawful
lawful (Cert file) = certificates-lawful
lawful (Write file) = filings-lawful
lawful Quit = own-lawful
lawful (Unknown word) = own-lawful
lawful Misused = own-lawful
lawful (NoNumber word) = own-lawful

-- `solve` and `warm` alone work on the search, and `mcsolve` lets go what was held
pub works-not : (asks : Asks) → ((options : SearchOptions) → asks ≢ Solve options) → ((options : SearchOptions) → asks ≢ Warm options) → ((nodes pivots : ℕ) → asks ≢ McSolve nodes pivots) → ¬ ((in_family asks).family.Works (in_family asks).asks)
works-not (Solve options) other another third works = other options refl
works-not (Warm options) other another third works = another options refl
works-not (McSolve nodes pivots) other another third works = third nodes pivots refl
works-not asks other another third works = works
