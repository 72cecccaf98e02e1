use Rattle.file_commands.proofs.CauseLemmas.{filings-lawful}
use Rattle.file_commands.proofs.laws.filings_law.Goals as goal

pub returns : goal.returns
returns c = filings-lawful
