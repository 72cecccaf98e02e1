use Rattle.search_replies.proofs.CauseLemmas.{searches-lawful}
use Rattle.search_replies.proofs.laws.searches_law.Goals as goal

pub returns : goal.returns
returns c = searches-lawful
