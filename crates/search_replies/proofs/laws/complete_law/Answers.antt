use Rattle.search_replies.proofs.CauseLemmas.{searches-complete}
use Rattle.search_replies.proofs.laws.complete_law.Goals as goal

pub returns : goal.returns
returns c = searches-complete
