use Rattle.front_replies.proofs.ShownLaws.{shown}
use Rattle.front_replies.proofs.laws.front_shown_law.Goals as goal

pub returns : goal.returns
returns c = shown
