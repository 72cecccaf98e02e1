use Rattle.search_counting.proofs.LowerLemmas.{has-room}
use Rattle.search_counting.proofs.laws.room_law.Goals as goal

pub returns : goal.returns
returns c = has-room
