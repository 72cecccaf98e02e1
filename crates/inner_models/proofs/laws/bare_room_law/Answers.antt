use Rattle.inner_models.proofs.FittingEdits.{bare_room}
use Rattle.inner_models.proofs.laws.bare_room_law.Goals as goal

pub returns : goal.returns
returns c = bare_room
