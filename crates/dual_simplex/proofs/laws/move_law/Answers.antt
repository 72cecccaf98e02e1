use Rattle.dual_simplex.proofs.MoveLemmas.{key_after}
use Rattle.dual_simplex.proofs.laws.move_law.Goals as goal

pub returns : goal.returns
returns c = λ s after kept moved. key_after s after kept moved.row moved.side moved.place moved.out moved.enters moved.move
