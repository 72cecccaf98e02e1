-- The room of a tree's numbers, where the last call may have had no memory.
use Rattle.std.specs.Prelude.{All, Result, Ok, Err, IfOk}
use Rattle.front_text.specs.declared.front.FrontTree.{FrontTree}
use Rattle.cert_writer.specs.Room.{HasNodeRoom}
use Rattle.front_writer.specs.private.FrontRoom.{HasGapRoom, HasTreeRoom}

pub tree_room : {T E : Type 0} (last : Result T E) (tree : FrontTree) → HasGapRoom tree.of → IfOk last (λ _. All HasNodeRoom tree.nodes) → IfOk last (λ _. HasTreeRoom tree)
tree_room (Ok x) tree of nodes = record { of = of; nodes = nodes }
tree_room (Err x) tree of nodes = tt
