use Rattle.std.proofs.Common.{◌≡◌, All, Contains, map, take}
use Rattle.edit_words.specs.EditWords.{names_in}
use Rattle.shell_replies.specs.Names.{placed_in}
use Rattle.shell_replies.proofs.placing.placed.Given as goal

abbrev pub invariant-loop-index : goal.invariant-loop-index
invariant-loop-index g l = record {
  there : All (Contains (map g.T.HasName.name l.items)) (take l.index (names_in l.named));
  places : l.places ≡ placed_in g.P.Place.at_place (map g.T.HasName.name l.items) (take l.index l.named);
}
