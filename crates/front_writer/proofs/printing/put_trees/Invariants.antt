use Rattle.std.proofs.Common.{◌≡◌, ◌++◌, take, drop}
use Rattle.std.specs.Prelude.{All}
use Rattle.cert_writer.specs.CertText.{lines_text}
use Rattle.front_writer.specs.FrontWords.{lines_of_trees}
use Rattle.front_writer.specs.private.FrontRoom.{HasTreeRoom}
use Rattle.front_writer.proofs.printing.put_trees.Given as goal

abbrev pub invariant-loop-tree : goal.invariant-loop-tree
invariant-loop-tree l = record {
  put : l.fn.text.items ++ lines_text (lines_of_trees l.trees) ≡ l.text.items ++ lines_text (lines_of_trees (drop l.tree-index l.trees));
  room : All HasTreeRoom (take l.tree-index l.trees);
}
