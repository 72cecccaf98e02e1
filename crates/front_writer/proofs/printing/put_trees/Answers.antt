use Rattle.std.proofs.Common.{◌++◌, List, arith, refl}
use Rattle.front_text.specs.declared.front.FrontTree.{FrontTree}
use Rattle.cert_writer.specs.CertText.{lines_text}
use Rattle.cert_writer.proofs.PutLaws.{put_next, put_end, all_next, all_end}
use Rattle.front_writer.specs.FrontWords.{tree_lines, lines_of_trees}
use Rattle.front_writer.specs.private.FrontRoom.{HasTreeRoom}
use Rattle.front_writer.proofs.PutLaws.{tree_step}
use Rattle.front_writer.proofs.printing.put_trees.Goals as goal

pub loop-tree-preserved : goal.loop-tree-preserved
loop-tree-preserved c =
    let x = c.tree-item.result in
    record {
      put =
          put_next (λ (xs : List FrontTree). lines_text (lines_of_trees xs)) (λ (x : FrontTree). lines_text (tree_lines x)) tree_step c.args.trees.now c.loop-tree.tree-index (c.args.text.now.items ++ lines_text (lines_of_trees c.args.trees.now)) c.loop-tree.text.items c.loop-tree.invariant.put
          x c.put_tree.new.text.items c.loop-tree-test.true c.tree-item.is c.in-Ok.ensures.text;
      room = all_next HasTreeRoom c.args.trees.now c.loop-tree.tree-index x c.loop-tree-test.true c.tree-item.is c.loop-tree.invariant.room c.in-Ok.ensures.room;
    }

pub returns-clause-room : goal.returns-clause-room
returns-clause-room c = all_end HasTreeRoom c.args.trees.now c.loop-tree.tree-index (omega (arith, c.loop-tree-test.false)) c.loop-tree.invariant.room

pub returns-clause-text : goal.returns-clause-text
returns-clause-text c =
    put_end (λ (xs : List FrontTree). lines_text (lines_of_trees xs)) (λ (x : FrontTree). lines_text (tree_lines x)) tree_step c.args.trees.now c.loop-tree.tree-index (c.args.text.now.items ++ lines_text (lines_of_trees c.args.trees.now)) c.loop-tree.text.items c.loop-tree.invariant.put
    (omega (arith, c.loop-tree-test.false)) refl
