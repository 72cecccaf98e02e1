use Rattle.lp_model.specs.Regions.{at_most, at_least}
use Rattle.std.specs.Prelude.{pos, ◌+ℤ◌}
use Rattle.branch_tree.specs.Tree.{left_path, right_path}
use Rattle.tree_edit.proofs.SameSplit.{bounds-below, child-same}
use Rattle.tree_edit.proofs.search.Search.place_fitting.Goals as goal

pub children-requires-clause-narrow : goal.children-requires-clause-narrow
children-requires-clause-narrow c = c.requires.tight

pub children-requires-clause-room : goal.children-requires-clause-room
children-requires-clause-room c = c.requires.room

pub split_leaf-requires-clause-leaf : goal.split_leaf-requires-clause-leaf
split_leaf-requires-clause-leaf c = c.requires.leaf

pub split_leaf-requires-clause-narrow : goal.split_leaf-requires-clause-narrow
split_leaf-requires-clause-narrow c = c.requires.narrow

pub split_leaf-requires-clause-sound : goal.split_leaf-requires-clause-sound
split_leaf-requires-clause-sound c = c.requires.sound

pub split_leaf-requires-clause-room : goal.split_leaf-requires-clause-room
split_leaf-requires-clause-room c = c.requires.room

pub split_leaf-requires-clause-left : goal.split_leaf-requires-clause-left
split_leaf-requires-clause-left c =
    let tight = c.args.tight.now in
    let path = c.args.region.now in
    let split = c.args.split in
    child-same (left_path tight split.col.0 split.v) (left_path path split.col.0 split.v) (bounds-below tight path c.requires.bounds (at_most split.col.0 split.v)) c.args.self.now split.mult split.basis c.in-Ok.left c.in-Ok.ensures.left

pub split_leaf-requires-clause-right : goal.split_leaf-requires-clause-right
split_leaf-requires-clause-right c =
    let tight = c.args.tight.now in
    let path = c.args.region.now in
    let split = c.args.split in
    child-same (right_path tight split.col.0 split.v) (right_path path split.col.0 split.v) (bounds-below tight path c.requires.bounds (at_least split.col.0 (split.v +ℤ pos 1))) c.args.self.now split.mult split.basis c.in-Ok.right c.in-Ok.ensures.right

pub returns-in-Ok-clause-taken : goal.returns-in-Ok-clause-taken
returns-in-Ok-clause-taken c = c.split_leaf.ensures.taken

pub returns-in-Ok-clause-kept : goal.returns-in-Ok-clause-kept
returns-in-Ok-clause-kept c = c.split_leaf.ensures.kept
