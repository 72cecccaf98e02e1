use Rattle.std.proofs.Common.{◌≡◌, drop}
use Rattle.spared_leaves.specs.Touched.{leaves_list}
use Rattle.spared_leaves.proofs.touched.leaves_list.Given as goal

abbrev pub invariant-loop-of : goal.invariant-loop-of
invariant-loop-of l = leaves_list l.touched l.before l.after (drop l.of-index l.list) ≡ leaves_list l.touched l.before l.after l.list
