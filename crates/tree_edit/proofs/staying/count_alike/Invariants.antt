use Rattle.std.proofs.Common.{◌≡◌, ◌<◌, ℕ}
use Rattle.lp_model.specs.Cuts.{is_live}
use Rattle.tree_edit.proofs.staying.count_alike.Given as goal

-- those of the places so far count in both or in neither
abbrev pub invariant-loop-place : goal.invariant-loop-place
invariant-loop-place l = (k : ℕ) → k < l.place → is_live l.before k ≡ is_live l.after k
