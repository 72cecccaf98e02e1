use Rattle.std.proofs.Common.{◌≡◌, ◌≤◌, take}
use Rattle.std.specs.Vec.{vec_len, vec_capacity}
use Rattle.kept_totals.proofs.totals.Totals.copy.Given as goal

abbrev pub invariant-loop-place : goal.invariant-loop-place
invariant-loop-place l = record {
  items : l.kept.items ≡ take l.place l.self.kept;
  count : vec_len l.kept ≡ l.place;
  room : l.self.room ≤ vec_capacity l.kept;
}
