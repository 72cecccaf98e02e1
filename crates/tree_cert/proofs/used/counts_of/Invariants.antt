use Rattle.std.proofs.Common.{◌≡◌, take}
use Rattle.tree_cert.specs.private.Marked.{counts_of, count_all}
use Rattle.tree_cert.proofs.used.counts_of.Given as goal

abbrev pub invariant-loop-place : goal.invariant-loop-place
invariant-loop-place l = record {
  counts : l.counts.items ≡ counts_of 0 (take l.place l.marks);
  count : l.count ≡ count_all 0 (take l.place l.marks);
}
