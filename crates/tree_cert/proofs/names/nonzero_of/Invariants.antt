use Rattle.std.proofs.Common.{◌≡◌, ◌++◌, drop}
use Rattle.tree_cert.specs.Certificates.{nonzero_numbers}
use Rattle.tree_cert.proofs.names.nonzero_of.Given as goal

abbrev pub invariant-loop-place : goal.invariant-loop-place
invariant-loop-place l = nonzero_numbers l.cols l.numbers ≡ l.named ++ nonzero_numbers (drop l.place l.cols) (drop l.place l.numbers)
