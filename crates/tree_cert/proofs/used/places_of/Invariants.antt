use Rattle.std.proofs.Common.{◌≡◌, take}
use Rattle.tree_cert.specs.private.Marked.{places_of}
use Rattle.tree_cert.proofs.used.places_of.Given as goal

abbrev pub invariant-loop-place : goal.invariant-loop-place
invariant-loop-place l = l.places.items ≡ places_of 0 (take l.place l.marks)
