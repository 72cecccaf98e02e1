use Rattle.std.proofs.Common.{◌≢◌, AllPairs, take}
use Rattle.cert_check.specs.private.PlaceKeys.{place_keys}
use Rattle.cert_check.proofs.SeenLemmas.{Sees}
use Rattle.cert_check.proofs.mults.stand_once.Given as goal

abbrev pub invariant-loop-place : goal.invariant-loop-place
invariant-loop-place l = record {
  once : AllPairs (λ a b. a ≢ b) (take l.place-index (place_keys l.placed));
  seen : Sees l.seen (take l.place-index (place_keys l.placed));
}
