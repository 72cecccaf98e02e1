use Rattle.std.proofs.Common.{◌≡◌, ◌+◌, drop}
use Rattle.tight_regions.specs.private.Tight.{rival_place}
use Rattle.tight_regions.proofs.trail.place_of.Given as goal

abbrev pub invariant-loop-place : goal.invariant-loop-place
invariant-loop-place l = rival_place l.region l.change ≡ l.place + rival_place (drop l.place l.region) l.change
