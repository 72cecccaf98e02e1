use Rattle.std.proofs.Common.{refl, arith}
use Rattle.tight_regions.proofs.trail.Trail.new.Goals as goal

pub returns-clause-trail : goal.returns-clause-trail
returns-clause-trail c =
    let path = c.in-Ok.path.ok.0 in
    let replaced = c.in-Ok-vec.replaced.ok.0 in
    let region = c.in-Ok-vec-2.region.ok.0 in
    let long = c.in-Ok.ensures.len in
    let longer = c.in-Ok-vec.ensures.len in
    let longest = c.in-Ok-vec-2.ensures.len in
    record { region = omega (arith, path, region, long, longest); replaced = omega (arith, path, replaced, long, longer); within = omega arith; led = refl }

pub returns-clause-room : goal.returns-clause-room
returns-clause-room c =
    let path = c.in-Ok.path.ok.0 in
    let long = c.in-Ok.ensures.len in
    omega (arith, path, long)
