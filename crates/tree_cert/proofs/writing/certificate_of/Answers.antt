use Rattle.std.proofs.Common.{refl}
use Rattle.tree_cert.proofs.writing.certificate_of.Goals as goal

pub returns : goal.returns
returns c =
    let p = c.in-Ok.ensures in
    record { claims = refl; incumbent = p.0; best = p.1.0; point = p.1.1; ray = c.new-ray.ensures; proof = c.in-Ok-proof.ensures }
