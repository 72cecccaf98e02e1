-- The parts of a certificate, whatever it claims.
use Rattle.std.specs.Prelude.{◌≡◌, [], Option}
use Rattle.lp_model.specs.Program.{Point}
use Rattle.search_parts.specs.Points.{IsIncumbent}
use Rattle.sound_searches.specs.Sound.{PlainSearch}
use Rattle.cert_text.specs.declared.cert.Claim.{Claim}
use Rattle.cert_text.specs.declared.cert.Cert.{Cert}
use Rattle.tree_cert.specs.Certificates.{point_numbers, IsProofOf}

-- this claim, the incumbent's numbers, and the cuts and nodes of the search's tree
pub record HasPartsOf (S : PlainSearch) (claim : Claim) (cert : Cert) : Type 0 where
  pub claims : cert.claim ≡ claim
  pub incumbent : Option Point
  pub best : IsIncumbent S.model S.points incumbent
  pub point : cert.point ≡ point_numbers S.model incumbent
  pub ray : cert.ray ≡ []
  pub proof : IsProofOf S cert.cuts cert.nodes
