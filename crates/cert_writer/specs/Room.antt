-- The numbers in a certificate are those that a fraction has room for, as they are in each that the program holds, and those
-- of cuts have 64 bits.
use Rattle.std.specs.Prelude.{◌<◌, ◌^◌, All}
use Rattle.frac128.specs.Range.{Fits}
use Rattle.lp_model.specs.Edits.{Named}
use Rattle.cert_text.specs.declared.cert.Claim.{Claim}
use Rattle.cert_text.specs.declared.cert.Claim.TheVariants.{Optimal, Within, Infeasible, Unbounded}
use Rattle.cert_text.specs.declared.cert.CertMult.{CertMult}
use Rattle.cert_text.specs.declared.cert.CertMult.TheVariants.{Row, Cut}
use Rattle.cert_text.specs.declared.cert.CertNode.{CertNode}
use Rattle.cert_text.specs.declared.cert.CertNode.TheVariants.{Split, Bound, Farkas, Empty}
use Rattle.cert_text.specs.declared.cert.Cert.{Cert}

abbrev pub HasFractions : Named → Type 0
HasFractions named = All (λ e. Fits e.1) named

abbrev pub HasClaimRoom : Claim → Type 0
HasClaimRoom (Optimal v) = Fits v
HasClaimRoom (Within g v) = Fits g × Fits v
HasClaimRoom Infeasible = Unit {0}
HasClaimRoom Unbounded = Unit {0}

-- the numbers of a point that is printed
abbrev pub HasPointRoom : Claim → Named → Type 0
HasPointRoom (Optimal v) named = HasFractions named
HasPointRoom (Within g v) named = HasFractions named
HasPointRoom Infeasible named = Unit {0}
HasPointRoom Unbounded named = HasFractions named

-- the numbers of a ray that is printed
abbrev pub HasRayRoom : Claim → Named → Type 0
HasRayRoom (Optimal v) named = Unit {0}
HasRayRoom (Within g v) named = Unit {0}
HasRayRoom Infeasible named = Unit {0}
HasRayRoom Unbounded named = HasFractions named

abbrev pub MultFits : CertMult → Type 0
MultFits (Row name v) = Fits v
MultFits (Cut k v) = Fits v × (k < 2 ^ 64)

abbrev pub HasNodeRoom : CertNode → Type 0
HasNodeRoom (Split col v) = Unit {0}
HasNodeRoom (Bound mults) = All MultFits mults
HasNodeRoom (Farkas mults) = All MultFits mults
HasNodeRoom Empty = Unit {0}

pub record HasCertRoom (cert : Cert) : Type 0 where
  pub claim : HasClaimRoom cert.claim
  pub point : HasPointRoom cert.claim cert.point
  pub ray : HasRayRoom cert.claim cert.ray
  pub nodes : All HasNodeRoom cert.nodes
