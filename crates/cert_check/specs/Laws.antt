-- What an accepted certificate proves.
use Rattle.std.specs.Prelude.{◌≡◌, ℕ}
use Rattle.lp_model.specs.Program.{Program, Point, value, IsOptimum, IsWithinGap, IsEmpty}
use Rattle.model_points.specs.Rays.{IsUnbounded}
use Rattle.cert_text.specs.declared.cert.Claim.{Claim}
use Rattle.cert_text.specs.declared.cert.Claim.TheVariants.{Optimal, Within, Infeasible, Unbounded}
use Rattle.cert_text.specs.declared.cert.Cert.{Cert}
use Rattle.cert_check.specs.declared.verdict.Verdict.{Verdict}
use Rattle.cert_check.specs.declared.verdict.Verdict.TheVariants.{Accepted, Rejected}
use Rattle.cert_check.specs.Accepted.{Accepts}
use Rattle.cert_check.specs.Verdict.{IsVerdict}
use Rattle.cert_text.specs.Whole.{IsCertificate}

-- a feasible point that no feasible point beats, or by no more than the gap, has the value; no point is feasible; one is, and there are
-- feasible points below each whole number
abbrev pub IsTrueClaim : Program → Claim → Type 0
IsTrueClaim M (Optimal v) = (x : Point) × (IsOptimum M x × (value M 1 x ≡ v))
IsTrueClaim M (Within g v) = (x : Point) × (IsWithinGap M g x × (value M 1 x ≡ v))
IsTrueClaim M Infeasible = IsEmpty M
IsTrueClaim M Unbounded = IsUnbounded M

abbrev pub AcceptedLaw : Type 0
AcceptedLaw = (M : Program) (cert : Cert) → Accepts M cert → IsTrueClaim M cert.claim

-- a certificate that is judged and found accepted is accepted by the definition, and what was told is its claim
abbrev pub VerdictLaw : Type 0
VerdictLaw = (M : Program) (cert : Cert) (claim : Claim) → IsCertificate cert → IsVerdict M cert (Accepted claim) → (claim ≡ cert.claim) × Accepts M cert

-- a certificate that is rejected is not accepted by the definition
abbrev pub RejectedLaw : Type 0
RejectedLaw = (M : Program) (cert : Cert) (number why : ℕ) → IsVerdict M cert (Rejected number why) → ¬ Accepts M cert

-- a certificate has at most one verdict for a model
abbrev pub OneVerdictLaw : Type 0
OneVerdictLaw = (M : Program) (cert : Cert) (a b : Verdict) → IsVerdict M cert a → IsVerdict M cert b → a ≡ b
