-- What a solver's answers say of its model.
--     IsTrueOf M n answer      what is answered is so of M, with at most n results, and never a point within a gap; an optimum's point was judged feasible, each step having room
--     shown_claim answer          what of it a tree proves: an optimum, or that no point is feasible
--     IsCertifiedAs M c cert     the certificate claims c, and the checker accepts it for M, each step having room
use Rattle.std.specs.Prelude.{◌≡◌, ℕ, ◌≤◌, true, Option, Some, None, Ok}
use Rattle.lp_model.specs.Program.{Program, IsOptimum, IsEmpty, value}
use Rattle.search_answers.specs.declared.answers.Answer.{Answer}
use Rattle.search_answers.specs.declared.answers.Answer.TheVariants.{Optimal, Within, Infeasible, Unbounded, Stopped, Memory}
use Rattle.model_points.specs.Answers.{IsFeasibilityAnswer}
use Rattle.model_points.specs.Bounds.{IsBound, IsFoundValue}
use Rattle.model_points.specs.Rays.{IsUnbounded}
use Rattle.cert_text.specs.declared.cert.Claim.{Claim}
use Rattle.cert_text.specs.declared.cert.Claim.TheVariants as claim
use Rattle.cert_text.specs.declared.cert.Cert.{Cert}
use Rattle.cert_text.specs.Whole.{IsCertificate}
use Rattle.cert_check.specs.declared.verdict.Verdict.TheVariants.{Accepted}
use Rattle.cert_check.specs.Verdict.{IsVerdict}

abbrev pub IsTrueOf : Program → ℕ → Answer → Type 0
IsTrueOf M n (Optimal v x placed) = (IsOptimum M x × (v ≡ value M 1 x) × IsFeasibilityAnswer M x (Ok true)) × (placed ≤ n)
IsTrueOf M n (Within g v x placed) = ⊥
IsTrueOf M n (Infeasible placed) = IsEmpty M × (placed ≤ n)
IsTrueOf M n (Unbounded placed) = IsUnbounded M × (placed ≤ n)
IsTrueOf M n (Stopped why placed bound best) = (IsBound M bound × IsFoundValue M best) × (placed ≤ n)
IsTrueOf M n Memory = Unit {0}

abbrev pub IsStop : Answer → Type 0
IsStop (Optimal v x placed) = ⊥
IsStop (Within g v x placed) = ⊥
IsStop (Infeasible placed) = ⊥
IsStop (Unbounded placed) = ⊥
IsStop (Stopped why placed bound best) = Unit {0}
IsStop Memory = ⊥

abbrev pub shown_claim : Answer → Option Claim
shown_claim (Optimal v x placed) = Some (claim.Optimal v)
shown_claim (Within g v x placed) = None
shown_claim (Infeasible placed) = Some claim.Infeasible
shown_claim (Unbounded placed) = None
shown_claim (Stopped why placed bound best) = None
shown_claim Memory = None

pub record IsCertifiedAs (M : Program) (shown : Option Claim) (cert : Cert) : Type 0 where
  pub claims : shown ≡ Some cert.claim
  pub accepted : IsVerdict M cert (Accepted cert.claim)
  pub whole : IsCertificate cert
