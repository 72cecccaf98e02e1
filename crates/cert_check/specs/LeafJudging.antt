-- What the judging of a leaf's number tells: what passes closes, and what breaks does not.
use Rattle.std.specs.Prelude.{ℕ}
use Rattle.lp_model.specs.Regions.{Path}
use Rattle.lp_model.specs.Formulations.{Formulation}
use Rattle.leaf_dual.specs.Dual.{Multipliers, farkas, IsPositiveNumber}
use Rattle.cert_text.specs.declared.cert.Claim.{Claim}
use Rattle.cert_check.specs.declared.verdict.Judgement.TheVariants.{Passes, Breaks}
use Rattle.cert_check.specs.Accepted.{ReachesClaim}
use Rattle.cert_check.specs.Verdict.{IsNumberJudged, IsFarkasJudged}

pub record JudgedNumbers (F : Formulation) (path : Path) (mult : Multipliers) : Type 0 where
  pub bound : (claim : Claim) → IsNumberJudged F claim path mult Passes → ReachesClaim F claim path mult
  pub no_bound : (claim : Claim) (why : ℕ) → IsNumberJudged F claim path mult (Breaks why) → ¬ ReachesClaim F claim path mult
  pub positive : IsFarkasJudged F path mult Passes → IsPositiveNumber (farkas F path mult)
  pub not_positive : (why : ℕ) → IsFarkasJudged F path mult (Breaks why) → ¬ IsPositiveNumber (farkas F path mult)

abbrev pub LeavesLaw : Type 0
LeavesLaw = (F : Formulation) (path : Path) (mult : Multipliers) → JudgedNumbers F path mult
