-- What the judging of a leaf's number tells.
use Rattle.std.specs.Prelude.{ℕ}
use Rattle.std.proofs.Common.{refl, sym, subst, inl, inr}
use Rattle.frac128.specs.Rational.{◌-ℚ◌}
use Rattle.lp_model.specs.Program.{in_least_form}
use Rattle.lp_model.specs.Regions.{Path}
use Rattle.lp_model.specs.Formulations.{Formulation}
use Rattle.leaf_dual.specs.Dual.{Multipliers, farkas, IsPositiveNumber, ReachesIn}
use Rattle.leaf_dual.proofs.WeakDuality.{lag_answer-is, farkas_answer-is}
use Rattle.cert_text.specs.declared.cert.Claim.{Claim}
use Rattle.cert_text.specs.declared.cert.Claim.TheVariants.{Optimal, Within, Infeasible, Unbounded}
use Rattle.cert_check.specs.declared.verdict.Judgement.TheVariants.{Passes, Breaks}
use Rattle.cert_check.specs.Accepted.{ReachesClaim}
use Rattle.cert_check.specs.Verdict.{IsNumberJudged, IsFarkasJudged}
use Rattle.cert_check.specs.LeafJudging.{LeavesLaw}

module _ (F : Formulation) (path : Path) (mult : Multipliers) where
  pub bound-passes : (claim : Claim) → IsNumberJudged F claim path mult Passes → ReachesClaim F claim path mult
  bound-passes (Optimal v) (q, (answer, reaches)) = subst (λ w. ReachesIn F.model w (in_least_form F.model.sense v)) (lag_answer-is F path mult q answer) reaches
  bound-passes (Within g v) (inl (fits, (q, (answer, reaches)))) = subst (λ w. ReachesIn F.model w (in_least_form F.model.sense v -ℚ g)) (lag_answer-is F path mult q answer) reaches
  bound-passes (Within g v) (inr first) = absurd (first.1 refl)
  bound-passes Infeasible e = absurd cc
  bound-passes Unbounded e = absurd cc

  pub bound-breaks : (claim : Claim) (why : ℕ) → IsNumberJudged F claim path mult (Breaks why) → ¬ ReachesClaim F claim path mult
  bound-breaks (Optimal v) why (q, (answer, (none, is))) reaches = none (subst (λ w. ReachesIn F.model w (in_least_form F.model.sense v)) (sym (lag_answer-is F path mult q answer)) reaches)
  bound-breaks (Within g v) why (inl (fits, (q, (answer, (none, is))))) reaches =
      none (subst (λ w. ReachesIn F.model w (in_least_form F.model.sense v -ℚ g)) (sym (lag_answer-is F path mult q answer)) reaches)
  bound-breaks (Within g v) why (inr first) reaches = first.0
  bound-breaks Infeasible why e reaches = reaches
  bound-breaks Unbounded why e reaches = reaches

  pub farkas-passes : IsFarkasJudged F path mult Passes → IsPositiveNumber (farkas F path mult)
  farkas-passes (q, (answer, positive)) = subst IsPositiveNumber (farkas_answer-is F path mult q answer) positive

  pub farkas-breaks : (why : ℕ) → IsFarkasJudged F path mult (Breaks why) → ¬ IsPositiveNumber (farkas F path mult)
  farkas-breaks why (q, (answer, (none, is))) positive = none (subst IsPositiveNumber (sym (farkas_answer-is F path mult q answer)) positive)

pub judged_numbers : LeavesLaw
judged_numbers F path mult = record { bound = bound-passes F path mult; no_bound = bound-breaks F path mult; positive = farkas-passes F path mult; not_positive = farkas-breaks F path mult }
