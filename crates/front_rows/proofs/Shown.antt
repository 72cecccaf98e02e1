-- What an accepted certificate shows of its model.
use Rattle.std.specs.Prelude.{◌≡◌, true, Option, Some, MatchOption, Ok}
use Rattle.std.proofs.Common.{sym, subst, ◌∙◌}
use Rattle.frac128.specs.Rational.{ℚ, ◌<ℚ◌, ◌≤ℚ◌}
use Rattle.frac128.specs.RationalOrder.{not_both_ℚ, ≤ℚ_trans, ≤ℚ_from_not}
use Rattle.lp_model.specs.Program.{Program, Point, IsFeasible, IsOptimum, value, least_value, in_least_form}
use Rattle.lp_model.specs.Lawful.{column_names}
use Rattle.lp_model.specs.Edits.{Named}
use Rattle.model_points.specs.Answers.{IsFeasibilityAnswer}
use Rattle.model_points.specs.Bounds.{IsBound, IsFoundValue}
use Rattle.cert_text.specs.declared.cert.Claim.{Claim}
use Rattle.cert_text.specs.declared.cert.Claim.TheVariants.{Optimal}
use Rattle.cert_text.specs.declared.cert.Cert.{Cert}
use Rattle.cert_check.specs.declared.verdict.Judgement.TheVariants.{Passes}
use Rattle.cert_check.specs.declared.verdict.Verdict.TheVariants.{Accepted}
use Rattle.cert_check.specs.Cuts.{formulation_by, AreCutsJudged}
use Rattle.cert_check.specs.Accepted.{AreNames, HasPoint, HasValue, HasClosedTree, Accepts, point_of}
use Rattle.cert_check.specs.Verdict.{IsPointJudged, IsClaimJudged, IsVerdict}
use Rattle.cert_check.proofs.ClosedTree.{closed_tree-bound}
use Rattle.front_check.proofs.FrontVerdicts.{both, found_there}

-- what is told of an accepted certificate is its claim
pub told_verdict : (M : Program) (cert : Cert) (told : Claim) → IsVerdict M cert (Accepted told) → IsVerdict M cert (Accepted cert.claim)
told_verdict M cert told h = subst (λ (c : Claim). IsVerdict M cert (Accepted c)) h.is.0 h

-- the point of a claimed value was judged, each step having room
judged_point : (M : Program) (cert : Cert) (v : ℚ) → cert.claim ≡ Optimal v → IsVerdict M cert (Accepted cert.claim) → IsFeasibilityAnswer M (point_of M cert.point) (Ok true)
judged_point M cert v e h =
    let head = both (IsClaimJudged M cert.claim cert.point cert.ray) (AreCutsJudged M cert.cuts) h.is.1 in
    let claim = subst (λ (c : Claim). IsClaimJudged M c cert.point cert.ray Passes) e head.0 in
    (found_there (AreNames (column_names M) cert.point) (IsPointJudged M v (point_of M cert.point)) claim).1.0

-- the point with the numbers beside names, where they are named well
pub named_point : (M : Program) (named : Named) (found : Option Point) (x : Point) → found ≡ Some x → MatchOption found (¬ AreNames (column_names M) named) (λ (y : Point). AreNames (column_names M) named × (y ≡ point_of M named)) → x ≡ point_of M named
named_point M named found x e h = (subst (λ (o : Option Point). MatchOption o (¬ AreNames (column_names M) named) (λ (y : Point). AreNames (column_names M) named × (y ≡ point_of M named))) e h).1

claimed_value : (M : Program) (cert : Cert) (v : ℚ) → cert.claim ≡ Optimal v → Accepts M cert → HasValue M cert.point v
claimed_value M cert v e accepts = subst (λ (c : Claim). HasPoint M c cert.point) e accepts.point

claimed_bound : (M : Program) (cert : Cert) (v : ℚ) → cert.claim ≡ Optimal v → Accepts M cert → (y : Point) → IsFeasible M y → in_least_form M.sense v ≤ℚ least_value M 1 y
claimed_bound M cert v e accepts =
    closed_tree-bound M cert.cuts accepts.cuts v cert.nodes (subst (λ (c : Claim). HasClosedTree (formulation_by M cert.cuts) c cert.nodes) e accepts.nodes)

-- the point of a claimed value is an optimum with it
pub claimed_optimum : (M : Program) (cert : Cert) (v : ℚ) → cert.claim ≡ Optimal v → IsVerdict M cert (Accepted cert.claim) → Accepts M cert →
    IsOptimum M (point_of M cert.point) × (v ≡ value M 1 (point_of M cert.point)) × IsFeasibilityAnswer M (point_of M cert.point) (Ok true)
claimed_optimum M cert v e verdict accepts =
    let has = claimed_value M cert v e accepts in (
      record {
        feasible = has.feasible;
        unbeaten = λ y y_feasible beats.
            not_both_ℚ (subst (λ w. in_least_form M.sense w ≤ℚ least_value M 1 y) (sym has.is) (claimed_bound M cert v e accepts y y_feasible)) beats.better;
      },
      sym has.is,
      judged_point M cert v e verdict,
    )

-- a bound that the claimed value isn't below holds
pub shown_bound : (M : Program) (cert : Cert) (v bound : ℚ) → cert.claim ≡ Optimal v → Accepts M cert → ¬ (in_least_form M.sense v <ℚ in_least_form M.sense bound) → IsBound M (Some bound)
shown_bound M cert v bound e accepts reached =
    λ y y_feasible. ≤ℚ_trans (≤ℚ_from_not (in_least_form M.sense bound) (in_least_form M.sense v) reached) (claimed_bound M cert v e accepts y y_feasible)

-- the claimed value is that of a feasible point
pub shown_best : (M : Program) (cert : Cert) (v best : ℚ) → cert.claim ≡ Optimal v → Accepts M cert → v ≡ best → IsFoundValue M (Some best)
shown_best M cert v best e accepts same =
    let has = claimed_value M cert v e accepts in
    (point_of M cert.point, (has.feasible, sym same ∙ sym has.is))
