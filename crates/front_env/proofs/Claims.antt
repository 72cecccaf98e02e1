-- What is true of a model is claimed of it in one way.
use Rattle.std.proofs.Common.{◌≡◌, refl, sym, ap, subst, ◌∙◌}
use Rattle.std.specs.Prelude.{Option, Some, None, IsSome, Result, Ok, Err, IfOk}
use Rattle.std.specs.Ordering.{MatchOrdering}
use Rattle.std.specs.declared.cmp.Ordering.{Ordering}
use Rattle.std.specs.declared.cmp.Ordering.TheVariants.{Less, Equal, Greater}
use Rattle.frac128.specs.Rational.{ℚ, ◌<ℚ◌, rational_cmp}
use Rattle.frac128.proofs.Comparison.{compared}
use Rattle.lp_model.specs.Program.{Program, Point, IsOptimum, value, least_value, in_own_sense}
use Rattle.lp_model.proofs.SenseLemmas.{own-least}
use Rattle.cert_text.specs.declared.cert.Claim.{Claim}
use Rattle.cert_text.specs.declared.cert.Claim.TheVariants.{Optimal, Within, Infeasible, Unbounded}
use Rattle.cert_text.specs.declared.cert.Cert.{Cert}
use Rattle.cert_text.specs.Whole.{IsCertificate}
use Rattle.cert_check.specs.Laws.{IsTrueClaim, AcceptedLaw, VerdictLaw}
use Rattle.cert_check.specs.Verdict.{IsVerdict}
use Rattle.cert_check.specs.declared.verdict.Verdict.TheVariants.{Accepted}
use Rattle.sound_searches.specs.Sound.{PlainSearch}
use Rattle.kept_env.specs.Env.{PlainEnv}
use Rattle.tree_cert.specs.Certificates.{claim_of, IsCertificateOf}
use Rattle.front_solver.specs.Truth.{IsCertifiedAs}
use Rattle.front_env.specs.FrontEnvs.{program_in, IsExactClaim, IsProvedIn}

not_ranked : (x y : ℚ) → ¬ (x <ℚ y) → ¬ (y <ℚ x) → x ≡ y
not_ranked x y below above = by (rational_cmp x y) (compared x y).1
  where
    by : (o : Ordering) → MatchOrdering o (x <ℚ y) (x ≡ y) (y <ℚ x) → x ≡ y
    by Less h = absurd (below h)
    by Equal h = h
    by Greater h = absurd (above h)

one_value : (M : Program) (x y : Point) → IsOptimum M x → IsOptimum M y → value M 1 x ≡ value M 1 y
one_value M x y first second =
    let least : least_value M 1 x ≡ least_value M 1 y =
    not_ranked (least_value M 1 x) (least_value M 1 y) (λ h. second.unbeaten x first.feasible (record { better = h })) (λ h. first.unbeaten y second.feasible (record { better = h })) in
    sym (own-least M.sense (value M 1 x)) ∙ ap (in_own_sense M.sense) least ∙ own-least M.sense (value M 1 y)

one_claim : (M : Program) (a b : Claim) → IsTrueClaim M a → IsTrueClaim M b → IsExactClaim a → IsExactClaim b → a ≡ b
one_claim M (Optimal v) (Optimal w) first second exact_a exact_b = ap Optimal (sym first.1.1 ∙ one_value M first.0 second.0 first.1.0 second.1.0 ∙ second.1.1)
one_claim M (Optimal v) (Within g w) first second exact_a exact_b = absurd exact_b
one_claim M (Optimal v) Infeasible first second exact_a exact_b = absurd (second first.0 first.1.0.feasible)
one_claim M (Optimal v) Unbounded first second exact_a exact_b = absurd exact_b
one_claim M Infeasible (Optimal w) first second exact_a exact_b = absurd (first second.0 second.1.0.feasible)
one_claim M Infeasible (Within g w) first second exact_a exact_b = absurd exact_b
one_claim M Infeasible Infeasible first second exact_a exact_b = refl
one_claim M Infeasible Unbounded first second exact_a exact_b = absurd exact_b
one_claim M (Within g v) b first second exact_a exact_b = absurd exact_a
one_claim M Unbounded b first second exact_a exact_b = absurd exact_a

claimed-exact : (M : Program) (best : Option Point) → IsExactClaim (claim_of M best)
claimed-exact M None = tt
claimed-exact M (Some x) = tt

-- the certificate of a search claims what is shown of its model
pub certified : (S : PlainSearch) (env : PlainEnv) (shown : Option Claim) (cert : Cert) → env.search ≡ Some S → IsProvedIn env shown → IsSome shown → IsCertificateOf S cert → IsCertificate cert → IsVerdict S.model cert (Accepted cert.claim) →
    VerdictLaw → AcceptedLaw → IsCertifiedAs (program_in env.search) shown cert
certified S env None cert there proved some exact whole accepted verdicts truths = absurd cc
certified S env (Some claim) cert there proved some exact whole accepted verdicts truths =
    let meant = (verdicts S.model cert cert.claim whole accepted).1 in
    let plain : IsExactClaim cert.claim = subst IsExactClaim (sym exact.claim) (claimed-exact S.model exact.incumbent) in
    let same = one_claim S.model claim cert.claim (subst (λ s. IsTrueClaim (program_in s) claim) there proved.true_claim) (truths S.model cert meant) proved.exact plain in
    subst (λ s. IsCertifiedAs (program_in s) (Some claim) cert) (sym there) (record { claims = ap Some same; accepted = accepted; whole = whole })

-- where the last call may have had no memory
pub certified_if : {E : Type 0} (r : Result Cert E) (S : PlainSearch) (env : PlainEnv) (shown : Option Claim) → env.search ≡ Some S → IsProvedIn env shown → IsSome shown → IfOk r (λ cert. IsCertificateOf S cert) → IfOk r IsCertificate →
    IfOk r (λ cert. IsVerdict S.model cert (Accepted cert.claim)) → VerdictLaw → AcceptedLaw → IfOk r (λ cert. IsCertifiedAs (program_in env.search) shown cert)
certified_if (Ok cert) S env shown there proved some exact whole accepted verdicts truths = certified S env shown cert there proved some exact whole accepted verdicts truths
certified_if (Err e) S env shown there proved some exact whole accepted verdicts truths = tt
