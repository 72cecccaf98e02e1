-- An inner model with a point, whose objective has an end, is solved to an optimum or a stop.
use Rattle.std.specs.Prelude.{◌≡◌, ℕ, ◌+◌, ◌-◌, ◌<◌, ◌≤◌, ◌^◌, ℤ, Option, Some, None, IsSome, MatchOption}
use Rattle.std.proofs.Common.{refl, sym, subst, ◌∙◌, arith}
use Rattle.frac128.specs.Rational.{ℚ, int}
use Rattle.lp_model.specs.Program.{Program, value, IsEmpty, HasWholeObjective}
use Rattle.lp_model.specs.Lawful.{IsLawful}
use Rattle.search_answers.specs.declared.answers.Answer.{Answer}
use Rattle.search_answers.specs.declared.answers.Answer.TheVariants as solve
use Rattle.cert_text.specs.declared.cert.Claim.{Claim}
use Rattle.cert_text.specs.declared.cert.Claim.TheVariants as claim
use Rattle.cert_text.specs.declared.cert.Cert.{Cert}
use Rattle.inner_models.proofs.BoundedValues.{never_unbounded}
use Rattle.front_solver.specs.declared.solved.Solved.{Solved}
use Rattle.front_solver.specs.Truth.{IsTrueOf, IsStop, shown_claim, IsCertifiedAs}
use Rattle.front_solver.specs.Solved.{HasSolved}
use Rattle.wcn_driver.specs.declared.settling.Optimum.{Optimum}
use Rattle.wcn_driver.specs.declared.settling.Halt.{Halt}
use Rattle.wcn_driver.specs.declared.settling.Halt.TheVariants.{Stopped, Wide, Memory}
use Rattle.wcn_driver.specs.declared.answers.Part.{Part}
use Rattle.wcn_driver.specs.Parts.{part_model}
use Rattle.wcn_driver.specs.private.Settled.{CanEnd, CanSettle, CountsWithin, IsOptimumOf, IsPartOptimum, IsHaltOf, IsHalt}

claimed_some : (P : Program) (c : Claim) (cert : Option Cert) → MatchOption cert (Some c ≡ None) (IsCertifiedAs P (Some c)) → IsSome cert
claimed_some P c None none = absurd cc
claimed_some P c (Some cert) h = refl

can_end : (P : Program) (n : ℕ) (answer : Answer) (cert : Option Cert) → HasWholeObjective P 1 → IsTrueOf P n answer → IsLawful P → MatchOption cert (shown_claim answer ≡ None) (IsCertifiedAs P (shown_claim answer)) → CanEnd answer cert
can_end P n (solve.Optimal v x here) cert whole is lawful certified = claimed_some P (claim.Optimal v) cert certified
can_end P n (solve.Within g v x here) cert whole is lawful certified = is
can_end P n (solve.Infeasible here) cert whole is lawful certified = claimed_some P claim.Infeasible cert certified
can_end P n (solve.Unbounded here) cert whole is lawful certified = never_unbounded P lawful whole is.0
can_end P n (solve.Stopped why here bound best) cert whole is lawful certified = tt
can_end P n solve.Memory cert whole is lawful certified = tt

can : (P : Program) (n : ℕ) (answer : Answer) (cert : Option Cert) → (¬ IsEmpty P) → IsTrueOf P n answer → CanEnd answer cert → CanSettle answer cert
can P n (solve.Optimal v x here) cert some is end = end
can P n (solve.Within g v x here) cert some is end = end
can P n (solve.Infeasible here) cert some is end = some is.0
can P n (solve.Unbounded here) cert some is end = end
can P n (solve.Stopped why here bound best) cert some is end = tt
can P n solve.Memory cert some is end = tt

-- what can be settled has an end
pub settled_end : (answer : Answer) (cert : Option Cert) → CanSettle answer cert → CanEnd answer cert
settled_end (solve.Optimal v x here) cert can = can
settled_end (solve.Within g v x here) cert can = can
settled_end (solve.Infeasible here) cert can = absurd can
settled_end (solve.Unbounded here) cert can = can
settled_end (solve.Stopped why here bound best) cert can = tt
settled_end solve.Memory cert can = tt

counts : (P : Program) (n before : ℕ) (answer : Answer) → IsTrueOf P n answer → before + n < 2 ^ 64 → CountsWithin before answer
counts P n before (solve.Optimal v x here) is room = let few = is.1 in omega arith
counts P n before (solve.Within g v x here) is room = absurd is
counts P n before (solve.Infeasible here) is room = let few = is.1 in omega arith
counts P n before (solve.Unbounded here) is room = let few = is.1 in omega arith
counts P n before (solve.Stopped why here bound best) is room = let few = is.1 in omega arith
counts P n before solve.Memory is room = tt

module _ (stops : Program → ℕ → Answer → Type 0) (P : Program) (nodes before : ℕ) (s : Solved) (is : HasSolved stops P (nodes - before) s) (within : before ≤ nodes) where
  pub ending : HasWholeObjective P 1 → CanEnd s.answer s.cert
  ending whole = can_end P (nodes - before) s.answer s.cert whole is.true_of is.lawful is.certified

  pub settling : ¬ IsEmpty P → HasWholeObjective P 1 → CanSettle s.answer s.cert
  settling some whole = can P (nodes - before) s.answer s.cert some is.true_of (ending whole)

  pub counting : nodes < 2 ^ 64 → CountsWithin before s.answer
  counting room = counts P (nodes - before) before s.answer is.true_of (omega arith)

  -- what an optimum is
  pub optimum_of : (o : Optimum) → IsOptimumOf before s o → IsPartOptimum P nodes o
  optimum_of o h =
      let truth : IsTrueOf P (nodes - before) (solve.Optimal o.value o.point h.here) = subst (IsTrueOf P (nodes - before)) h.answer is.true_of in
      let certified : IsCertifiedAs P (Some (claim.Optimal o.value)) o.cert =
      subst (λ (cert : Option Cert). MatchOption cert (shown_claim (solve.Optimal o.value o.point h.here) ≡ None) (IsCertifiedAs P (shown_claim (solve.Optimal o.value o.point h.here)))) h.cert
      (subst (λ (answer : Answer). MatchOption s.cert (shown_claim answer ≡ None) (IsCertifiedAs P (shown_claim answer))) h.answer is.certified) in
      let few = truth.1 in
      let all = h.results in
      record { optimum = truth.0.0; value_is = truth.0.1; judged = truth.0.2; certified = certified; within = omega arith }

  -- what it says that no point is feasible
  pub empty_of : (cert : Cert) (here results : ℕ) → s.answer ≡ solve.Infeasible here → s.cert ≡ Some cert → results ≡ before + here → (IsEmpty P × (results ≤ nodes)) × IsCertifiedAs P (Some claim.Infeasible) cert
  empty_of cert here results answer_is cert_is all =
      let truth : IsTrueOf P (nodes - before) (solve.Infeasible here) = subst (IsTrueOf P (nodes - before)) answer_is is.true_of in
      let certified : IsCertifiedAs P (Some claim.Infeasible) cert =
      subst (λ (c : Option Cert). MatchOption c (shown_claim (solve.Infeasible here) ≡ None) (IsCertifiedAs P (shown_claim (solve.Infeasible here)))) cert_is
      (subst (λ (answer : Answer). MatchOption s.cert (shown_claim answer ≡ None) (IsCertifiedAs P (shown_claim answer))) answer_is is.certified) in
      let few = truth.1 in
      ((truth.0, omega arith), certified)

-- what a halt is
pub halt_of : (stops : Program → ℕ → Answer → Type 0) (N : Program) (nodes before : ℕ) (c d i1 i2 : ℤ) (part : Part) (s : Solved) → HasSolved stops (part_model N i1 i2 part) (nodes - before) s → before ≤ nodes → (halt : Halt) → IsHaltOf before s halt → IsHalt stops N nodes c d i1 i2 part halt
halt_of stops N nodes before c d i1 i2 part s is within (Stopped why results bound best) h =
    let P : Program = part_model N i1 i2 part in
    let truth : IsTrueOf P (nodes - before) (solve.Stopped why h.0 bound best) = subst (IsTrueOf P (nodes - before)) h.1.0 is.true_of in
    let stopped : stops P (nodes - before) (solve.Stopped why h.0 bound best) =
    subst (λ (answer : Answer). IsStop answer → stops P (nodes - before) answer) h.1.0 is.stopped tt in
    let few = truth.1 in
    let all = h.1.1 in
    (record { before = before; here = h.0; sum = sym h.1.1; within = omega arith; stopped = stopped }, truth.0)
halt_of stops N nodes before c d i1 i2 part s is within (Wide at) h = absurd h
halt_of stops N nodes before c d i1 i2 part s is within Memory h = tt

-- the certificate claims the value, which is whole
pub certified_value : (P : Program) (nodes : ℕ) (o : Optimum) (k : ℤ) → IsPartOptimum P nodes o → value P 1 o.point ≡ int k → IsCertifiedAs P (Some (claim.Optimal (int k))) o.cert
certified_value P nodes o k h is = subst (λ (v : ℚ). IsCertifiedAs P (Some (claim.Optimal v)) o.cert) (h.value_is ∙ is) h.certified
