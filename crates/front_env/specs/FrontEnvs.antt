-- An environment that solves inner models of a front: a model with a search of its own, the limits, and what its last solve has shown.
--     program_of e           the model that it has
--     stops_of e M n answer  it may stop so with the model M and at most n results
use Rattle.std.specs.Prelude.{◌≡◌, ℕ, ◌+◌, ◌-◌, ◌≤◌, false, [], Option, Some, None, IsSome, refl}
use Rattle.std.specs.Coded.{Coded, code_by, coded×, coded_option}
use Rattle.lp_model.specs.Program.{Program}
use Rattle.lp_model.specs.declared.types.Sense.TheVariants.{Min}
use Rattle.search_answers.specs.declared.answers.Answer.{Answer}
use Rattle.search_answers.specs.declared.answers.Answer.TheVariants.{Optimal, Within, Infeasible, Unbounded, Stopped, Memory}
use Rattle.sound_searches.specs.Sound.{PlainSearch}
use Rattle.kept_env.specs.Env.{PlainEnv, env_code}
use Rattle.kept_env.specs.declared.held.Held.TheVariants.{Finished}
use Rattle.tree_search.specs.Solves.{Solved}
use Rattle.tree_search.specs.Enough.{IsEnough}
use Rattle.tree_search.specs.declared.limits.Limits.{Limits}
use Rattle.tree_search.specs.contracts.limits.Limits.{the_row as limits_row}
use Rattle.cert_text.specs.declared.cert.Claim.{Claim}
use Rattle.cert_text.specs.contracts.cert.Claim.{the_row as claim_row}
use Rattle.cert_text.specs.declared.cert.Claim.TheVariants as claim
use Rattle.cert_check.specs.Laws.{IsTrueClaim}

pub record PlainFrontEnv : Type 0 where
  -- its own, with a model
  pub env : PlainEnv
  pub shown : Option Claim
  -- how far each solve may go; how many results it may place is said at each
  pub limits : Limits

-- ---- the model

abbrev pub unloaded_program : Program
unloaded_program = record { sense = Min; obj = []; obj2 = []; consts = []; rows = []; cols = []; wide = false }

abbrev pub program_in : Option PlainSearch → Program
program_in (Some S) = S.model
program_in None = unloaded_program

abbrev pub program_of : PlainFrontEnv → Program
program_of e = program_in e.env.search

-- ---- what is shown

-- an optimum, or that no point is feasible: at most one such claim is true of a model
abbrev pub IsExactClaim : Claim → Type 0
IsExactClaim (claim.Optimal v) = Unit {0}
IsExactClaim (claim.Within g v) = ⊥
IsExactClaim claim.Infeasible = Unit {0}
IsExactClaim claim.Unbounded = ⊥

-- the claim is true of the model, and the search's tree proves it
pub record IsProvedClaim (env : PlainEnv) (shown : Claim) : Type 0 where
  pub held : env.held ≡ Finished
  pub true_claim : IsTrueClaim (program_in env.search) shown
  pub exact : IsExactClaim shown

abbrev pub IsProvedIn : PlainEnv → Option Claim → Type 0
IsProvedIn env None = Unit {0}
IsProvedIn env (Some shown) = IsProvedClaim env shown

pub record IsFrontEnv (e : PlainFrontEnv) : Type 0 where
  pub loaded : IsSome e.env.search
  pub shown : IsProvedIn e.env e.shown
  pub workers : 1 ≤ e.limits.workers

-- ---- stops

-- these limits with at most n results, and no gap
abbrev pub with_results : Limits → ℕ → Limits
with_results l n = record { nodes = n; pivots = l.pivots; tree = l.tree; workers = l.workers; seed = l.seed; gap = None }

-- A search of M by these limits, from a fresh root on, answers so, by its cause over that search, its pool and the limits; and the limits
-- were not enough for it to go to its end.
pub record IsStopBy (l : Limits) (M : Program) (answer : Answer) : Type 0 where
  pub search : PlainSearch
  pub solved : Solved M l answer search
  pub short : ¬ IsEnough M search.cuts l

-- the answer, where so many results were placed before
abbrev pub behind : ℕ → Answer → Answer
behind before (Optimal v x n) = Optimal v x (before + n)
behind before (Within g v x n) = Within g v x (before + n)
behind before (Infeasible n) = Infeasible (before + n)
behind before (Unbounded n) = Unbounded (before + n)
behind before (Stopped why n bound best) = Stopped why (before + n) bound best
behind before Memory = Memory

-- With at most n results: behind some, which a search that was let go had placed, this is answered with those that remain.
pub record IsStopBehind (l : Limits) (M : Program) (n : ℕ) (answer : Answer) : Type 0 where
  pub before : ℕ
  pub within : before ≤ n
  pub rest : Answer
  pub is : answer ≡ behind before rest
  pub stop : IsStopBy (with_results l (n - before)) M rest

abbrev pub stops_of : PlainFrontEnv → Program → ℕ → Answer → Type 0
stops_of e M n answer = IsStopBehind e.limits M n answer

-- ---- as data

abbrev pub front_env_code : Coded PlainFrontEnv
front_env_code =
    code_by (PlainEnv × (Option Claim × Limits)) (coded× env_code (coded× (coded_option claim_row.coded) limits_row.coded)) (λ e. (e.env, (e.shown, e.limits)))
    (λ p. record { env = p.0; shown = p.1.0; limits = p.1.1 })
    (λ _. refl)
