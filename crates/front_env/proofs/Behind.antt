-- Answers behind results that were placed before.
use Rattle.std.specs.Prelude.{ℕ, ◌-◌, ◌<◌, ◌≤◌, ◌^◌}
use Rattle.std.proofs.Common.{◌≡◌, refl, arith}
use Rattle.lp_model.specs.Program.{Program}
use Rattle.search_answers.specs.declared.answers.Answer.{Answer}
use Rattle.search_answers.specs.declared.answers.Answer.TheVariants.{Optimal, Within, Infeasible, Unbounded, Stopped, Memory}
use Rattle.tree_search.specs.declared.limits.Limits.{Limits}
use Rattle.front_solver.specs.Truth.{IsTrueOf, IsStop, shown_claim}
use Rattle.front_env.specs.FrontEnvs.{with_results, behind, IsStopBy, IsStopBehind}
use Rattle.front_env.specs.private.Going.{CountsBehind}

-- they are true with the results before them
pub behind_true : (M : Program) (n before : ℕ) (answer : Answer) → before ≤ n → IsTrueOf M (n - before) answer → IsTrueOf M n (behind before answer)
behind_true M n before (Optimal v x k) within h = let few = h.1 in (h.0, omega arith)
behind_true M n before (Within g v x k) within h = absurd h
behind_true M n before (Infeasible k) within h = let few = h.1 in (h.0, omega arith)
behind_true M n before (Unbounded k) within h = let few = h.1 in (h.0, omega arith)
behind_true M n before (Stopped why k bound best) within h = let few = h.1 in (h.0, omega arith)
behind_true M n before Memory within h = tt

-- and can be counted with them
pub counts_behind : (M : Program) (n before : ℕ) (answer : Answer) → before ≤ n → n < 2 ^ 64 → IsTrueOf M (n - before) answer → CountsBehind before answer
counts_behind M n before (Optimal v x k) within room h = let few = h.1 in omega arith
counts_behind M n before (Within g v x k) within room h = absurd h
counts_behind M n before (Infeasible k) within room h = let few = h.1 in omega arith
counts_behind M n before (Unbounded k) within room h = let few = h.1 in omega arith
counts_behind M n before (Stopped why k bound best) within room h = let few = h.1 in omega arith
counts_behind M n before Memory within room h = tt

pub behind_claim : (before : ℕ) (answer : Answer) → shown_claim (behind before answer) ≡ shown_claim answer
behind_claim before (Optimal v x k) = refl
behind_claim before (Within g v x k) = refl
behind_claim before (Infeasible k) = refl
behind_claim before (Unbounded k) = refl
behind_claim before (Stopped why k bound best) = refl
behind_claim before Memory = refl

behind_stop : (before : ℕ) (answer : Answer) → IsStop (behind before answer) → IsStop answer
behind_stop before (Optimal v x k) h = h
behind_stop before (Within g v x k) h = h
behind_stop before (Infeasible k) h = h
behind_stop before (Unbounded k) h = h
behind_stop before (Stopped why k bound best) h = h
behind_stop before Memory h = h

pub stopped_behind : (l : Limits) (M : Program) (n before : ℕ) (answer : Answer) → before ≤ n → (IsStop answer → IsStopBy (with_results l (n - before)) M answer) → IsStop (behind before answer) → IsStopBehind l M n (behind before answer)
stopped_behind l M n before answer within stopped stop = record { before = before; within = within; rest = answer; is = refl; stop = stopped (behind_stop before answer stop) }
