-- What going on with a kept search comes to.
use Rattle.std.specs.Prelude.{◌≡◌, ℕ, ◌+◌, ◌<◌, ◌≤◌, ◌^◌, length}
use Rattle.lp_model.specs.Program.{Program}
use Rattle.search_answers.specs.declared.answers.Answer.{Answer}
use Rattle.search_answers.specs.declared.answers.Answer.TheVariants.{Optimal, Within, Infeasible, Unbounded, Stopped, Memory}
use Rattle.kept_env.specs.Env.{PlainEnv}
use Rattle.tree_search.specs.declared.limits.Limits.{Limits}
use Rattle.front_solver.specs.Truth.{IsTrueOf, IsStop, shown_claim}
use Rattle.front_env.specs.FrontEnvs.{IsProvedIn}
use Rattle.front_env.specs.declared.resuming.GoneOn.{GoneOn}
use Rattle.front_env.specs.declared.resuming.GoneOn.TheVariants as gone

-- as many rows and as many columns: the lists of a tree name what is there in both
pub record AreAlike (M N : Program) : Type 0 where
  pub rows : length M.rows ≡ length N.rows
  pub cols : length M.cols ≡ length N.cols

-- the results can be counted beside those before
abbrev pub CountsBehind : ℕ → Answer → Type 0
CountsBehind before (Optimal v x n) = before + n < 2 ^ 64
CountsBehind before (Within g v x n) = before + n < 2 ^ 64
CountsBehind before (Infeasible n) = before + n < 2 ^ 64
CountsBehind before (Unbounded n) = before + n < 2 ^ 64
CountsBehind before (Stopped why n bound best) = before + n < 2 ^ 64
CountsBehind before Memory = Unit {0}

-- a stop after so many results
abbrev pub StopsAfter : ℕ → Answer → Type 0
StopsAfter results (Optimal v x n) = ⊥
StopsAfter results (Within g v x n) = ⊥
StopsAfter results (Infeasible n) = ⊥
StopsAfter results (Unbounded n) = ⊥
StopsAfter results (Stopped why n bound best) = results ≡ n
StopsAfter results Memory = ⊥

abbrev pub IsGoneBy : Answer → GoneOn → Type 0
IsGoneBy answer (gone.Ended told) = (told ≡ answer) × (¬ IsStop answer)
IsGoneBy answer (gone.Stopped results) = StopsAfter results answer

-- the answer is true of M, what it claims is proved by the search that the environment has, and it is no stop
pub record IsEndedWith (l : Limits) (M : Program) (env : PlainEnv) (answer : Answer) : Type 0 where
  pub true_of : IsTrueOf M l.nodes answer
  pub shown : IsProvedIn env (shown_claim answer)
  pub ended : ¬ IsStop answer

abbrev pub IsGoneOn : Limits → Program → PlainEnv → GoneOn → Type 0
IsGoneOn l M env (gone.Ended answer) = IsEndedWith l M env answer
IsGoneOn l M env (gone.Stopped results) = results ≤ l.nodes
