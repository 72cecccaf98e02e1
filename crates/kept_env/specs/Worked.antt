-- What became of an environment whose search was taken, worked and given back, and what is held of it.
--     Worked Found HasRay answer env              this was found of the search that env has, and is held as far as it may be
--     WorksEnv Found HasRay S old result new      so from the search S; without a model there is nothing to work, and all stays
-- What is found, and which ray is told, those who work it say (`SolvesModel`, `WarmsFrom` and `HasRayFor` of `tree_search`).
use Rattle.std.specs.Prelude.{◌≡◌, Option, Some, None, Result, Ok, Err}
use Rattle.lp_model.specs.Program.{Point}
use Rattle.search_answers.specs.declared.answers.Answer.{Answer}
use Rattle.search_answers.specs.declared.answers.Answer.TheVariants.{Optimal, Within, Infeasible, Unbounded, Stopped, Memory}
use Rattle.search_parts.specs.Points.{IsIncumbent}
use Rattle.sound_searches.specs.Sound.{PlainSearch}
use Rattle.kept_env.specs.Env.{PlainEnv, with_answer}
use Rattle.kept_env.specs.declared.env.EnvFault.{EnvFault}
use Rattle.kept_env.specs.declared.env.EnvFault.TheVariants as fault
use Rattle.kept_env.specs.declared.held.Held.{Held}
use Rattle.kept_env.specs.declared.held.Held.TheVariants as held

-- that the model is unbounded is held with its ray
abbrev pub held_beside : Option Point → Held
held_beside (Some direction) = held.Unbounded direction
held_beside None = held.Nothing

-- which answer is held afterwards
abbrev pub held_by : Answer → Option Point → Held
held_by (Optimal v x n) direction = held.Finished
held_by (Within g v x n) direction = held.Within g
held_by (Infeasible n) direction = held.Finished
held_by (Unbounded n) direction = held_beside direction
held_by (Stopped why n bound best) direction = held.Nothing
held_by Memory direction = held.Nothing

-- of the points that the search keeps an optimum, and one within a gap, is the oldest with the best value
abbrev pub IsOldest : PlainSearch → Answer → Type 0
IsOldest S (Optimal v x n) = IsIncumbent S.model S.points (Some x)
IsOldest S (Within g v x n) = IsIncumbent S.model S.points (Some x)
IsOldest S (Infeasible n) = Unit {0}
IsOldest S (Unbounded n) = Unit {0}
IsOldest S (Stopped why n bound best) = Unit {0}
IsOldest S Memory = Unit {0}

-- an environment whose search was worked: this was found of it, and is held as far as it may be
pub record Worked (Found : Answer → PlainSearch → Type 0) (HasRay : Answer → Option Point → Type 0) (answer : Answer) (env : PlainEnv) : Type 0 where
  pub search : PlainSearch
  pub found : Found answer search
  pub oldest : IsOldest search answer
  pub direction : Option Point
  pub has_ray : HasRay answer direction
  pub env_is : env ≡ with_answer search (held_by answer direction)

abbrev pub WorksEnv : (PlainSearch → Answer → PlainSearch → Type 0) → (PlainSearch → Answer → Option Point → Type 0) → Option PlainSearch → PlainEnv → Result Answer EnvFault → PlainEnv → Type 0
WorksEnv Found HasRay None old result new = (result ≡ Err fault.NoModel) × (new ≡ old)
WorksEnv Found HasRay (Some S) old (Ok answer) new = Worked (Found S) (HasRay S) answer new
WorksEnv Found HasRay (Some S) old (Err e) new = ⊥
