-- What each answer of `solve` and of `warm_solve` says of the model, whatever was done to find it.
use Rattle.std.specs.Prelude.{◌≡◌, ℕ, ◌-◌, ◌<◌, ◌≤◌, Some}
use Rattle.lp_model.specs.Program.{Program, IsOptimum, IsWithinGap, IsEmpty, value}
use Rattle.lp_model.specs.declared.answers.StopWhy.{StopWhy}
use Rattle.lp_model.specs.declared.answers.StopWhy.TheVariants.{Nodes, Tree, Pivots, Wide}
use Rattle.search_answers.specs.declared.answers.Answer.{Answer}
use Rattle.search_answers.specs.declared.answers.Answer.TheVariants.{Optimal, Within, Infeasible, Unbounded, Stopped, Memory}
use Rattle.model_points.specs.Bounds.{IsBound, IsFoundValue}
use Rattle.model_points.specs.Rays.{IsUnbounded}
use Rattle.branch_tree.specs.Changes.{first_tree, with_limit}
use Rattle.sound_searches.specs.Sound.{PlainSearch}
use Rattle.search_counting.specs.Work.{whole_points, cap_of, HasRoomFor}
use Rattle.tree_search.specs.declared.limits.Limits.{Limits}

-- no more results than the limit allows, nor than a search of the model can place
pub record IsCount (M : Program) (l : Limits) (n : ℕ) : Type 0 where
  pub within_limit : n ≤ l.nodes
  pub within_cap : n ≤ cap_of M

-- The search stopped after n results, fewer than it could place: all that the limit allows, or with a tree that was too small. Only so
-- few were placed where it stopped for another cause.
abbrev pub IsEarlyBy : Type 0 → Program → Limits → StopWhy → ℕ → Type 0
IsEarlyBy Small M l Nodes n = (n ≡ l.nodes) × (n < cap_of M)
IsEarlyBy Small M l Tree n = (n < l.nodes) × ((n < cap_of M) × Small)
IsEarlyBy Small M l (Pivots place) n = (n ≤ l.nodes) × (n < cap_of M)
IsEarlyBy Small M l (Wide at_) n = (n ≤ l.nodes) × (n < cap_of M)

abbrev pub IsTrueBy : Type 0 → Program → Limits → Answer → Type 0
IsTrueBy Small M l (Optimal v x n) = (IsOptimum M x × (v ≡ value M 1 x)) × IsCount M l n
IsTrueBy Small M l (Within g v x n) = ((l.gap ≡ Some g) × (IsWithinGap M g x × (v ≡ value M 1 x))) × ((n ≤ l.nodes) × (n < cap_of M))
IsTrueBy Small M l (Infeasible n) = IsEmpty M × IsCount M l n
IsTrueBy Small M l (Unbounded n) = IsUnbounded M × IsCount M l n
IsTrueBy Small M l (Stopped why n bound best) = (IsBound M bound × IsFoundValue M best) × IsEarlyBy Small M l why n
IsTrueBy Small M l Memory = Unit {0}

-- a tree is too small where it begins without room for the most splits: a new one, or one that goes on
abbrev pub IsTrueAnswer : Program → Limits → Answer → Type 0
IsTrueAnswer M l answer = IsTrueBy (¬ HasRoomFor (whole_points M - 1) (first_tree l.tree)) M l answer

-- one that goes on is too small where it has no room for the most splits
abbrev pub IsTooSmall : PlainSearch → Limits → Type 0
IsTooSmall S l = ¬ HasRoomFor (whole_points S.model - 1) (with_limit S.tree l.tree)

abbrev pub IsTrueOfKept : PlainSearch → Limits → Answer → Type 0
IsTrueOfKept S l answer = IsTrueBy (IsTooSmall S l) S.model l answer

-- the search went to its end, or there was no memory
abbrev pub HasEnded : Answer → Type 0
HasEnded (Optimal v x n) = Unit {0}
HasEnded (Within g v x n) = Unit {0}
HasEnded (Infeasible n) = Unit {0}
HasEnded (Unbounded n) = Unit {0}
HasEnded (Stopped why n bound best) = ⊥
HasEnded Memory = Unit {0}
