-- The ends of a front as they are found.
use Rattle.std.specs.Prelude.{◌≡◌, ◌⊎◌, ℕ, ◌≤◌, ℤ, pos, Some}
use Rattle.frac128.specs.Range.{IsNarrow}
use Rattle.lp_model.specs.Program.{Program, Point, IsEmpty}
use Rattle.search_answers.specs.declared.answers.Answer.{Answer}
use Rattle.cert_text.specs.declared.cert.Claim.TheVariants as claim
use Rattle.inner_models.specs.Inner.{least2_model}
use Rattle.front_sweeps.specs.Steps.{IsNondominatedOutcome}
use Rattle.front_text.specs.declared.front.TreeOf.{TreeOf}
use Rattle.front_text.specs.declared.front.TreeOf.TheVariants.{Least1, Least2}
use Rattle.front_text.specs.Whole.{IsWholeTree}
use Rattle.front_check.specs.Passing.{IsPassingTree}
use Rattle.front_solver.specs.declared.solved.Solved.{Solved}
use Rattle.front_solver.specs.Truth.{IsCertifiedAs}
use Rattle.wcn_driver.specs.declared.answers.Part.TheVariants as parts
use Rattle.wcn_driver.specs.declared.answers.ScalePlace.TheVariants.{Value}
use Rattle.wcn_driver.specs.declared.task.Task.{Task}
use Rattle.wcn_driver.specs.declared.found.Found.{Found}
use Rattle.wcn_driver.specs.declared.settling.Optimum.{Optimum}
use Rattle.wcn_driver.specs.declared.settling.Halt.{Halt}
use Rattle.wcn_driver.specs.declared.settling.Halt.TheVariants.{Stopped, Wide, Memory}
use Rattle.wcn_driver.specs.declared.ends.PartFound.{PartFound}
use Rattle.wcn_driver.specs.declared.ends.PartLeast.{PartLeast}
use Rattle.wcn_driver.specs.declared.ends.FirstEnd.{FirstEnd}
use Rattle.wcn_driver.specs.declared.ends.FirstEnd.TheVariants.{Least, Infeasible, Halted}
use Rattle.wcn_driver.specs.Parts.{IsLeastFeasibleValue}
use Rattle.wcn_driver.specs.Answers.{HasNarrowOutcome, IsWideOutcome}
use Rattle.wcn_driver.specs.private.Settled.{IsOptimumOf, IsHaltOf, IsHalt}
use Rattle.wcn_driver.specs.private.Kept.{UnlessMemory}
use Rattle.wcn_driver.specs.private.Founds.{IsShownBy}

-- the point's outcome, with the point
pub record IsFoundAtPoint (N : Program) (c d : ℤ) (x : Point) (f : Found) : Type 0 where
  pub has : HasNarrowOutcome N c d x f.outcome
  pub shown : IsShownBy N c d f.outcome f.shown

-- a number of the outcome has no room
abbrev pub IsNotFoundAtPoint : Program → ℤ → ℤ → Point → Halt → Type 0
IsNotFoundAtPoint N c d x (Stopped why results bound best) = ⊥
IsNotFoundAtPoint N c d x (Wide at) = (at ≡ Value) × IsWideOutcome N c d x
IsNotFoundAtPoint N c d x Memory = Unit {0}

-- the outcome of the optimum that is answered
pub record IsSettledFound (g : Task) (before : ℕ) (s : Solved) (e : PartFound) : Type 0 where
  pub optimum : Optimum
  pub answered : IsOptimumOf before s optimum
  pub found : IsFoundAtPoint g.base g.constant1 g.constant2 optimum.point e.found
  pub results : e.results ≡ optimum.results

-- there is no optimum, or a number of its outcome has no room
abbrev pub IsSettledHalt : Task → ℕ → Solved → Halt → Type 0
IsSettledHalt g before s halt = IsHaltOf before s halt ⊎ ((o : Optimum) × (IsOptimumOf before s o × IsNotFoundAtPoint g.base g.constant1 g.constant2 o.point halt))

-- an outcome that no other dominates, with a point of its
pub record IsFoundOf (N : Program) (c d : ℤ) (f : Found) : Type 0 where
  pub stands : IsNondominatedOutcome N f.outcome
  pub narrow : (x : Point) × IsFoundAtPoint N c d x f

pub record IsLeftEnd (g : Task) (least : ℤ) (e : PartFound) : Type 0 where
  pub found : IsFoundOf g.base g.constant1 g.constant2 e.found
  pub first : e.found.outcome.f1 ≡ least
  pub within : e.results ≤ g.nodes

pub record IsRightEnd (g : Task) (least : ℤ) (e : PartFound) : Type 0 where
  pub found : IsFoundOf g.base g.constant1 g.constant2 e.found
  pub second : e.found.outcome.f2 ≡ least
  pub within : e.results ≤ g.nodes

-- a least value with its tree
pub record IsLeastWithTree (g : Task) (w : ℕ) (part : Program) (of : TreeOf) (e : PartLeast) : Type 0 where
  pub least : IsLeastFeasibleValue g.base w e.least
  pub narrow : IsNarrow e.least
  pub named : e.tree.of ≡ of
  pub passes : IsPassingTree (record { model = part; target = e.least }) e.tree
  pub whole : IsWholeTree e.tree
  pub within : e.results ≤ g.nodes

abbrev pub IsLeastFirst : Task → PartLeast → Type 0
IsLeastFirst g e = IsLeastWithTree g 1 g.base Least1 e

abbrev pub IsLeastSecond : Task → PartLeast → Type 0
IsLeastSecond g e = IsLeastWithTree g 2 (least2_model g.base) Least2 e

-- the least first value, or that no point is feasible, or why neither is known
abbrev pub IsFirstEnd : (Program → ℕ → Answer → Type 0) → Task → FirstEnd → Type 0
IsFirstEnd stops g (Least e) = IsLeastFirst g e
IsFirstEnd stops g (Infeasible cert results) = (IsEmpty g.base × (results ≤ g.nodes)) × IsCertifiedAs g.base (Some claim.Infeasible) cert
IsFirstEnd stops g (Halted halt) = IsHalt stops g.base g.nodes g.constant1 g.constant2 (pos 0) (pos 0) parts.Least1 halt

abbrev pub UnlessFirstMemory : Type 0 → FirstEnd → Type 0
UnlessFirstMemory T (Least e) = T
UnlessFirstMemory T (Infeasible cert results) = T
UnlessFirstMemory T (Halted halt) = UnlessMemory T halt
