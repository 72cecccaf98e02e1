-- A sweep between two gaps: the outcomes before, p and behind are found, the gaps before p are empty, and the next gap is behind p.
use Rattle.std.specs.Prelude.{◌≡◌, ◌⊎◌, ℕ, ◌+◌, ◌≤◌, ℤ, List, [], ◌∷◌, ◌++◌, length, map, All}
use Rattle.std.specs.List.{AllZip}
use Rattle.frac128.specs.Range.{IsNarrow}
use Rattle.lp_model.specs.Program.{Program}
use Rattle.search_answers.specs.declared.answers.Answer.{Answer}
use Rattle.frontier.specs.declared.outcomes.Outcome.{Outcome}
use Rattle.frontier.specs.Covers.{IsFront}
use Rattle.frontier.specs.Laws.{last_of}
use Rattle.inner_models.specs.Inner.{least2_model}
use Rattle.front_text.specs.declared.front.TreeOf.TheVariants.{Least1, Least2}
use Rattle.front_text.specs.declared.front.FrontTree.{FrontTree}
use Rattle.front_text.specs.Whole.{IsWholeTree}
use Rattle.front_check.specs.Accepted.{TargetedModel, gap_parts, gap_names}
use Rattle.front_check.specs.Verdict.{FitGaps}
use Rattle.front_check.specs.Passing.{IsPassingTree}
use Rattle.wcn_driver.specs.declared.answers.Part.{Part}
use Rattle.wcn_driver.specs.declared.task.Task.{Task}
use Rattle.wcn_driver.specs.declared.found.Found.{Found}
use Rattle.wcn_driver.specs.declared.settling.Halt.{Halt}
use Rattle.wcn_driver.specs.declared.gaps.GapAt.{GapAt}
use Rattle.wcn_driver.specs.declared.driving.Sweep.{Sweep}
use Rattle.wcn_driver.specs.Parts.{IsLeastFeasibleValue, IsPartDue, HaveEmptyGapsBefore}
use Rattle.wcn_driver.specs.private.Settled.{IsHalt}
use Rattle.wcn_driver.specs.private.Kept.{UnlessMemory}
use Rattle.wcn_driver.specs.private.Ends.{IsFoundOf}

-- without constants
abbrev pub outcomes_found : List Found → List Outcome
outcomes_found found = map (λ f. f.outcome) found

-- the gaps before p, as inner models with their targets
abbrev pub parts_before : Program → ℤ → ℤ → List Outcome → Outcome → List TargetedModel
parts_before N i1 i2 [] p = []
parts_before N i1 i2 (o ∷ before) p = gap_parts N i1 i2 o (before ++ p ∷ [])

-- the numbers of these gaps have room
abbrev pub FitGapsBefore : Program → ℤ → ℤ → List Outcome → Outcome → Type 0
FitGapsBefore N i1 i2 [] p = Unit {0}
FitGapsBefore N i1 i2 (o ∷ before) p = FitGaps N i1 i2 o (before ++ p ∷ [])

abbrev pub first_of : List Outcome → Outcome → Outcome
first_of [] p = p
first_of (o ∷ before) p = o

-- the trees of the least values, and of the gaps before p, whose numbers have room
pub record HasTrees (N : Program) (i1 i2 : ℤ) (trees : List FrontTree) (before : List Outcome) (p : Outcome) : Type 0 where
  pub fit : FitGapsBefore N i1 i2 before p
  pub pass : AllZip IsPassingTree (record { model = N; target = i1 } ∷ record { model = least2_model N; target = i2 } ∷ parts_before N i1 i2 before p) trees
  pub named : map (λ t. t.of) trees ≡ Least1 ∷ Least2 ∷ gap_names 1 before
  pub whole : All IsWholeTree trees

pub record IsBetween (g : Task) (s : Sweep) (before : List Outcome) (p : Outcome) (behind : List Outcome) : Type 0 where
  pub outcomes : outcomes_found s.found.items ≡ before ++ (p ∷ behind)
  pub each : All (IsFoundOf g.base g.constant1 g.constant2) s.found.items
  pub apart : IsFront (before ++ (p ∷ behind))
  pub least1 : IsLeastFeasibleValue g.base 1 s.least1
  pub least2 : IsLeastFeasibleValue g.base 2 s.least2
  pub narrow1 : IsNarrow s.least1
  pub narrow2 : IsNarrow s.least2
  pub left : (first_of before p).f1 ≡ s.least1
  pub right : (last_of p behind).f2 ≡ s.least2
  pub empty : HaveEmptyGapsBefore g.base before p
  pub trees : HasTrees g.base s.least1 s.least2 s.trees before p
  pub within : s.results ≤ g.nodes

-- the first outcome alone is found
pub record HasLeft (g : Task) (least : ℤ) (found : List Found) : Type 0 where
  pub left : Found
  pub only : found ≡ left ∷ []
  pub found_of : IsFoundOf g.base g.constant1 g.constant2 left
  pub first : left.outcome.f1 ≡ least

-- the gap is the one between p and q, and p has the place
pub record IsGapBetween (g : Task) (s : Sweep) (before : List Outcome) (p q : Outcome) (behind : List Outcome) (place : ℕ) (gap : GapAt) : Type 0 where
  pub between : IsBetween g s before p (q ∷ behind)
  pub at : length before ≡ place
  pub is_p : gap.p ≡ p
  pub is_q : gap.q ≡ q
  pub over1 : gap.least1 ≡ s.least1
  pub over2 : gap.least2 ≡ s.least2

-- the gap is closed and q has the place, or an outcome of it is found and p keeps the place
abbrev pub IsGapTurned : Task → Sweep → List Outcome → Outcome → Outcome → List Outcome → ℕ → ℕ → Type 0
IsGapTurned g s before p q behind place next =
    ((next ≡ place + 1) × IsBetween g s (before ++ p ∷ []) q behind)
    ⊎ ((next ≡ place) × ((o : Outcome) × IsBetween g s before p (o ∷ q ∷ behind)))

-- ---- where a sweep ends

-- the part is due where these outcomes are found, and it ends there for the cause
pub record IsSweepEndAt (stops : Program → ℕ → Answer → Type 0) (g : Task) (found : List Found) (part : Part) (halt : Halt) : Type 0 where
  pub i1 : ℤ
  pub i2 : ℤ
  pub each : All (IsFoundOf g.base g.constant1 g.constant2) found
  pub apart : IsFront (outcomes_found found)
  pub due : IsPartDue g.base i1 i2 (outcomes_found found) part
  pub cause : IsHalt stops g.base g.nodes g.constant1 g.constant2 i1 i2 part halt

abbrev pub IsSweepEnd : (Program → ℕ → Answer → Type 0) → Task → List Found → Part → Halt → Type 0
IsSweepEnd stops g found part halt = UnlessMemory (IsSweepEndAt stops g found part halt) halt
