-- First parts of ratios as whole numbers over one another.
use Rattle.std.specs.Prelude.{ℕ, ◌<ℤ◌, ℤ, pos, Ok}
use Rattle.frac128.specs.LowestTerms.{quotient_of}
use Rattle.table_entries.specs.declared.stand.Stand.{Stand}
use Rattle.table_entries.specs.WholeSteps.{IsShort}
use Rattle.basic_solution.specs.Held.{Held}
use Rattle.dual_simplex.specs.private.Answers.{IsRatioAnswer}

pub record IsShortRatio (top bottom : ℤ) : Type 0 where
  pub top_short : IsShort top
  pub bottom_short : IsShort bottom
  pub positive : pos 0 <ℤ bottom

-- the quotient is the first part of the ratio of the place, each step to which has room
pub record IsWholeRatio (s : Held) (row : ℕ) (side : Stand) (place : ℕ) (top bottom : ℤ) : Type 0 where
  pub short : IsShortRatio top bottom
  pub answer : IsRatioAnswer s row side place 0 (Ok (quotient_of top bottom))
