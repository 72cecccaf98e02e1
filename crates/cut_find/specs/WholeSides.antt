-- A side of a row in whole numbers over one denominator: the sums of least contributions of all covers, without greatest common
-- divisors.
--     a literal that is taken adds the size of its column's coefficient to the sum
use Rattle.std.specs.Prelude.{◌≡◌, ◌≢◌, ◌<◌, ℕ, ℤ, pos, false, List, [], length, get_or, All, Option, Some, IsSome}
use Rattle.frac128.specs.Rational.{ℚ, int}
use Rattle.frac128.specs.LowestTerms.{quotient_of}
use Rattle.lp_model.specs.Program.{Program, Point, lower, upper}
use Rattle.lp_model.specs.Sides.{needed_side}
use Rattle.lp_model.specs.declared.types.Side.{Side}
use Rattle.lp_model.specs.declared.types.Derivation.{Derivation}
use Rattle.cover_cuts.specs.Covers.{side_coefficient, side_limit, least_sum, Fails}
use Rattle.cover_cuts.specs.Answers.{CoverSumFits}
use Rattle.whole_sums.specs.Wholes.{IsShort, HasMargin, IsDenominator}
use Rattle.cut_find.specs.declared.whole_side.Mark.{Mark}
use Rattle.cut_find.specs.declared.whole_side.WholeSide.{WholeSide}
use Rattle.cut_find.specs.Greedy.{IsLiteralCandidate, is_in, cover_of, TakesGreedily, AfterTaking}

-- ---- candidates

pub record IsCandidateColumn (M : Program) (i : ℕ) (s : Side) (j : ℕ) : Type 0 where
  pub within : j < length M.cols
  pub candidate : IsLiteralCandidate M i s j

abbrev pub AreCandidateColumns : Program → ℕ → Side → List ℕ → Type 0
AreCandidateColumns M i s js = All (IsCandidateColumn M i s) js

-- what is found in an order of the candidates
abbrev pub IsFoundInOrder : Program → ℕ → Side → Point → List ℕ → Option Derivation → Type 0
IsFoundInOrder M i s x order o = (taken : Option (List ℕ)) × (TakesGreedily M i s [] order taken × AfterTaking M i s x taken o)

-- ---- marks

-- the number of the coefficient over the denominator, and whether the column is in the list
pub record IsMarkOf (M : Program) (i : ℕ) (s : Side) (d : ℤ) (js : List ℕ) (j : ℕ) (mark : Mark) : Type 0 where
  pub short : IsShort mark.weight
  pub weight : side_coefficient M i s j ≡ quotient_of mark.weight d
  pub taken : mark.taken ≡ is_in js j

abbrev pub mark_at : List Mark → ℕ → Mark
mark_at marks j = get_or marks j (record { weight = pos 0; taken = false })

-- the marks of the first n columns, where these have a coefficient
abbrev pub AreMarksTo : Program → ℕ → Side → ℤ → List ℕ → ℕ → List Mark → Type 0
AreMarksTo M i s d js n marks = (j : ℕ) → j < n → side_coefficient M i s j ≢ int (pos 0) → IsMarkOf M i s d js j (mark_at marks j)

abbrev pub AreMarksOf : Program → ℕ → Side → ℤ → List ℕ → List Mark → Type 0
AreMarksOf M i s d js marks = AreMarksTo M i s d js (length M.cols) marks

-- ---- sides

abbrev pub cover_sum : Program → ℕ → Side → List ℕ → ℚ
cover_sum M i s js = least_sum M (cover_of M i s js)

-- the limit and the sum without literals over the denominator, which does not pass it; each sum has room
pub record IsWholeSide (M : Program) (i : ℕ) (s : Side) (side : WholeSide) : Type 0 where
  pub denominator : IsDenominator side.denominator
  pub short : IsShort side.limit
  pub limit : side_limit M i s ≡ Some (quotient_of side.limit side.denominator)
  pub bounds : (j : ℕ) → j < length M.cols → IsSome (needed_side (side_coefficient M i s j) (lower M j) (upper M j))
  pub fits : (js : List ℕ) → CoverSumFits M (cover_of M i s js)
  pub room : HasMargin side.base
  pub base : cover_sum M i s [] ≡ quotient_of side.base side.denominator
  pub met : ¬ Fails M (cover_of M i s [])
