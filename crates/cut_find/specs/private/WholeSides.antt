-- What contracts of private functions alone cite, beside specs/WholeSides.
use Rattle.std.specs.Prelude.{◌≡◌, ◌⊎◌, ◌^◌, ◌<◌, ◌≤◌, ℕ, ℤ, pos, ◌-ℤ◌, ◌<ℤ◌, unsigned_abs, false, List, [], length, set, take, Some, None, IsSome, Ok}
use Rattle.frac128.specs.Rational.{ℚ, int}
use Rattle.frac128.specs.LowestTerms.{quotient_of}
use Rattle.checked_sum.specs.Steps.{AllFit, partial}
use Rattle.lp_model.specs.Program.{Program, lower, upper}
use Rattle.lp_model.specs.Sides.{needed_side}
use Rattle.lp_model.specs.declared.types.Side.{Side}
use Rattle.cover_cuts.specs.Covers.{side_coefficient, contribution_number}
use Rattle.cover_cuts.specs.Answers.{IsValidAnswer}
use Rattle.whole_sums.specs.Wholes.{HasMargin}
use Rattle.cut_find.specs.declared.whole_side.Mark.{Mark}
use Rattle.cut_find.specs.declared.whole_side.Sums.{Sums}
use Rattle.cut_find.specs.declared.whole_side.WholeSide.{WholeSide}
use Rattle.cut_find.specs.declared.whole_cover.Taking.{Taking}
use Rattle.cut_find.specs.declared.whole_cover.Taking.TheVariants.{Unknown, Never, Cover}
use Rattle.cut_find.specs.Greedy.{cover_of, TakesGreedily, Drops}
use Rattle.cut_find.specs.WholeSides.{AreCandidateColumns, mark_at, AreMarksOf, cover_sum}

-- no candidates make a cover, and each sum of theirs is told without a step
abbrev pub IsNeverCovered : Program → ℕ → Side → Type 0
IsNeverCovered M i s = (js : List ℕ) → AreCandidateColumns M i s js → IsValidAnswer M (cover_of M i s js) (Ok false)

-- a total without the size of a column's weight
abbrev pub rest_without : List Mark → ℕ → ℤ → ℤ
rest_without marks j total = total -ℤ pos (unsigned_abs (mark_at marks j).weight)

abbrev pub contributions : Program → ℕ → Side → List ℕ → ℕ → ℚ
contributions M i s js = contribution_number M (cover_of M i s js)

-- the sum of the first n least contributions has room, and is a number over the denominator of at most this size
pub record IsSumWithin (M : Program) (i : ℕ) (s : Side) (d : ℤ) (js : List ℕ) (n size : ℕ) : Type 0 where
  pub total : ℤ
  pub within : unsigned_abs total ≤ size
  pub value : quotient_of total d ≡ partial (int (pos 0)) (contributions M i s js) (side_coefficient M i s) n
  pub fits : AllFit (int (pos 0)) (contributions M i s js) (side_coefficient M i s) n

-- the same for any literals, and the sum without one
pub record AreSumsTo (M : Program) (i : ℕ) (s : Side) (d : ℤ) (n : ℕ) (sums : Sums) : Type 0 where
  pub bounds : (j : ℕ) → j < n → IsSome (needed_side (side_coefficient M i s j) (lower M j) (upper M j))
  pub base : quotient_of sums.base d ≡ partial (int (pos 0)) (contributions M i s []) (side_coefficient M i s) n
  pub base_within : unsigned_abs sums.base ≤ sums.size
  pub all : (js : List ℕ) → IsSumWithin M i s d js n sums.size
  pub room : sums.size ≤ 2 ^ 126

-- what is kept of a list of columns
pub record IsWholeCover (M : Program) (i : ℕ) (s : Side) (side : WholeSide) (js : List ℕ) (total : ℤ) (marks : List Mark) : Type 0 where
  pub sum : cover_sum M i s js ≡ quotient_of total side.denominator
  pub room : HasMargin total
  pub marked : AreMarksOf M i s side.denominator js marks
  pub candidates : AreCandidateColumns M i s js

-- the first columns of the order that make a cover
pub record IsTaken (M : Program) (i : ℕ) (s : Side) (side : WholeSide) (order : List ℕ) (marks : List Mark) (count : ℕ) (total : ℤ) : Type 0 where
  pub within : count ≤ length order
  pub takes : TakesGreedily M i s [] order (Some (take count order))
  pub cover : IsWholeCover M i s side (take count order) total marks

abbrev pub IsTakingAnswer : Program → ℕ → Side → WholeSide → List ℕ → List Mark → Taking → Type 0
IsTakingAnswer M i s side order marks Unknown = Unit {0}
IsTakingAnswer M i s side order marks Never = TakesGreedily M i s [] order None
IsTakingAnswer M i s side order marks (Cover count total) = IsTaken M i s side order marks count total

-- what is left of a total, and the marks, where a column is dropped if the rest still passes the limit
abbrev pub IsLeftOver : ℤ → List Mark → ℕ → ℤ → ℤ → List Mark → Type 0
IsLeftOver limit old j left next new =
    ((limit <ℤ rest_without old j left) × (next ≡ rest_without old j left) × (new ≡ set old j (record { weight = (mark_at old j).weight; taken = false })))
    ⊎ ((¬ (limit <ℤ rest_without old j left)) × (next ≡ left) × (new ≡ old))

-- what is left of what was taken
pub record IsDropped (M : Program) (i : ℕ) (s : Side) (side : WholeSide) (taken : List ℕ) (marks : List Mark) : Type 0 where
  pub kept : List ℕ
  pub drops : Drops M i s taken taken (Some kept)
  pub total : ℤ
  pub cover : IsWholeCover M i s side kept total marks
