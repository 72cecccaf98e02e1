-- Numbers of a leaf over one denominator, in a list by place.
use Rattle.std.specs.Prelude.{◌≡◌, ◌<◌, ◌≤◌, ℕ, ℤ, pos, List, length, get_or}
use Rattle.frac128.specs.Rational.{ℚ}
use Rattle.frac128.specs.LowestTerms.{quotient_of}
use Rattle.whole_sums.specs.Wholes.{IsShort, whole_number_at}

-- the numbers are the first values of f, over the denominator
abbrev pub AreNumbersOver : ℤ → (ℕ → ℚ) → List ℤ → Type 0
AreNumbersOver d f numbers = (k : ℕ) → k < length numbers → IsShort (whole_number_at numbers k) × (quotient_of (whole_number_at numbers k) d ≡ f k)

-- ---- numbers that are passed over

-- the numbers from place k up to n are 0
abbrev pub IsNextOf : List ℤ → ℕ → ℕ → Type 0
IsNextOf numbers k n = (j : ℕ) → k ≤ j → j < n → (j < length numbers) × (whole_number_at numbers j ≡ pos 0)

-- for each of the first places up to where the numbers are 0
abbrev pub AreNexts : List ℤ → List ℕ → ℕ → Type 0
AreNexts numbers next count = (k : ℕ) → k < count → IsNextOf numbers k (get_or next k 0)
