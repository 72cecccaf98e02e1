-- Two numbers that have room.
use Rattle.std.specs.Prelude.{◌≡◌, zero, suc, List, [], ◌∷◌, length, get_or, pos, All}
use Rattle.std.proofs.Common.{arith}
use Rattle.frac128.specs.Rational.{ℚ, int}

pub two-hold : (P : ℚ → Type 0) (l : List ℚ) → length l ≡ 2 → P (get_or l 0 (int (pos 0))) → P (get_or l 1 (int (pos 0))) → All P l
two-hold P [] e p q = absurd (omega arith)
two-hold P (a ∷ []) e p q = absurd (omega arith)
two-hold P (a ∷ b ∷ []) e p q = at
  where
    at : All P (a ∷ b ∷ [])
    at zero d below = p
    at (suc zero) d below = q
    at (suc (suc k)) d below = absurd (omega arith)
two-hold P (a ∷ b ∷ c ∷ l) e p q = absurd (omega arith)
