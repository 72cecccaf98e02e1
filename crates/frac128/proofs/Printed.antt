-- What the text of a number is, whole or not.
use Rattle.std.specs.Prelude.{◌≡◌, ℤ, ◌∷◌, ◌++◌}
use Rattle.std.specs.Fmt.{decimal, signed_decimal}
use Rattle.std.proofs.Common.{refl, arith}
use Rattle.frac128.specs.Rational.{ℚ, den, int, IsWhole}
use Rattle.frac128.specs.Printing.{printed}

pub printed-whole : (x : ℚ) → IsWhole x → printed x ≡ signed_decimal x.num
unfolding printed
printed-whole x whole = simp whole

pub printed-fraction : (x : ℚ) → ¬ IsWhole x → printed x ≡ signed_decimal x.num ++ 47 ∷ decimal (den x)
unfolding printed
printed-fraction x apart = grind (arith)

pub printed-int : (z : ℤ) → printed (int z) ≡ signed_decimal z
unfolding printed int
printed-int z = refl
