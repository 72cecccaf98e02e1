-- Sums of rationals over lists and by index.
use Rattle.std.specs.Prelude.{ℕ, zero, suc, List, [], ◌∷◌, pos}
use Rattle.frac128.specs.Rational.{ℚ, int, ◌+ℚ◌, ◌*ℚ◌}

abbrev pub sum_ℚ : List ℚ → ℚ
sum_ℚ [] = int (pos 0)
sum_ℚ (x ∷ xs) = x +ℚ sum_ℚ xs

-- the sum of f x over the elements x
abbrev pub sum_over : {A : Type 0} → (A → ℚ) → List A → ℚ
sum_over f [] = int (pos 0)
sum_over f (x ∷ xs) = f x +ℚ sum_over f xs

-- the sum of the products, as far as the shorter list goes
abbrev pub dot_product : List ℚ → List ℚ → ℚ
dot_product [] ys = int (pos 0)
dot_product (x ∷ xs) [] = int (pos 0)
dot_product (x ∷ xs) (y ∷ ys) = x *ℚ y +ℚ dot_product xs ys

-- f 0 + .. + f (n - 1)
abbrev pub sum_below : ℕ → (ℕ → ℚ) → ℚ
sum_below zero f = int (pos 0)
sum_below (suc n) f = sum_below n f +ℚ f n
