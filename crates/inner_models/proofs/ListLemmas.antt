-- What the elements of lists have: of lists that are mapped, of lists with one more, and of elements that agree.
use Rattle.std.specs.Prelude.{◌≡◌, ℕ, zero, suc, ◌<◌, ◌≤◌, List, [], ◌∷◌, ◌++◌, length, map, take, All}
use Rattle.std.proofs.Common.{refl, ap, arith}
use Rattle.std.proofs.lemmas.List.Elements.{All-head, All-tail}
use Rattle.frac128.specs.Rational.{ℚ}
use Rattle.lp_model.specs.Elements.{of_element}
use Rattle.lp_model.specs.Program.{Point, coordinate}

pub of_element-map : {A B C : Type 0} (d : C) (f : B → C) (g : A → B) (xs : List A) (k : ℕ) → of_element d f (map g xs) k ≡ of_element d (λ a. f (g a)) xs k
of_element-map d f g [] k = refl
of_element-map d f g (x ∷ xs) zero = refl
of_element-map d f g (x ∷ xs) (suc k) = of_element-map d f g xs k

module _ {A B : Type 0} (d : B) (f : A → B) where
  pub of_element-front : (xs ys : List A) (k : ℕ) → k < length xs → of_element d f (xs ++ ys) k ≡ of_element d f xs k
  of_element-front [] ys k below = absurd (omega arith)
  of_element-front (x ∷ xs) ys zero below = refl
  of_element-front (x ∷ xs) ys (suc k) below = let h : k < length xs = omega arith in of_element-front xs ys k h

  pub of_element-last : (xs : List A) (x : A) → of_element d f (xs ++ x ∷ []) (length xs) ≡ f x
  of_element-last [] x = refl
  of_element-last (y ∷ xs) x = of_element-last xs x

  pub of_element-constant : (xs : List A) (k : ℕ) → ((a : A) → f a ≡ d) → of_element d f xs k ≡ d
  of_element-constant [] k same = refl
  of_element-constant (x ∷ xs) zero same = same x
  of_element-constant (x ∷ xs) (suc k) same = of_element-constant xs k same

module _ {A B : Type 0} (d : B) (f g : A → B) where
  -- two that agree at each element of which P holds
  pub of_element-agree : (P : A → Type 0) → ((a : A) → P a → f a ≡ g a) → (xs : List A) → All P xs → (k : ℕ) → of_element d f xs k ≡ of_element d g xs k
  of_element-agree P agree [] all k = refl
  of_element-agree P agree (x ∷ xs) all zero = agree x (All-head P x xs all)
  of_element-agree P agree (x ∷ xs) all (suc k) = of_element-agree P agree xs (All-tail P x xs all) k

  pub of_element-same : ((a : A) → f a ≡ g a) → (xs : List A) (k : ℕ) → of_element d f xs k ≡ of_element d g xs k
  of_element-same same [] k = refl
  of_element-same same (x ∷ xs) zero = same x
  of_element-same same (x ∷ xs) (suc k) = of_element-same same xs k

-- ---- points with one more number

pub coordinate-front : (x : Point) (z : ℚ) (j : ℕ) → j < length x → coordinate (x ++ z ∷ []) j ≡ coordinate x j
coordinate-front [] z j below = absurd (omega arith)
coordinate-front (v ∷ x) z zero below = refl
coordinate-front (v ∷ x) z (suc j) below = let h : j < length x = omega arith in coordinate-front x z j h

pub coordinate-last : (x : Point) (z : ℚ) → coordinate (x ++ z ∷ []) (length x) ≡ z
coordinate-last [] z = refl
coordinate-last (v ∷ x) z = coordinate-last x z

pub coordinate-take : (n : ℕ) (y : Point) (j : ℕ) → j < n → coordinate (take n y) j ≡ coordinate y j
coordinate-take zero y j below = absurd (omega arith)
coordinate-take (suc n) [] j below = refl
coordinate-take (suc n) (v ∷ y) zero below = refl
coordinate-take (suc n) (v ∷ y) (suc j) below = let h : j < n = omega arith in coordinate-take n y j h

pub length-front : (n : ℕ) (y : Point) → n ≤ length y → length (take n y) ≡ n
length-front zero y h = refl
length-front (suc n) [] h = absurd (omega arith)
length-front (suc n) (v ∷ y) h = let k : n ≤ length y = omega arith in ap suc (length-front n y k)

pub take-front : (x : Point) (z : ℚ) → take (length x) (x ++ z ∷ []) ≡ x
take-front [] z = refl
take-front (v ∷ x) z = ap (λ l. v ∷ l) (take-front x z)
