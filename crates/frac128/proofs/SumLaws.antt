-- The laws of sums over lists.
use Rattle.std.specs.Prelude.{zip, ◌≡◌, ℕ, zero, suc, ◌+◌, ◌<◌, List, [], ◌∷◌, ◌++◌, map, length, get_or, take, pos}
use Rattle.std.proofs.Common.{ap₂, refl, sym, ap, ◌∙◌, arith}
use Rattle.frac128.specs.Rational.{ℚ, int, ◌+ℚ◌, ◌*ℚ◌, ◌≤ℚ◌}
use Rattle.frac128.specs.Sums.{sum_ℚ, sum_over, dot_product}
use Rattle.frac128.specs.RationalRing.{ring, reads_ℚ, zero-+ℚ}
use Rattle.frac128.specs.RationalOrder.{add-≤ℚ, mul-≤ℚ, ≤ℚ_refl, linear}

pub sum_over-append : {A : Type 0} (f : A → ℚ) (xs ys : List A) → sum_over f (xs ++ ys) ≡ sum_over f xs +ℚ sum_over f ys
sum_over-append f [] ys = sym (zero-+ℚ (sum_over f ys))
sum_over-append f (x ∷ xs) ys = ap (λ t. f x +ℚ t) (sum_over-append f xs ys) ∙ ring (f x ∷ sum_over f xs ∷ sum_over f ys ∷ []) (search reads_ℚ) tt

pub sum_over-add : {A : Type 0} (f g : A → ℚ) (xs : List A) → sum_over (λ x. f x +ℚ g x) xs ≡ sum_over f xs +ℚ sum_over g xs
sum_over-add f g [] = ring [] (search reads_ℚ) tt
sum_over-add f g (x ∷ xs) = ap (λ t. (f x +ℚ g x) +ℚ t) (sum_over-add f g xs) ∙ ring (f x ∷ g x ∷ sum_over f xs ∷ sum_over g xs ∷ []) (search reads_ℚ) tt

pub sum_over-scale : {A : Type 0} (m : ℚ) (f : A → ℚ) (xs : List A) → sum_over (λ x. m *ℚ f x) xs ≡ m *ℚ sum_over f xs
sum_over-scale m f [] = ring (m ∷ []) (search reads_ℚ) tt
sum_over-scale m f (x ∷ xs) = ap (λ t. m *ℚ f x +ℚ t) (sum_over-scale m f xs) ∙ ring (m ∷ f x ∷ sum_over f xs ∷ []) (search reads_ℚ) tt

pub sum_over-zero : {A : Type 0} (xs : List A) → sum_over (λ x. int (pos 0)) xs ≡ int (pos 0)
sum_over-zero [] = refl
sum_over-zero (x ∷ xs) = zero-+ℚ (sum_over (λ y. int (pos 0)) xs) ∙ sum_over-zero xs

-- the order of two sums is free
pub sum_over_exchange : {A B : Type 0} (f : A → B → ℚ) (xs : List A) (ys : List B) → sum_over (λ x. sum_over (f x) ys) xs ≡ sum_over (λ y. sum_over (λ x. f x y) xs) ys
sum_over_exchange f [] ys = sym (sum_over-zero ys)
sum_over_exchange f (x ∷ xs) ys = ap (λ t. sum_over (f x) ys +ℚ t) (sum_over_exchange f xs ys) ∙ sym (sum_over-add (f x) (λ y. sum_over (λ x. f x y) xs) ys)

-- summands that are at most others have a sum that is at most theirs
pub sum_over-≤ℚ : {A : Type 0} (f g : A → ℚ) (xs : List A) → ((x : A) → f x ≤ℚ g x) → sum_over f xs ≤ℚ sum_over g xs
sum_over-≤ℚ f g [] h = ≤ℚ_refl (int (pos 0))
sum_over-≤ℚ f g (x ∷ xs) h = add-≤ℚ (h x) (sum_over-≤ℚ f g xs h)

pub sum_over-map : {A B : Type 0} (f : B → ℚ) (g : A → B) (xs : List A) → sum_over f (map g xs) ≡ sum_over (λ x. f (g x)) xs
sum_over-map f g [] = refl
sum_over-map f g (x ∷ xs) = ap (λ t. f (g x) +ℚ t) (sum_over-map f g xs)

pub sum_ℚ-map : {A : Type 0} (f : A → ℚ) (xs : List A) → sum_ℚ (map f xs) ≡ sum_over f xs
sum_ℚ-map f [] = refl
sum_ℚ-map f (x ∷ xs) = ap (λ t. f x +ℚ t) (sum_ℚ-map f xs)

-- ---- a loop's steps

pub sum_over_more : {A : Type 0} (f : A → ℚ) (xs : List A) (i : ℕ) (d : A) → i < length xs → sum_over f (take (i + 1) xs) ≡ sum_over f (take i xs) +ℚ f (get_or xs i d)
sum_over_more f [] i d h = absurd (omega arith)
sum_over_more f (x ∷ xs) zero d h = ring (f x ∷ []) (search reads_ℚ) tt
sum_over_more f (x ∷ xs) (suc i) d h =
    let below : i < length xs = omega arith in
    let step : suc i + 1 ≡ suc (i + 1) = omega arith in
    rw step (ap (λ t. f x +ℚ t) (sum_over_more f xs i d below) ∙ ring (f x ∷ sum_over f (take i xs) ∷ f (get_or xs i d) ∷ []) (search reads_ℚ) tt)

pub dot_product_more : (xs ys : List ℚ) (i : ℕ) (d e : ℚ) → i < length xs → i < length ys → dot_product (take (i + 1) xs) (take (i + 1) ys) ≡ dot_product (take i xs) (take i ys) +ℚ get_or xs i d *ℚ get_or ys i e
dot_product_more [] ys i d e h k = absurd (omega arith)
dot_product_more (x ∷ xs) [] i d e h k = absurd (omega arith)
dot_product_more (x ∷ xs) (y ∷ ys) zero d e h k = ring (x ∷ y ∷ []) (search reads_ℚ) tt
dot_product_more (x ∷ xs) (y ∷ ys) (suc i) d e h k =
    let below : i < length xs = omega arith in
    let within : i < length ys = omega arith in
    let step : suc i + 1 ≡ suc (i + 1) = omega arith in
    rw step (ap (λ t. x *ℚ y +ℚ t) (dot_product_more xs ys i d e below within) ∙ ring (x ∷ y ∷ dot_product (take i xs) (take i ys) ∷ get_or xs i d ∷ get_or ys i e ∷ []) (search reads_ℚ) tt)

pub sum_over-same : {A : Type 0} (f g : A → ℚ) (xs : List A) → ((x : A) → f x ≡ g x) → sum_over f xs ≡ sum_over g xs
sum_over-same f g [] h = refl
sum_over-same f g (x ∷ xs) h = ap₂ ◌+ℚ◌ (h x) (sum_over-same f g xs h)

-- the same where the elements alone are compared
pub sum_over-≤ℚ_at : {A : Type 0} (f g : A → ℚ) (xs : List A) (d : A) → ((k : ℕ) → k < length xs → f (get_or xs k d) ≤ℚ g (get_or xs k d)) → sum_over f xs ≤ℚ sum_over g xs
sum_over-≤ℚ_at f g [] d h = ≤ℚ_refl (int (pos 0))
sum_over-≤ℚ_at f g (x ∷ xs) d h = add-≤ℚ (h 0 (omega arith)) (sum_over-≤ℚ_at f g xs d (λ k p. h (suc k) (omega arith)))

pub dot_product-sum_over : (xs ys : List ℚ) → dot_product xs ys ≡ sum_over (λ (p : ℚ × ℚ). p.0 *ℚ p.1) (zip xs ys)
dot_product-sum_over [] ys = refl
dot_product-sum_over (x ∷ xs) [] = refl
dot_product-sum_over (x ∷ xs) (y ∷ ys) = ap (λ t. x *ℚ y +ℚ t) (dot_product-sum_over xs ys)

-- a smaller first factor gives a smaller product where the second has no number below 0
pub dot_product-≤ℚ : (xs ys zs : List ℚ) → length xs ≡ length ys
    → ((k : ℕ) → k < length zs → int (pos 0) ≤ℚ get_or zs k (int (pos 0)))
    → ((k : ℕ) → k < length xs → get_or xs k (int (pos 0)) ≤ℚ get_or ys k (int (pos 0))) → dot_product xs zs ≤ℚ dot_product ys zs
dot_product-≤ℚ [] [] zs e n h = ≤ℚ_refl (int (pos 0))
dot_product-≤ℚ [] (y ∷ ys) zs e n h = absurd (omega arith)
dot_product-≤ℚ (x ∷ xs) [] zs e n h = absurd (omega arith)
dot_product-≤ℚ (x ∷ xs) (y ∷ ys) [] e n h = ≤ℚ_refl (int (pos 0))
dot_product-≤ℚ (x ∷ xs) (y ∷ ys) (z ∷ zs) e n h =
    linear (x ∷ y ∷ z ∷ dot_product xs zs ∷ dot_product ys zs ∷ [])
    (add-≤ℚ (mul-≤ℚ (n 0 (omega arith)) (h 0 (omega arith))) (dot_product-≤ℚ xs ys zs (omega arith) (λ k p. n (suc k) (omega arith)) (λ k p. h (suc k) (omega arith))))
    (search reads_ℚ) tt
