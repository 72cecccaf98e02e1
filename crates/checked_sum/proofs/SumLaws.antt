-- The laws of sums by index.
use Rattle.std.specs.Prelude.{◌≡◌, ℕ, zero, suc, ◌+◌, ◌<◌, [], ◌∷◌, pos}
use Rattle.std.proofs.Common.{refl, sym, ap, ◌∙◌, arith}
use Rattle.frac128.specs.Rational.{ℚ, int, ◌+ℚ◌, ◌*ℚ◌, neg_ℚ, ◌≤ℚ◌}
use Rattle.frac128.specs.RationalRing.{ring, reads_ℚ}
use Rattle.frac128.specs.RationalOrder.{≤ℚ_refl, add-≤ℚ}
use Rattle.frac128.specs.Sums.{sum_below}

pub sum_below-add : (n : ℕ) (f g : ℕ → ℚ) → sum_below n (λ k. f k +ℚ g k) ≡ sum_below n f +ℚ sum_below n g
sum_below-add zero f g = ring [] (search reads_ℚ) tt
sum_below-add (suc n) f g = ap (λ t. t +ℚ (f n +ℚ g n)) (sum_below-add n f g) ∙ ring (sum_below n f ∷ sum_below n g ∷ f n ∷ g n ∷ []) (search reads_ℚ) tt

pub sum_below-scale : (n : ℕ) (m : ℚ) (f : ℕ → ℚ) → sum_below n (λ k. m *ℚ f k) ≡ m *ℚ sum_below n f
sum_below-scale zero m f = ring (m ∷ []) (search reads_ℚ) tt
sum_below-scale (suc n) m f = ap (λ t. t +ℚ m *ℚ f n) (sum_below-scale n m f) ∙ ring (m ∷ sum_below n f ∷ f n ∷ []) (search reads_ℚ) tt

pub sum_below-neg : (n : ℕ) (f : ℕ → ℚ) → sum_below n (λ k. neg_ℚ (f k)) ≡ neg_ℚ (sum_below n f)
sum_below-neg zero f = ring [] (search reads_ℚ) tt
sum_below-neg (suc n) f = ap (λ t. t +ℚ neg_ℚ (f n)) (sum_below-neg n f) ∙ ring (sum_below n f ∷ f n ∷ []) (search reads_ℚ) tt

pub sum_below-zero : (n : ℕ) → sum_below n (λ k. int (pos 0)) ≡ int (pos 0)
sum_below-zero zero = refl
sum_below-zero (suc n) = ap (λ t. t +ℚ int (pos 0)) (sum_below-zero n) ∙ ring [] (search reads_ℚ) tt

-- sums of the same terms, as far as the sums go
pub sum_below-same : (n : ℕ) (f g : ℕ → ℚ) → ((k : ℕ) → k < n → f k ≡ g k) → sum_below n f ≡ sum_below n g
sum_below-same zero f g h = refl
sum_below-same (suc n) f g h = (λ i. sum_below-same n f g (λ k below. h k (omega arith)) i +ℚ h n (omega arith) i)

-- the order of two sums is free
pub sum_below_exchange : (n m : ℕ) (f : ℕ → ℕ → ℚ) → sum_below n (λ i. sum_below m (f i)) ≡ sum_below m (λ j. sum_below n (λ i. f i j))
sum_below_exchange zero m f = sym (sum_below-zero m)
sum_below_exchange (suc n) m f = ap (λ t. t +ℚ sum_below m (f n)) (sum_below_exchange n m f) ∙ sym (sum_below-add m (λ j. sum_below n (λ i. f i j)) (f n))

-- terms that are at most others have a sum that is at most theirs
pub sum_below-≤ℚ : (n : ℕ) (f g : ℕ → ℚ) → ((k : ℕ) → k < n → f k ≤ℚ g k) → sum_below n f ≤ℚ sum_below n g
sum_below-≤ℚ zero f g h = ≤ℚ_refl (int (pos 0))
sum_below-≤ℚ (suc n) f g h = add-≤ℚ (sum_below-≤ℚ n f g (λ k below. h k (omega arith))) (h n (omega arith))

-- a sum that is split: the first n terms, then m more
pub sum_below-split : (n m : ℕ) (f : ℕ → ℚ) → sum_below (m + n) f ≡ sum_below n f +ℚ sum_below m (λ k. f (k + n))
sum_below-split n zero f = let e : 0 + n ≡ n = omega arith in rw e (ring (sum_below n f ∷ []) (search reads_ℚ) tt)
sum_below-split n (suc m) f =
    let e : suc m + n ≡ suc (m + n) = omega arith in
    rw e (ap (λ t. t +ℚ f (m + n)) (sum_below-split n m f) ∙ ring (sum_below n f ∷ sum_below m (λ k. f (k + n)) ∷ f (m + n) ∷ []) (search reads_ℚ) tt)
