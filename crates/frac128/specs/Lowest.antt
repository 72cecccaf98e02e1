-- Fractions in lowest terms: when two are one, and what the operations make of n / d that need not be in lowest terms.
use Rattle.std.specs.Prelude.{◌≡◌, ℕ, suc, ◌*◌, ◌/◌, ◌<◌, ◌≤◌, ◌+◌, List, [], ◌∷◌, ℤ, pos, ◌+ℤ◌, ◌*ℤ◌, neg_ℤ, unsigned_abs, ◌≤ℤ◌, ◌<ℤ◌, ◌↔◌}
use Rattle.std.specs.Int.{◌∣◌}
use Rattle.std.proofs.Common.{sym, subst, ap, ap₂, ◌∙◌, arith, zero-lt-suc}
use Rattle.std.proofs.Math.Nat.{eq_of_mul-eq-mul_right, dvd-mul_left, dvd_antisymm, div-mul_cancel, ℕ_set, le_of_mul-le-mul_right, mul-le-mul_right, lt_of_mul-lt-mul_right, mul-lt-mul_of_pos_right, div-le_self}
use Rattle.std.proofs.lemmas.Int.{unsigned_abs-mul}
use mathlib.Core.HLevel.{is_prop→PathP}
use borrow.Author.Differences.{up, down, same_in, same_out, le_out, lt_out, at_most_in, below_in, sum_is_lem, product_is, neg_is}
use Rattle.frac128.specs.Gcd.{gcd, IsGcd-gcd, dvd_from_coprime}
use Rattle.frac128.specs.Rational.{ℚ, den, quotient_by, quotient_by-mul, abs-quotient_by, suc-pred_quotient, reduced, below_product, ◌+ℚ◌, ◌*ℚ◌, neg_ℚ, ◌≤ℚ◌, ◌<ℚ◌}
use Rattle.frac128.specs.IntegerRing.{ring_ℤ, reads_ℤ, pos-below_product}

-- integers, sums and their order, for `omega`: products are unknowns
pub ruleset linear_ℤ = (same_in, same_out, le_out, lt_out, at_most_in, below_in, sum_is_lem, neg_is)

-- a product with a natural factor, as `omega` is to read it
pub product_pos_is : (a : ℤ) (n : ℕ) → (up (a *ℤ pos n) ≡ up a * n) × (down (a *ℤ pos n) ≡ down a * n)
product_pos_is a n = ((product_is a (pos n)).0 ∙ omega arith, (product_is a (pos n)).1 ∙ omega arith)

-- a factor above 0 can be left out of an equation or an order of integers, and put in
pub cancel_ℤ : (a c : ℤ) (s : ℕ) → 0 < s → a *ℤ pos s ≡ c *ℤ pos s → a ≡ c
cancel_ℤ a c s some e =
    let scaled : (up a + down c) * s ≡ (up c + down a) * s = omega (arith, same_out _ _ e, product_pos_is) in
    same_in a c (eq_of_mul-eq-mul_right s some (up a + down c) (up c + down a) scaled)

pub cancel-≤ℤ : (a c : ℤ) (s : ℕ) → 0 < s → (a *ℤ pos s) ≤ℤ (c *ℤ pos s) → a ≤ℤ c
cancel-≤ℤ a c s some h =
    let scaled : (up a + down c) * s ≤ (up c + down a) * s = omega (arith, le_out _ _ h, product_pos_is) in
    at_most_in a c (le_of_mul-le-mul_right scaled some)

pub cancel-<ℤ : (a c : ℤ) (s : ℕ) → (a *ℤ pos s) <ℤ (c *ℤ pos s) → a <ℤ c
cancel-<ℤ a c s h =
    let scaled : (up a + down c) * s < (up c + down a) * s = omega (arith, lt_out _ _ h, product_pos_is) in
    below_in a c (lt_of_mul-lt-mul_right s scaled)

pub times-≤ℤ : (a c : ℤ) (s : ℕ) → a ≤ℤ c → (a *ℤ pos s) ≤ℤ (c *ℤ pos s)
times-≤ℤ a c s h =
    let scaled : (up a + down c) * s ≤ (up c + down a) * s = mul-le-mul_right s (le_out a c h) in
    omega (arith, at_most_in, product_pos_is)

pub times-<ℤ : (a c : ℤ) (s : ℕ) → 0 < s → a <ℤ c → (a *ℤ pos s) <ℤ (c *ℤ pos s)
times-<ℤ a c s some h =
    let scaled : (up a + down c) * s < (up c + down a) * s = mul-lt-mul_of_pos_right (lt_out a c h) some in
    omega (arith, below_in, product_pos_is)

positive : (b d : ℕ) → 0 < suc b * suc d
positive b d = omega arith

-- `reduced n b` is n / (b + 1)
pub reduced-cross : (n : ℤ) (b : ℕ) → (reduced n b).num *ℤ pos (suc b) ≡ n *ℤ pos (den (reduced n b))
unfolding reduced
reduced-cross n b =
    let g = gcd (unsigned_abs n) (suc b) in
    let is = IsGcd-gcd (unsigned_abs n) (suc b) in
    let top : quotient_by n g *ℤ pos g ≡ n = quotient_by-mul n g is.0 in
    let low : suc b / g * g ≡ suc b = div-mul_cancel g is.1 in
    crossed (quotient_by n g) n (suc b / g) g (suc b) top low ∙ ap (λ d. n *ℤ pos d) (sym (suc-pred_quotient n b))
  where
    crossed : (q n : ℤ) (d g s : ℕ) → q *ℤ pos g ≡ n → d * g ≡ s → q *ℤ pos s ≡ n *ℤ pos d
    crossed q n d g s top low =
        subst (λ m. q *ℤ pos s ≡ m *ℤ pos d) top (subst (λ m. q *ℤ pos m ≡ q *ℤ pos g *ℤ pos d) low (ring_ℤ (q ∷ pos g ∷ pos d ∷ []) (search reads_ℤ) (search reads_ℤ) tt))

-- two rationals are one if their products across are
pub same_ℚ : (x y : ℚ) → x.num *ℤ pos (den y) ≡ y.num *ℤ pos (den x) → x ≡ y
same_ℚ x y e = glue below_same num_same
  where
    absolute : unsigned_abs x.num * den y ≡ unsigned_abs y.num * den x
    absolute = sym (unsigned_abs-mul x.num (pos (den y))) ∙ ap unsigned_abs e ∙ unsigned_abs-mul y.num (pos (den x))

    x_divides : den x ∣ den y
    x_divides = dvd_from_coprime (unsigned_abs x.num) (den x) (den y) (zero-lt-suc y.below) x.lowest (subst (λ n. den x ∣ n) (sym absolute) (dvd-mul_left (den x) (unsigned_abs y.num)))

    y_divides : den y ∣ den x
    y_divides = dvd_from_coprime (unsigned_abs y.num) (den y) (den x) (zero-lt-suc x.below) y.lowest (subst (λ n. den y ∣ n) absolute (dvd-mul_left (den y) (unsigned_abs x.num)))

    den_same : den x ≡ den y
    den_same = dvd_antisymm x_divides y_divides

    below_same : x.below ≡ y.below
    below_same = omega (arith, den_same)

    num_same : x.num ≡ y.num
    num_same = cancel_ℤ x.num y.num (den y) (zero-lt-suc y.below) (e ∙ ap (λ n. y.num *ℤ pos n) den_same)

    glue : x.below ≡ y.below → x.num ≡ y.num → x ≡ y
    glue p q = λ i. record { num = q i; below = p i; lowest = is_prop→PathP (λ j. gcd (unsigned_abs (q j)) (suc (p j)) ≡ 1) (λ j. ℕ_set (gcd (unsigned_abs (q j)) (suc (p j))) 1) x.lowest y.lowest i }

pub reduced_self : (x : ℚ) → reduced x.num x.below ≡ x
reduced_self x = same_ℚ (reduced x.num x.below) x (reduced-cross x.num x.below)

-- a fraction A / B that equals a / b, and one C / D that equals c / d
module _ (A a C c B b D d : ℤ) (left : A *ℤ b ≡ a *ℤ B) (right : C *ℤ d ≡ c *ℤ D) where
  abbrev atoms : List ℤ
  atoms = A ∷ a ∷ C ∷ c ∷ B ∷ b ∷ D ∷ d ∷ []

  first_cross : (A *ℤ D) *ℤ (b *ℤ d) ≡ (a *ℤ d) *ℤ (B *ℤ D)
  first_cross = ring_ℤ atoms (search reads_ℤ) (search reads_ℤ) tt ∙ ap (λ t. t *ℤ (D *ℤ d)) left ∙ ring_ℤ atoms (search reads_ℤ) (search reads_ℤ) tt

  second_cross : (C *ℤ B) *ℤ (b *ℤ d) ≡ (c *ℤ b) *ℤ (B *ℤ D)
  second_cross = ring_ℤ atoms (search reads_ℤ) (search reads_ℤ) tt ∙ ap (λ t. t *ℤ (B *ℤ b)) right ∙ ring_ℤ atoms (search reads_ℤ) (search reads_ℤ) tt

  sum_cross : (A *ℤ D +ℤ C *ℤ B) *ℤ (b *ℤ d) ≡ (a *ℤ d +ℤ c *ℤ b) *ℤ (B *ℤ D)
  sum_cross = ring_ℤ atoms (search reads_ℤ) (search reads_ℤ) tt ∙ ap₂ ◌+ℤ◌ first_cross second_cross ∙ ring_ℤ atoms (search reads_ℤ) (search reads_ℤ) tt

  product_cross : (A *ℤ C) *ℤ (b *ℤ d) ≡ (a *ℤ c) *ℤ (B *ℤ D)
  product_cross = ring_ℤ atoms (search reads_ℤ) (search reads_ℤ) tt ∙ ap₂ ◌*ℤ◌ left right ∙ ring_ℤ atoms (search reads_ℤ) (search reads_ℤ) tt

pub reduced-same : (a c : ℤ) (b d : ℕ) → a *ℤ pos (suc d) ≡ c *ℤ pos (suc b) → reduced a b ≡ reduced c d
reduced-same a c b d e =
    let x = reduced a b in
    let y = reduced c d in
    same_ℚ x y (cancel_ℤ (x.num *ℤ pos (den y)) (y.num *ℤ pos (den x)) (suc b * suc d) (positive b d)
    (first_cross x.num a y.num c (pos (den x)) (pos (suc b)) (pos (den y)) (pos (suc d)) (reduced-cross a b) (reduced-cross c d)
    ∙ ap (λ t. t *ℤ (pos (den x) *ℤ pos (den y))) e
    ∙ sym (second_cross x.num a y.num c (pos (den x)) (pos (suc b)) (pos (den y)) (pos (suc d)) (reduced-cross a b) (reduced-cross c d))))

pub reduced-+ℚ : (a c : ℤ) (b d : ℕ) → reduced a b +ℚ reduced c d ≡ reduced (a *ℤ pos (suc d) +ℤ c *ℤ pos (suc b)) (below_product b d)
unfolding ◌+ℚ◌
reduced-+ℚ a c b d =
    let x = reduced a b in
    let y = reduced c d in
    reduced-same _ _ (below_product x.below y.below) (below_product b d)
    (rw (pos-below_product b d, pos-below_product x.below y.below)
    (sum_cross x.num a y.num c (pos (den x)) (pos (suc b)) (pos (den y)) (pos (suc d)) (reduced-cross a b) (reduced-cross c d)))

pub reduced-*ℚ : (a c : ℤ) (b d : ℕ) → reduced a b *ℚ reduced c d ≡ reduced (a *ℤ c) (below_product b d)
unfolding ◌*ℚ◌
reduced-*ℚ a c b d =
    let x = reduced a b in
    let y = reduced c d in
    reduced-same _ _ (below_product x.below y.below) (below_product b d)
    (rw (pos-below_product b d, pos-below_product x.below y.below)
    (product_cross x.num a y.num c (pos (den x)) (pos (suc b)) (pos (den y)) (pos (suc d)) (reduced-cross a b) (reduced-cross c d)))

pub reduced-neg_ℚ : (a : ℤ) (b : ℕ) → neg_ℚ (reduced a b) ≡ reduced (neg_ℤ a) b
unfolding neg_ℚ
reduced-neg_ℚ a b =
    let x = reduced a b in
    reduced-same (neg_ℤ x.num) (neg_ℤ a) x.below b
    (ring_ℤ (x.num ∷ pos (suc b) ∷ []) (search reads_ℤ) (search reads_ℤ) tt ∙ ap neg_ℤ (reduced-cross a b) ∙ ring_ℤ (a ∷ pos (den x) ∷ []) (search reads_ℤ) (search reads_ℤ) tt)

-- the orders of fractions
module _ (a c : ℤ) (b d : ℕ) where
  abbrev x : ℚ
  x = reduced a b

  abbrev y : ℚ
  y = reduced c d

  left_is : (x.num *ℤ pos (den y)) *ℤ pos (suc b * suc d) ≡ (a *ℤ pos (suc d)) *ℤ pos (den x * den y)
  left_is = first_cross x.num a y.num c (pos (den x)) (pos (suc b)) (pos (den y)) (pos (suc d)) (reduced-cross a b) (reduced-cross c d)

  right_is : (y.num *ℤ pos (den x)) *ℤ pos (suc b * suc d) ≡ (c *ℤ pos (suc b)) *ℤ pos (den x * den y)
  right_is = second_cross x.num a y.num c (pos (den x)) (pos (suc b)) (pos (den y)) (pos (suc d)) (reduced-cross a b) (reduced-cross c d)

  pub reduced-≤ℚ : (a *ℤ pos (suc d)) ≤ℤ (c *ℤ pos (suc b)) ↔ (reduced a b ≤ℚ reduced c d)
  reduced-≤ℚ = (to, from)
    where
      to : (a *ℤ pos (suc d)) ≤ℤ (c *ℤ pos (suc b)) → reduced a b ≤ℚ reduced c d
      to h = record { crossed = cancel-≤ℤ _ _ (suc b * suc d) (positive b d) (rw (left_is, right_is) (times-≤ℤ _ _ (den x * den y) h)) }

      from : reduced a b ≤ℚ reduced c d → (a *ℤ pos (suc d)) ≤ℤ (c *ℤ pos (suc b))
      from h = cancel-≤ℤ _ _ (den x * den y) (positive x.below y.below) (rw (← left_is, ← right_is) (times-≤ℤ _ _ (suc b * suc d) h.crossed))

  pub reduced-<ℚ : (a *ℤ pos (suc d)) <ℤ (c *ℤ pos (suc b)) ↔ (reduced a b <ℚ reduced c d)
  reduced-<ℚ = (to, from)
    where
      to : (a *ℤ pos (suc d)) <ℤ (c *ℤ pos (suc b)) → reduced a b <ℚ reduced c d
      to h = record { crossed = cancel-<ℤ _ _ (suc b * suc d) (rw (left_is, right_is) (times-<ℤ _ _ (den x * den y) (positive x.below y.below) h)) }

      from : reduced a b <ℚ reduced c d → (a *ℤ pos (suc d)) <ℤ (c *ℤ pos (suc b))
      from h = cancel-<ℤ _ _ (den x * den y) (rw (← left_is, ← right_is) (times-<ℤ _ _ (suc b * suc d) (positive b d) h.crossed))

-- a fraction that is in lowest terms stays as it is
pub reduced_is : (n : ℤ) (b : ℕ) (apart : gcd (unsigned_abs n) (suc b) ≡ 1) → reduced n b ≡ record { num = n; below = b; lowest = apart }
reduced_is n b apart = reduced_self (record { num = n; below = b; lowest = apart })

pub num-reduced : (n : ℤ) (b : ℕ) → gcd (unsigned_abs n) (suc b) ≡ 1 → (reduced n b).num ≡ n
num-reduced n b apart = ap (λ x. x.num) (reduced_is n b apart)

pub below-reduced : (n : ℤ) (b : ℕ) → gcd (unsigned_abs n) (suc b) ≡ 1 → (reduced n b).below ≡ b
below-reduced n b apart = ap (λ x. x.below) (reduced_is n b apart)

-- in lowest terms neither number grows
pub abs-num_reduced : (n : ℤ) (b : ℕ) → unsigned_abs (reduced n b).num ≤ unsigned_abs n
unfolding reduced
abs-num_reduced n b = subst (λ m. m ≤ unsigned_abs n) (sym (abs-quotient_by n (gcd (unsigned_abs n) (suc b)))) (div-le_self (unsigned_abs n) (gcd (unsigned_abs n) (suc b)))

pub den-reduced : (n : ℤ) (b : ℕ) → den (reduced n b) ≤ suc b
unfolding reduced
den-reduced n b = subst (λ m. m ≤ suc b) (sym (suc-pred_quotient n b)) (div-le_self (suc b) (gcd (unsigned_abs n) (suc b)))
