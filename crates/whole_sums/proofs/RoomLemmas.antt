-- Sums of fractions over one denominator have room where their numbers over it do.
use Rattle.std.specs.Prelude.{◌≡◌, ℕ, zero, suc, ◌*◌, ◌/◌, ◌<◌, ◌≤◌, ◌^◌, [], ◌∷◌, ℤ, pos, ◌+ℤ◌, ◌*ℤ◌, unsigned_abs}
use Rattle.std.specs.Int.{◌∣◌, IsGcd}
use Rattle.std.proofs.Common.{sym, ap, ap₂, subst, ◌∙◌, arith}
use Rattle.std.proofs.Math.Nat.{dvd-mul_right, dvd_of_mul-dvd-mul_right, mul-le-mul_right, mul-le-mul_left, div-mul_cancel}
use Rattle.std.proofs.lemmas.Int.{unsigned_abs-mul}
use Rattle.frac128.specs.Gcd.{gcd, gcd_pos, gcd-div, IsGcd-gcd, dvd_from_coprime}
use Rattle.frac128.specs.Rational.{ℚ, den, reduced, suc-pred_quotient}
use Rattle.frac128.specs.IntegerRing.{ring_ℤ, reads_ℤ}
use Rattle.frac128.specs.Lowest.{cancel_ℤ}
use mathlib.Core.Path.{subst₂}
use Rattle.frac128.specs.Range.{IsNarrow, SumFits, largest, left_factor, right_factor}
use Rattle.whole_sums.specs.Wholes.{IsShort}

abs_within : (a X : ℤ) (c : ℕ) → 0 < c → a *ℤ pos c ≡ X → unsigned_abs a ≤ unsigned_abs X
abs_within a X c some e =
    let more : unsigned_abs a * 1 ≤ unsigned_abs a * c = mul-le-mul_left (unsigned_abs a) (let w : 1 ≤ c = omega (arith, some) in w) in
    let size : unsigned_abs a * c ≡ unsigned_abs X = sym (unsigned_abs-mul a (pos c)) ∙ ap unsigned_abs e in
    omega (arith, more, size)

pub den_divides : (n : ℤ) (b : ℕ) → den (reduced n b) ∣ suc b
unfolding reduced
den_divides n b =
    let g = gcd (unsigned_abs n) (suc b) in
    let q : suc b / g * g ≡ suc b = div-mul_cancel g (IsGcd-gcd (unsigned_abs n) (suc b)).1 in
    subst (λ d. d ∣ suc b) (sym (suc-pred_quotient n b)) (subst (λ t. suc b / g ∣ t) q (dvd-mul_right (suc b / g) g))

-- x is X / B, y is Y / B
module _ (x y : ℚ) (B : ℕ) (some : 0 < B) (x_in : den x ∣ B) (y_in : den y ∣ B) (X Y : ℤ) (x_is : x.num *ℤ pos B ≡ X *ℤ pos (den x)) (y_is : y.num *ℤ pos B ≡ Y *ℤ pos (den y)) where
  abbrev g : ℕ
  g = gcd (den x) (den y)

  abbrev lf : ℕ
  lf = left_factor x y

  abbrev rf : ℕ
  rf = right_factor x y

  is : IsGcd (den x) (den y) g
  is = IsGcd-gcd (den x) (den y)

  g_positive : 0 < g
  g_positive = gcd_pos (den x) (den y) (omega arith)

  x_den : rf * g ≡ den x
  x_den = div-mul_cancel g is.0

  y_den : lf * g ≡ den y
  y_den = div-mul_cancel g is.1

  abbrev s : ℕ
  s = B / den x

  s_is : s * den x ≡ B
  s_is = div-mul_cancel (den x) x_in

  s_positive : 0 < s
  s_positive = positive s (den x) B s_is some
    where
      positive : (a b c : ℕ) → a * b ≡ c → 0 < c → 0 < a
      positive zero b c e h = omega (arith, e, h)
      positive (suc a) b c e h = omega arith

  in_scaled : lf * g ∣ rf * s * g
  in_scaled = subst₂ (λ a b. a ∣ b) (sym y_den) (sym s_is ∙ ap (λ t. s * t) (sym x_den) ∙ (let e : s * (rf * g) ≡ rf * s * g = omega arith in e)) y_in

  lf_in : lf ∣ s
  lf_in = dvd_from_coprime rf lf s s_positive (gcd-div (den x) (den y) (omega arith)) (dvd_of_mul-dvd-mul_right lf g_positive in_scaled)

  abbrev c : ℕ
  c = s / lf

  c_is : c * lf ≡ s
  c_is = div-mul_cancel lf lf_in

  c_positive : 0 < c
  c_positive = positive c lf s c_is s_positive
    where
      positive : (a b c : ℕ) → a * b ≡ c → 0 < c → 0 < a
      positive zero b c e h = omega (arith, e, h)
      positive (suc a) b c e h = omega arith

  B_left : c * lf * den x ≡ B
  B_left = ap (λ t. t * den x) c_is ∙ s_is

  B_right : c * rf * den y ≡ B
  B_right = ap (λ t. c * rf * t) (sym y_den) ∙ (let e : c * rf * (lf * g) ≡ c * lf * (rf * g) = omega arith in e) ∙ ap (λ t. c * lf * t) x_den ∙ B_left

  left_scaled : x.num *ℤ pos lf *ℤ pos c ≡ X
  left_scaled = cancel_ℤ _ X (den x) (omega arith) (scaled x.num c lf (den x) ∙ ap (λ b. x.num *ℤ pos b) B_left ∙ x_is)
    where
      scaled : (a : ℤ) (c l d : ℕ) → a *ℤ pos l *ℤ pos c *ℤ pos d ≡ a *ℤ pos (c * l * d)
      scaled a c l d = ring_ℤ (a ∷ pos c ∷ pos l ∷ pos d ∷ []) (search reads_ℤ depth 9) (search reads_ℤ depth 9) tt

  right_scaled : y.num *ℤ pos rf *ℤ pos c ≡ Y
  right_scaled = cancel_ℤ _ Y (den y) (omega arith) (scaled y.num c rf (den y) ∙ ap (λ b. y.num *ℤ pos b) B_right ∙ y_is)
    where
      scaled : (a : ℤ) (c l d : ℕ) → a *ℤ pos l *ℤ pos c *ℤ pos d ≡ a *ℤ pos (c * l * d)
      scaled a c l d = ring_ℤ (a ∷ pos c ∷ pos l ∷ pos d ∷ []) (search reads_ℤ depth 9) (search reads_ℤ depth 9) tt

  total_scaled : (x.num *ℤ pos lf +ℤ y.num *ℤ pos rf) *ℤ pos c ≡ X +ℤ Y
  total_scaled = over (x.num *ℤ pos lf) (y.num *ℤ pos rf) (pos c) ∙ ap₂ ◌+ℤ◌ left_scaled right_scaled
    where
      over : (a b c : ℤ) → (a +ℤ b) *ℤ c ≡ a *ℤ c +ℤ b *ℤ c
      over a b c = ring_ℤ (a ∷ b ∷ c ∷ []) (search reads_ℤ) (search reads_ℤ) tt

  pub sum_fits_by : IsNarrow X → IsNarrow Y → IsNarrow (X +ℤ Y) → B ≤ largest → SumFits x y
  sum_fits_by X_narrow Y_narrow total_narrow B_narrow = record {
    left = let h = abs_within _ X c c_positive left_scaled in omega (arith, h, X_narrow);
    right = let h = abs_within _ Y c c_positive right_scaled in omega (arith, h, Y_narrow);
    total = let h = abs_within _ (X +ℤ Y) c c_positive total_scaled in omega (arith, h, total_narrow);
    denominator =
        let h : 1 * (den x * lf) ≤ c * (den x * lf) = mul-le-mul_right (den x * lf) (let w : 1 ≤ c = omega (arith, c_positive) in w) in
        let e : c * (den x * lf) ≡ B = (let f : c * (den x * lf) ≡ c * lf * den x = omega arith in f) ∙ B_left in
        omega (arith, h, e, B_narrow);
  }

pub short_product : (a b : ℤ) → IsShort a → IsShort b → unsigned_abs (a *ℤ b) ≤ 2 ^ 124
short_product a b h k =
    let left : unsigned_abs a * unsigned_abs b ≤ 2 ^ 62 * unsigned_abs b = mul-le-mul_right (unsigned_abs b) (omega arith) in
    rw unsigned_abs-mul (omega arith)

pub short_narrow : (n : ℤ) → IsShort n → IsNarrow n
short_narrow n h = omega (arith, h)
