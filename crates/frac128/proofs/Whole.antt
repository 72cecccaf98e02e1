-- Which numbers and which steps have room: whole numbers, 0, opposites, and sums turned round.
use Rattle.std.specs.Prelude.{◌≡◌, ℕ, zero, suc, ◌*◌, ◌/◌, ◌≤◌, [], ◌∷◌, ℤ, pos, negsuc, ◌+ℤ◌, ◌-ℤ◌, ◌*ℤ◌, neg_ℤ, unsigned_abs, Result, OkIff}
use Rattle.std.proofs.Common.{sym, ap, ap₂, subst, ◌∙◌, arith, lit≤, div-one}
use Rattle.std.proofs.lemmas.Int.{ints}
use mathlib.Core.Path.{subst₂}
use Rattle.std.proofs.Math.Nat.{div-le_self, div-mul_cancel}
use Rattle.frac128.specs.Gcd.{gcd, gcd-one, gcd_comm, IsGcd-gcd}
use Rattle.frac128.specs.Rational.{ℚ, den, int, ◌+ℚ◌, ◌*ℚ◌, neg_ℚ, floor, ceil, floor_quotient}
use Rattle.frac128.specs.IntegerRing.{ring_ℤ, reads_ℤ}
use Rattle.frac128.proofs.Integers.{int-num, num-neg_ℚ, den-neg_ℚ}
use Rattle.frac128.specs.RationalRing.{int-+ℤ, int-*ℤ, int-neg_ℤ}
use Rattle.frac128.specs.Range.{IsNarrow, Fits, SumFits, left_factor, right_factor, largest}
use Rattle.frac128.proofs.SumTerms.{OkIff_same, sum_fits}

over_one : (n : ℤ) → n *ℤ pos 1 ≡ n
over_one n = ring_ℤ (n ∷ []) (search reads_ℤ) (search reads_ℤ) tt

turned : (a b : ℤ) → a +ℤ b ≡ b +ℤ a
turned a b = ring_ℤ (a ∷ b ∷ []) (search reads_ℤ) (search reads_ℤ) tt

-- ---- whole numbers

pub Fits-int : (z : ℤ) → IsNarrow z → Fits (int z)
unfolding int
Fits-int z h = record { numerator = h; denominator = lit≤ tt }

pub IsNarrow-from_Fits : (z : ℤ) → Fits (int z) → IsNarrow z
unfolding int
IsNarrow-from_Fits z f = f.numerator

pub SumFits-int : (a b : ℤ) → IsNarrow a → IsNarrow b → IsNarrow (a +ℤ b) → SumFits (int a) (int b)
unfolding int gcd
SumFits-int a b h k m = record {
  left = subst IsNarrow (sym (over_one a)) h;
  right = subst IsNarrow (sym (over_one b)) k;
  total = subst IsNarrow (sym (ap₂ ◌+ℤ◌ (over_one a) (over_one b))) m;
  denominator = lit≤ tt;
}

pub IsNarrow-from_SumFits : (a b : ℤ) → SumFits (int a) (int b) → IsNarrow (a +ℤ b)
unfolding int gcd
IsNarrow-from_SumFits a b f = subst IsNarrow (ap₂ ◌+ℤ◌ (over_one a) (over_one b)) f.total

-- the step of `sub`
pub SumFits-difference_int : (a b : ℤ) → IsNarrow a → IsNarrow b → IsNarrow (a -ℤ b) → SumFits (int a) (neg_ℚ (int b))
SumFits-difference_int a b h k m =
    let turned_narrow : IsNarrow (neg_ℤ b) = omega (arith, ints) in
    subst (SumFits (int a)) (int-neg_ℤ b) (SumFits-int a (neg_ℤ b) h turned_narrow m)

pub Fits-product_int : (a b : ℤ) → IsNarrow (a *ℤ b) → Fits (int a *ℚ int b)
Fits-product_int a b h = subst Fits (int-*ℤ a b) (Fits-int (a *ℤ b) h)

pub IsNarrow-from_product : (a b : ℤ) → Fits (int a *ℚ int b) → IsNarrow (a *ℤ b)
IsNarrow-from_product a b f = IsNarrow-from_Fits (a *ℤ b) (subst Fits (sym (int-*ℤ a b)) f)

-- ---- 0, opposites, sums

pub Fits-zero : Fits (int (pos 0))
Fits-zero = Fits-int (pos 0) (lit≤ tt)

pub Fits-neg : (x : ℚ) → Fits x → Fits (neg_ℚ x)
Fits-neg x f = let top = num-neg_ℚ x in let bottom = den-neg_ℚ x in let size = f.numerator in let room = f.denominator in
    record { numerator = subst IsNarrow (sym top) (omega (arith, ints)); denominator = omega arith }

pub Fits-sum : (x y : ℚ) → SumFits x y → Fits (x +ℚ y)
Fits-sum x y f = sum_fits x y f

pub SumFits-zero : (x : ℚ) → Fits x → SumFits x (int (pos 0))
unfolding int
SumFits-zero x f =
    let one : 1 / gcd (den x) 1 ≡ 1 = ap (λ g. 1 / g) (gcd-one (den x)) in
    let same : den x / gcd (den x) 1 ≡ den x = ap (λ g. den x / g) (gcd-one (den x)) ∙ div-one (den x) in
    let left_is : x.num *ℤ pos (1 / gcd (den x) 1) ≡ x.num = ap (λ n. x.num *ℤ pos n) one ∙ over_one x.num in
    let right_is : pos 0 *ℤ pos (den x / gcd (den x) 1) ≡ pos 0 = ring_ℤ (pos (den x / gcd (den x) 1) ∷ []) (search reads_ℤ) (search reads_ℤ) tt in
    let total_is : x.num *ℤ pos (1 / gcd (den x) 1) +ℤ pos 0 *ℤ pos (den x / gcd (den x) 1) ≡ x.num = ap₂ ◌+ℤ◌ left_is right_is ∙ ring_ℤ (x.num ∷ []) (search reads_ℤ) (search reads_ℤ) tt in
    record {
      left = subst IsNarrow (sym left_is) f.numerator;
      right = subst IsNarrow (sym right_is) (lit≤ tt);
      total = subst IsNarrow (sym total_is) f.numerator;
      denominator = subst (λ n. den x * n ≤ largest) (sym one) (let room = f.denominator in omega arith);
    }

pub SumFits_swap : (x y : ℚ) → SumFits x y → SumFits y x
SumFits_swap x y f =
    let g = gcd_comm (den y) (den x) in
    let left_is : left_factor y x ≡ right_factor x y = ap (λ n. den x / n) g in
    let right_is : right_factor y x ≡ left_factor x y = ap (λ n. den y / n) g in
    record {
      left = subst (λ n. IsNarrow (y.num *ℤ pos n)) (sym left_is) f.right;
      right = subst (λ n. IsNarrow (x.num *ℤ pos n)) (sym right_is) f.left;
      total = subst₂ (λ m n. IsNarrow (y.num *ℤ pos m +ℤ x.num *ℤ pos n)) (sym left_is) (sym right_is) (subst IsNarrow (turned (x.num *ℤ pos (left_factor x y)) (y.num *ℤ pos (right_factor x y))) f.total);
      denominator = subst (λ n. n ≤ largest) (sym (ap (λ n. den y * n) left_is ∙ common)) f.denominator;
    }
  where
    common : den y * right_factor x y ≡ den x * left_factor x y
    common = at (den x) (den y) (gcd (den x) (den y)) (div-mul_cancel (gcd (den x) (den y)) (IsGcd-gcd (den x) (den y)).0) (div-mul_cancel (gcd (den x) (den y)) (IsGcd-gcd (den x) (den y)).1)
      where
        at : (b d g : ℕ) → b / g * g ≡ b → d / g * g ≡ d → d * (b / g) ≡ b * (d / g)
        at b d g p q = subst₂ (λ s t. t * (b / g) ≡ s * (d / g)) p q (omega arith)

-- ---- rounding

pub IsNarrow-floor : (x : ℚ) → Fits x → IsNarrow (floor x)
unfolding floor
IsNarrow-floor x f = at x.num (den x) f.numerator
  where
    at : (n : ℤ) (d : ℕ) → IsNarrow n → IsNarrow (floor_quotient n d)
    at (pos a) d h = omega (arith, div-le_self a d)
    at (negsuc a) d h = omega (arith, div-le_self a d)

pub IsNarrow-ceil : (x : ℚ) → Fits x → IsNarrow (ceil x)
unfolding ceil
IsNarrow-ceil x f = at x.num (den x) f.numerator
  where
    at : (n : ℤ) (d : ℕ) → IsNarrow n → IsNarrow (neg_ℤ (floor_quotient (neg_ℤ n) d))
    at (pos zero) d h = let e : unsigned_abs (neg_ℤ (pos (0 / d))) ≡ 0 / d = omega (arith, ints) in let less = div-le_self 0 d in omega arith
    at (pos (suc a)) d h = omega (arith, div-le_self a d)
    at (negsuc a) d h = let e : unsigned_abs (neg_ℤ (pos (suc a / d))) ≡ suc a / d = omega (arith, ints) in let less = div-le_self (suc a) d in omega arith

-- ---- what the calls need where both denominators are 1

module _ (x y : ℚ) (a c : ℤ) (x_is : x ≡ int a) (y_is : y ≡ int c) (x_fits : IsNarrow a) (y_fits : IsNarrow c) {E : Type 0} (r : Result ℚ E) where
  pub whole_sum_is : OkIff r (IsNarrow (a +ℤ c)) (int (a +ℤ c)) → OkIff r (SumFits x y) (x +ℚ y)
  whole_sum_is h = subst₂ (λ v w. OkIff r (SumFits v w) (v +ℚ w)) (sym x_is) (sym y_is)
      (OkIff_same r (SumFits-int a c x_fits y_fits) (IsNarrow-from_SumFits a c) (int-+ℤ a c) h)

  pub whole_product_is : OkIff r (IsNarrow (a *ℤ c)) (int (a *ℤ c)) → OkIff r (Fits (x *ℚ y)) (x *ℚ y)
  whole_product_is h = subst₂ (λ v w. OkIff r (Fits (v *ℚ w)) (v *ℚ w)) (sym x_is) (sym y_is)
      (OkIff_same r (Fits-product_int a c) (IsNarrow-from_product a c) (int-*ℤ a c) h)

-- a fraction over the denominator 1 is its numerator
pub whole_is : (x : ℚ) (n d : ℤ) → (x.num ≡ n) × (pos (den x) ≡ d) → d ≡ pos 1 → x ≡ int n
whole_is x n d fields one = let whole : den x ≡ 1 = (let e = fields.1 in omega (arith, ints)) in int-num x whole ∙ ap int fields.0
