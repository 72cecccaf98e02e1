-- The sides of a row are a range: a number that has room is near itself.
use Rattle.std.proofs.Common.{◌≡◌, ℕ, ◌*◌, ◌/◌, ◌<◌, ◌≤◌, [], ◌∷◌, pos, sym, ◌∙◌, ap, ap₂, subst, arith, ℤ, ◌+ℤ◌, ◌*ℤ◌}
use Rattle.std.specs.Prelude.{unsigned_abs}
use Rattle.std.proofs.Math.Nat.{div_self}
use Rattle.std.proofs.lemmas.Int.{ints}
use Rattle.frac128.specs.Gcd.{gcd, gcd-mul, gcd-one}
use Rattle.frac128.specs.Rational.{ℚ, int, den, neg_ℚ}
use Rattle.frac128.specs.RationalOrder.{≤ℚ_refl}
use Rattle.frac128.specs.IntegerRing.{ring_ℤ, reads_ℤ}
use Rattle.frac128.proofs.Integers.{num-neg_ℚ, den-neg_ℚ}
use Rattle.frac128.specs.RationalRing.{ring, reads_ℚ, +ℚ-neg_ℚ}
use Rattle.frac128.specs.Range.{largest, IsNarrow, Fits, SumFits, left_factor, right_factor}
use Rattle.lp_model.specs.Lawful.{AreSubtractable, IsRange}
use Rattle.mps_fields.specs.declared.words.RowKind.{RowKind}
use Rattle.mps_fields.specs.declared.words.RowKind.TheVariants.{Free, AtMost, AtLeast, Equal}
use Rattle.mps_model.specs.Meaning.{low_side_by_kind, high_side_by_kind}

one_factor : (z : ℤ) (n : ℕ) → n ≡ 1 → z *ℤ pos n ≡ z
one_factor z n e = ap (λ m. z *ℤ pos m) e ∙ ring_ℤ (z ∷ []) (search reads_ℤ) (search reads_ℤ) tt

no_factor : (n : ℕ) → pos 0 *ℤ pos n ≡ pos 0
no_factor n = ring_ℤ (pos n ∷ []) (search reads_ℤ) (search reads_ℤ) tt

gcd_self : (n : ℕ) → 0 < n → gcd n n ≡ n
gcd_self n some =
    let one : n * 1 ≡ n = omega arith in
    ap₂ gcd (sym one) (sym one) ∙ gcd-mul n 1 1 some ∙ ap (λ g. n * g) (gcd-one 1) ∙ one

factor_self : (n : ℕ) → 0 < n → n / gcd n n ≡ 1
factor_self n some = ap (λ g. n / g) (gcd_self n some) ∙ div_self some

-- x - x has room
minus_itself : (x : ℚ) → Fits x → SumFits x (neg_ℚ x)
minus_itself x fits =
    let top = num-neg_ℚ x in
    let bottom = den-neg_ℚ x in
    let some : 0 < den x = omega arith in
    let left : left_factor x (neg_ℚ x) ≡ 1 = ap (λ n. n / gcd (den x) n) bottom ∙ factor_self (den x) some in
    let right : right_factor x (neg_ℚ x) ≡ 1 = ap (λ n. den x / gcd (den x) n) bottom ∙ factor_self (den x) some in
    let left_is = one_factor x.num (left_factor x (neg_ℚ x)) left in
    let right_is = one_factor (neg_ℚ x).num (right_factor x (neg_ℚ x)) right in
    let narrow = fits.numerator in
    let room = fits.denominator in
    record {
      left = subst IsNarrow (sym left_is) narrow;
      right = subst IsNarrow (sym right_is) (let k : unsigned_abs (neg_ℚ x).num ≤ largest = omega (arith, ints) in k);
      total = subst IsNarrow (sym (ap₂ ◌+ℤ◌ left_is right_is)) (let k : unsigned_abs (x.num +ℤ (neg_ℚ x).num) ≤ largest = omega (arith, ints) in k);
      denominator = subst (λ n. den x * n ≤ largest) (sym left) (omega arith);
    }

-- x + 0 has room
plus_zero : (x : ℚ) → Fits x → SumFits x (int (pos 0))
unfolding int
plus_zero x fits =
    let left : left_factor x (int (pos 0)) ≡ 1 = ap (λ g. 1 / g) (gcd-one (den x)) in
    let left_is = one_factor x.num (left_factor x (int (pos 0))) left in
    let right_is = no_factor (right_factor x (int (pos 0))) in
    let narrow = fits.numerator in
    let room = fits.denominator in
    record {
      left = subst IsNarrow (sym left_is) narrow;
      right = subst IsNarrow (sym right_is) (omega arith);
      total = subst IsNarrow (sym (ap₂ ◌+ℤ◌ left_is right_is)) (let k : unsigned_abs (x.num +ℤ pos 0) ≤ largest = omega (arith, ints) in k);
      denominator = subst (λ n. den x * n ≤ largest) (sym left) (omega arith);
    }

near_itself : (x : ℚ) → Fits x → AreSubtractable x x
near_itself x fits =
    let zero : neg_ℚ (int (pos 0)) ≡ int (pos 0) = ring [] (search reads_ℚ) tt in
    record { width = minus_itself x fits; back = subst (λ z. SumFits x z) (sym (ap neg_ℚ (+ℚ-neg_ℚ x) ∙ zero)) (plus_zero x fits) }

pub sides_range : (kind : RowKind) (x : ℚ) → Fits x → IsRange (low_side_by_kind kind x) (high_side_by_kind kind x)
sides_range Free x fits = (≤ℚ_refl x, near_itself x fits)
sides_range AtMost x fits = tt
sides_range AtLeast x fits = tt
sides_range Equal x fits = (≤ℚ_refl x, near_itself x fits)
