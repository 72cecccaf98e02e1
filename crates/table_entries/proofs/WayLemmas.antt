-- The ways of rows: what the numbers of a row after an exchange are divided and multiplied by.
use Rattle.std.specs.Prelude.{◌≡◌, ◌≢◌, ◌-◌, ◌*◌, ◌^◌, ◌<◌, ◌≤◌, [], ◌∷◌, ◌<ℤ◌, ℤ, pos, ◌-ℤ◌, ◌*ℤ◌, unsigned_abs, Bool, true, false}
use Rattle.std.proofs.Common.{refl, sym, ap, subst, ◌∙◌, arith, to_z, of_z, w64}
use Rattle.std.proofs.Math.Nat.{mul-le-mul_right}
use Rattle.std.proofs.lemmas.Int.{ints, unsigned_abs-mul}
use Rattle.frac128.specs.Rational.{ℚ, den}
use Rattle.frac128.specs.IntegerRing.{ring_ℤ, reads_ℤ}
use Rattle.frac128.specs.Lowest.{reduced-cross}
use Rattle.frac128.specs.RationalOrder.{product_positive}
use Rattle.frac128.specs.LowestTerms.{quotient_of}
use Rattle.frac128.proofs.Terms.{denominator_is}
use Rattle.table_entries.specs.WholeSteps.{IsShort, magnitude, by_sign}
use Rattle.table_entries.specs.private.Ways.{Has32Bits, IsRatio, IsWay, divided}
use Rattle.table_entries.proofs.ReadLemmas.{short_read}
use Rattle.table_entries.proofs.WholeLemmas.{by_sign-short, magnitude_positive, signed_ratio}

-- x is the number by the denominator
pub ratio_is : (n d a b : ℤ) (x : ℚ) → pos 0 <ℤ d → x ≡ quotient_of n d → a ≡ x.num → b ≡ pos (den x) → IsShort a → IsShort b → IsRatio n d a b
ratio_is n d a b x positive x_is a_is b_is a_short b_short = record {
  positive = subst (λ t. pos 0 <ℤ t) (sym b_is) (omega (arith, ints));
  top_short = a_short;
  bottom_short = b_short;
  same =
      (λ i. (a_is ∙ ap (λ y. y.num) x_is) i *ℤ sym (denominator_is d positive) i)
      ∙ reduced-cross n (unsigned_abs d - 1)
      ∙ sym (ap (λ t. n *ℤ t) (b_is ∙ ap (λ y. pos (den y)) x_is));
}

pub leaving_is : (D after p f a b : ℤ) → IsRatio after (magnitude p) a b → IsWay true D after p f (by_sign p (pos 1)) (pos 0) b a
leaving_is D after p f a b h = record {
  positive = h.positive;
  factor_short = by_sign-short p (pos 1) (omega arith);
  scale_short = omega arith;
  divisor_short = h.bottom_short;
  multiplier_short = h.top_short;
  leads = (refl, (refl, h.same));
}

one_short : IsShort (pos 1)
one_short = omega arith

pub leaving_same : (D p f : ℤ) → IsWay true D (magnitude p) p f (by_sign p (pos 1)) (pos 0) (pos 1) (pos 1)
leaving_same D p f = record {
  positive = omega (arith, ints);
  factor_short = by_sign-short p (pos 1) one_short;
  scale_short = omega arith;
  divisor_short = one_short;
  multiplier_short = one_short;
  leads = (refl, (refl, turned (magnitude p)));
}
  where
    turned : (e : ℤ) → pos 1 *ℤ e ≡ e *ℤ pos 1
    turned e = ring_ℤ (e ∷ []) {x = pos 1 *ℤ e} {y = e *ℤ pos 1} (search reads_ℤ) (search reads_ℤ) tt

-- over the pivot's magnitude
pub pivot_is : (D p f : ℤ) → pos 0 <ℤ D → IsShort D → IsShort p → IsShort f → IsWay false D (magnitude p) p f (by_sign p f) (magnitude p) D (pos 1)
pivot_is D p f positive D_short p_short f_short = record {
  positive = positive;
  factor_short = by_sign-short p f f_short;
  scale_short = p_short;
  divisor_short = D_short;
  multiplier_short = one_short;
  leads = (refl, turned D (magnitude p));
}
  where
    turned : (d e : ℤ) → pos 1 *ℤ (d *ℤ e) ≡ e *ℤ d
    turned d e = ring_ℤ (d ∷ e ∷ []) (search reads_ℤ) (search reads_ℤ) tt

-- over the same denominator
pub same_is : (D p f : ℤ) → p ≢ pos 0 → IsShort p → IsShort f → IsWay false D D p f (by_sign p f) (magnitude p) (magnitude p) (pos 1)
same_is D p f some p_short f_short = record {
  positive = magnitude_positive p some;
  factor_short = by_sign-short p f f_short;
  scale_short = p_short;
  divisor_short = p_short;
  multiplier_short = one_short;
  leads = (refl, one D (magnitude p));
}
  where
    one : (d e : ℤ) → pos 1 *ℤ (d *ℤ e) ≡ d *ℤ e
    one d e = ring_ℤ (d ∷ e ∷ []) (search reads_ℤ) (search reads_ℤ) tt

-- over any denominator
pub lowest_is : (D after p f m q a b u d v : ℤ) → IsRatio f (magnitude p) m q → IsRatio after q a b → IsRatio a D u d → v ≡ b *ℤ d → IsShort v → IsWay false D after p f (by_sign p m) q v u
lowest_is D after p f m q a b u d v taken first second v_is v_short = record {
  positive = subst (λ t. pos 0 <ℤ t) (sym v_is) (product_positive b d first.positive second.positive);
  factor_short = by_sign-short p m taken.top_short;
  scale_short = taken.bottom_short;
  divisor_short = v_short;
  multiplier_short = second.top_short;
  leads = (
    signed_ratio p (magnitude p) m f q taken.same,
    one u D q ∙ ap (λ t. t *ℤ q) second.same ∙ two a d q ∙ ap (λ t. t *ℤ d) first.same ∙ three after b d ∙ ap (λ t. after *ℤ t) (sym v_is),
  );
}
  where
    one : (u d q : ℤ) → u *ℤ (d *ℤ q) ≡ u *ℤ d *ℤ q
    one u d q = ring_ℤ (u ∷ d ∷ q ∷ []) (search reads_ℤ) (search reads_ℤ) tt

    two : (a d q : ℤ) → a *ℤ d *ℤ q ≡ a *ℤ q *ℤ d
    two a d q = ring_ℤ (a ∷ d ∷ q ∷ []) (search reads_ℤ) (search reads_ℤ) tt

    three : (g b d : ℤ) → g *ℤ b *ℤ d ≡ g *ℤ (b *ℤ d)
    three g b d = ring_ℤ (g ∷ b ∷ d ∷ []) (search reads_ℤ) (search reads_ℤ) tt

-- ---- numbers that keep

pub nothing_scaled : (e v q u : ℤ) → e ≡ pos 0 → e *ℤ v ≡ e *ℤ q *ℤ u
nothing_scaled e v q u none = ap (λ t. t *ℤ v) none ∙ zero v q u ∙ ap (λ t. t *ℤ q *ℤ u) (sym none)
  where
    zero : (v q u : ℤ) → pos 0 *ℤ v ≡ pos 0 *ℤ q *ℤ u
    zero v q u = ring_ℤ (v ∷ q ∷ u ∷ []) {x = pos 0 *ℤ v} {y = pos 0 *ℤ q *ℤ u} (search reads_ℤ depth 9) (search reads_ℤ depth 9) tt

pub one_scaled : (e v q u : ℤ) → v ≡ q → u ≡ pos 1 → e *ℤ v ≡ e *ℤ q *ℤ u
one_scaled e v q u same one = ap (λ t. e *ℤ t) same ∙ by_one e q ∙ ap (λ t. e *ℤ q *ℤ t) (sym one)
  where
    by_one : (e q : ℤ) → e *ℤ q ≡ e *ℤ q *ℤ pos 1
    by_one e q = ring_ℤ (e ∷ q ∷ []) (search reads_ℤ) (search reads_ℤ) tt

pub no_factor : (e q m x u : ℤ) → m ≡ pos 0 → e *ℤ q *ℤ u ≡ (e *ℤ q -ℤ m *ℤ x) *ℤ u
no_factor e q m x u none = zero e q x u ∙ ap (λ t. (e *ℤ q -ℤ t *ℤ x) *ℤ u) (sym none)
  where
    zero : (e q x u : ℤ) → e *ℤ q *ℤ u ≡ (e *ℤ q -ℤ pos 0 *ℤ x) *ℤ u
    zero e q x u = ring_ℤ (e ∷ q ∷ x ∷ u ∷ []) {x = e *ℤ q *ℤ u} {y = (e *ℤ q -ℤ pos 0 *ℤ x) *ℤ u} (search reads_ℤ depth 9) (search reads_ℤ depth 9) tt

pub no_number : (e q m x u : ℤ) → x ≡ pos 0 → e *ℤ q *ℤ u ≡ (e *ℤ q -ℤ m *ℤ x) *ℤ u
no_number e q m x u none = zero e q m u ∙ ap (λ t. (e *ℤ q -ℤ m *ℤ t) *ℤ u) (sym none)
  where
    zero : (e q m u : ℤ) → e *ℤ q *ℤ u ≡ (e *ℤ q -ℤ m *ℤ pos 0) *ℤ u
    zero e q m u = ring_ℤ (e ∷ q ∷ m ∷ u ∷ []) {x = e *ℤ q *ℤ u} {y = (e *ℤ q -ℤ m *ℤ pos 0) *ℤ u} (search reads_ℤ depth 9) (search reads_ℤ depth 9) tt

-- from an entry of a row that is scaled nothing is taken, and in the entering place it is 0
pub scaled_divided : (b : Bool) (D m q x e u n v : ℤ) → m ≡ pos 0 → (b ≡ true → e ≡ pos 0) → n *ℤ v ≡ e *ℤ q *ℤ u → n *ℤ v ≡ divided b D m q x e *ℤ u
scaled_divided true D m q x e u n v none nothing h = h ∙ ap (λ t. t *ℤ q *ℤ u) (nothing refl) ∙ zero D q u ∙ ap (λ t. t *ℤ D *ℤ u) (sym none)
  where
    zero : (d q u : ℤ) → pos 0 *ℤ q *ℤ u ≡ pos 0 *ℤ d *ℤ u
    zero d q u = ring_ℤ (d ∷ q ∷ u ∷ []) {x = pos 0 *ℤ q *ℤ u} {y = pos 0 *ℤ d *ℤ u} (search reads_ℤ depth 9) (search reads_ℤ depth 9) tt
scaled_divided false D m q x e u n v none nothing h = h ∙ no_factor e q m x u none

-- ---- numbers of 32 bits

pub read_32 : (n : ℤ) → Has32Bits n → to_z w64 (of_z w64 n) ≡ n
read_32 n h = omega (arith, ints, h)

pub again_32 : (n : ℤ) → Has32Bits n → Has32Bits (to_z w64 (of_z w64 n))
again_32 n h = subst Has32Bits (sym (read_32 n h)) h

-- what the code sees of a short number has 32 bits
pub has_32_read : (n : ℤ) → IsShort n → Has32Bits (to_z w64 (of_z w64 n)) → Has32Bits n
has_32_read n short h = subst Has32Bits (short_read n short) h

pub slim_product : (a b : ℤ) → Has32Bits a → Has32Bits b → unsigned_abs (a *ℤ b) < 2 ^ 62
slim_product a b h k =
    let least : unsigned_abs a ≤ 2 ^ 31 - 1 = omega (arith, h) in
    let left : unsigned_abs a * unsigned_abs b ≤ (2 ^ 31 - 1) * unsigned_abs b = mul-le-mul_right (unsigned_abs b) least in
    rw unsigned_abs-mul (omega (arith, left, k))
