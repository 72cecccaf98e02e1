-- The entries after an exchange over a common denominator, from what is divided and by what.
use Rattle.std.specs.Prelude.{◌≡◌, ◌≢◌, ℕ, zero, suc, ◌-◌, ◌^◌, ◌<◌, ◌≤◌, [], ◌∷◌, ◌<ℤ◌, ℤ, pos, negsuc, ◌+ℤ◌, ◌-ℤ◌, ◌*ℤ◌, unsigned_abs, Bool, true, false}
use Rattle.std.specs.Int.{◌∣◌}
use Rattle.std.proofs.Common.{refl, sym, ap, subst, ◌∙◌, arith}
use Rattle.std.proofs.Math.Nat.{dvd-mul_right}
use Rattle.std.proofs.lemmas.Nat.Gcd.{dvd_trans}
use Rattle.std.proofs.lemmas.Int.{ints, unsigned_abs-mul}
use Rattle.frac128.specs.Rational.{ℚ, den, reduced, int, ◌+ℚ◌, ◌-ℚ◌, ◌*ℚ◌, ◌/ℚ◌, neg_ℚ, inverse}
use Rattle.frac128.specs.IntegerRing.{ring_ℤ, reads_ℤ}
use Rattle.frac128.specs.Lowest.{cancel_ℤ, reduced-cross, reduced-same, reduced-+ℚ}
use Rattle.frac128.specs.RationalRing.{int_is, ring, reads_ℚ, one-*ℚ}
use Rattle.frac128.specs.RationalOrder.{product_positive}
use Rattle.frac128.proofs.Rounding.{*ℚ-inverse}
use Rattle.frac128.specs.Range.{IsNarrow, Fits, SumFits}
use mathlib.Core.Path.{subst₃}
use Rattle.frac128.specs.LowestTerms.{quotient_of}
use Rattle.frac128.proofs.Terms.{denominator_is, same_quotient, quotient-*ℚ, quotient-neg_ℚ}
use Rattle.frac128.proofs.SumTerms.{fits_of_narrow}
use Rattle.whole_sums.proofs.RoomLemmas.{short_product, short_narrow, sum_fits_by, den_divides}
use Rattle.table_entries.specs.Steps.{DifferenceFits, PivotStepFits}
use Rattle.table_entries.specs.WholeSteps.{IsShort, magnitude, by_sign, IsWholeStep}
use Rattle.table_entries.specs.private.Ways.{divided, LeadsOver, IsWay}

-- ---- signs

by_sign-self : (p : ℤ) → by_sign p p ≡ magnitude p
by_sign-self (pos p) = refl
by_sign-self (negsuc p) = refl

by_sign-abs : (p n : ℤ) → unsigned_abs (by_sign p n) ≡ unsigned_abs n
by_sign-abs (pos p) n = refl
by_sign-abs (negsuc p) n = omega (arith, ints)

pub by_sign-short : (p n : ℤ) → IsShort n → IsShort (by_sign p n)
by_sign-short p n h = subst (λ m. m < 2 ^ 62) (sym (by_sign-abs p n)) h

-- the sign goes over from one factor to the other
by_sign-over : (p m n : ℤ) → by_sign p m *ℤ n ≡ m *ℤ by_sign p n
by_sign-over (pos p) m n = refl
by_sign-over (negsuc p) m n = ring_ℤ (m ∷ n ∷ []) (search reads_ℤ) (search reads_ℤ) tt

pub magnitude_positive : (p : ℤ) → p ≢ pos 0 → pos 0 <ℤ magnitude p
magnitude_positive (pos zero) some = absurd (some refl)
magnitude_positive (pos (suc p)) some = omega (arith, ints)
magnitude_positive (negsuc p) some = omega (arith, ints)

by_sign-none : (p n : ℤ) → n ≡ pos 0 → by_sign p n ≡ pos 0
by_sign-none p n none = ap (by_sign p) none ∙ of_none p
  where
    of_none : (p : ℤ) → by_sign p (pos 0) ≡ pos 0
    of_none (pos p) = refl
    of_none (negsuc p) = omega (arith, ints)

-- ---- quotients

one_is : quotient_of (pos 1) (pos 1) ≡ int (pos 1)
one_is = sym (int_is (pos 1))

not_one : int (pos 0) ≢ int (pos 1)
unfolding int
not_one e = let h = ap (λ (z : ℚ). z.num) e in omega (arith, ints)

not_zero : (x y : ℚ) → x *ℚ y ≡ int (pos 1) → x ≢ int (pos 0)
not_zero x y one none = let zero_is : int (pos 0) *ℚ y ≡ int (pos 0) = ring (y ∷ []) (search reads_ℚ) tt in not_one (sym zero_is ∙ ap (λ z. z *ℚ y) (sym none) ∙ one)

inverse_by : (x y : ℚ) → x *ℚ y ≡ int (pos 1) → inverse x ≡ y
inverse_by x y one =
    ring (inverse x ∷ []) (search reads_ℚ) tt ∙ ap (λ z. inverse x *ℚ z) (sym one) ∙ ring (x ∷ y ∷ inverse x ∷ []) (search reads_ℚ) tt
    ∙ ap (λ z. z *ℚ y) (*ℚ-inverse x (not_zero x y one)) ∙ one-*ℚ y

module _ (D p : ℤ) (D_positive : pos 0 <ℤ D) (some : p ≢ pos 0) where
  abbrev E : ℤ
  E = magnitude p

  E_positive : pos 0 <ℤ E
  E_positive = magnitude_positive p some

  DE_positive : pos 0 <ℤ (D *ℤ E)
  DE_positive = product_positive D E D_positive E_positive

  pub inverse_is : inverse (quotient_of p D) ≡ quotient_of (by_sign p D) E
  inverse_is =
      inverse_by (quotient_of p D) (quotient_of (by_sign p D) E)
      (quotient-*ℚ p D (by_sign p D) E D_positive E_positive DE_positive
      ∙ same_quotient (p *ℤ by_sign p D) (D *ℤ E) (pos 1) (pos 1) DE_positive (omega (arith, ints)) crossed ∙ one_is)
    where
      crossed : p *ℤ by_sign p D *ℤ pos 1 ≡ pos 1 *ℤ (D *ℤ E)
      crossed = ap (λ t. t *ℤ pos 1) (sym (by_sign-over p p D) ∙ ap (λ t. t *ℤ D) (by_sign-self p)) ∙ ring_ℤ (D ∷ E ∷ []) (search reads_ℤ) (search reads_ℤ) tt

  pub quotient_is : (n : ℤ) → quotient_of n D /ℚ quotient_of p D ≡ quotient_of (by_sign p n) E
  quotient_is n =
      ap (λ t. quotient_of n D *ℚ t) inverse_is ∙ quotient-*ℚ n D (by_sign p D) E D_positive E_positive DE_positive
      ∙ same_quotient (n *ℤ by_sign p D) (D *ℤ E) (by_sign p n) E DE_positive E_positive
      (ap (λ t. t *ℤ E) (sym (by_sign-over p n D)) ∙ ring_ℤ (by_sign p n ∷ D ∷ E ∷ []) (search reads_ℤ) (search reads_ℤ) tt)

  pub product_is : (m n : ℤ) → quotient_of m D *ℚ (quotient_of n D /ℚ quotient_of p D) ≡ quotient_of (by_sign p m *ℤ n) (D *ℤ E)
  product_is m n =
      ap (λ t. quotient_of m D *ℚ t) (quotient_is n) ∙ quotient-*ℚ m D (by_sign p n) E D_positive E_positive DE_positive
      ∙ ap (λ t. quotient_of t (D *ℤ E)) (sym (by_sign-over p m n))

-- two quotients over the same denominator
difference_is : (a b d : ℤ) → pos 0 <ℤ d → quotient_of a d -ℚ quotient_of b d ≡ quotient_of (a -ℤ b) d
difference_is a b d positive =
    ap (λ t. quotient_of a d +ℚ t) (sym (quotient-neg_ℚ b d)) ∙ reduced-+ℚ a (pos 0 -ℤ b) (unsigned_abs d - 1) (unsigned_abs d - 1)
    ∙ reduced-same _ _ _ _ (ring_ℤ (a ∷ b ∷ pos (suc (unsigned_abs d - 1)) ∷ []) (search reads_ℤ depth 9) (search reads_ℤ depth 9) tt)

-- ---- the steps to a difference have room

module _ (D p : ℤ) (D_positive : pos 0 <ℤ D) (some : p ≢ pos 0) (D_short : IsShort D) (p_short : IsShort p) where
  quotient_fits : (n : ℤ) → IsShort n → Fits (quotient_of n D /ℚ quotient_of p D)
  quotient_fits n h =
      subst Fits (sym (quotient_is D p D_positive some n))
      (fits_of_narrow (by_sign p n) (magnitude p) (magnitude_positive p some) (short_narrow (by_sign p n) (by_sign-short p n h)) (short_narrow p p_short))

  DE_narrow : IsNarrow (D *ℤ magnitude p)
  DE_narrow = let h = short_product D (magnitude p) D_short p_short in omega (arith, h)

  over_is : pos (suc (unsigned_abs (D *ℤ magnitude p) - 1)) ≡ D *ℤ magnitude p
  over_is = denominator_is (D *ℤ magnitude p) (product_positive D (magnitude p) D_positive (magnitude_positive p some))

  -- P is the number of the product
  module _ (e P : ℤ) where
    abbrev b : ℕ
    b = unsigned_abs D - 1

    abbrev Q : ℤ
    Q = pos 0 -ℤ P

    abbrev B' : ℕ
    B' = unsigned_abs (D *ℤ magnitude p) - 1

    over_abs : suc B' ≡ unsigned_abs (D *ℤ magnitude p)
    over_abs = ap unsigned_abs over_is

    D_in : suc b ∣ suc B'
    D_in =
        subst (λ t. suc b ∣ t) (ap (λ t. unsigned_abs (t *ℤ magnitude p)) (denominator_is D D_positive) ∙ sym over_abs)
        (subst (λ t. suc b ∣ t) (sym (unsigned_abs-mul (pos (suc b)) (magnitude p))) (dvd-mul_right (suc b) (unsigned_abs (magnitude p))))

    entry_cross : (reduced e b).num *ℤ pos (suc B') ≡ e *ℤ magnitude p *ℤ pos (den (reduced e b))
    entry_cross =
        ap (λ t. (reduced e b).num *ℤ t) (over_is ∙ ap (λ t. t *ℤ magnitude p) (sym (denominator_is D D_positive)))
        ∙ first (reduced e b).num (pos (suc b)) (magnitude p) ∙ ap (λ t. t *ℤ magnitude p) (reduced-cross e b) ∙ last e (pos (den (reduced e b))) (magnitude p)
      where
        first : (a d m : ℤ) → a *ℤ (d *ℤ m) ≡ a *ℤ d *ℤ m
        first a d m = ring_ℤ (a ∷ d ∷ m ∷ []) (search reads_ℤ) (search reads_ℤ) tt

        last : (a d m : ℤ) → a *ℤ d *ℤ m ≡ a *ℤ m *ℤ d
        last a d m = ring_ℤ (a ∷ d ∷ m ∷ []) (search reads_ℤ) (search reads_ℤ) tt

    sum_fits_over : IsShort e → unsigned_abs P ≤ 2 ^ 124 → SumFits (quotient_of e D) (quotient_of (pos 0 -ℤ P) (D *ℤ magnitude p))
    sum_fits_over e_short P_small =
        sum_fits_by (reduced e b) (reduced Q B') (suc B') (omega arith)
        (dvd_trans (den (reduced e b)) (den_divides e b) D_in) (den_divides Q B') (e *ℤ magnitude p) Q entry_cross (reduced-cross Q B')
        (let h = short_product e (magnitude p) e_short p_short in omega (arith, h))
        (negated P P_small)
        (total (e *ℤ magnitude p) P (short_product e (magnitude p) e_short p_short) P_small)
        (let h = DE_narrow in let k = over_abs in omega (arith, h, k))
      where
        negated : (a : ℤ) → unsigned_abs a ≤ 2 ^ 124 → IsNarrow (pos 0 -ℤ a)
        negated a h = omega (arith, ints)

        total : (a b : ℤ) → unsigned_abs a ≤ 2 ^ 124 → unsigned_abs b ≤ 2 ^ 124 → IsNarrow (a +ℤ (pos 0 -ℤ b))
        total a b h k = omega (arith, ints)

  -- ---- room

  module _ (in_row in_place entry : ℤ) (h : IsShort in_row) (k : IsShort in_place) (l : IsShort entry) where
    abbrev P : ℤ
    P = by_sign p in_place *ℤ in_row

    abbrev over : ℤ
    over = D *ℤ magnitude p

    other_DE : pos 0 <ℤ over
    other_DE = product_positive D (magnitude p) D_positive (magnitude_positive p some)

    P_small : unsigned_abs P ≤ 2 ^ 124
    P_small = short_product (by_sign p in_place) in_row (by_sign-short p in_place k) h

    -- all steps to another entry have room
    pub other_fits : DifferenceFits (quotient_of p D) (quotient_of in_row D) (quotient_of in_place D) (quotient_of entry D)
    other_fits = record {
      quotient = quotient_fits in_row h;
      product = subst Fits (sym (product_is D p D_positive some in_place in_row)) (fits_of_narrow P over other_DE (let w = P_small in omega (arith, w)) DE_narrow);
      difference =
          subst (SumFits (quotient_of entry D)) (quotient-neg_ℚ P over ∙ ap neg_ℚ (sym (product_is D p D_positive some in_place in_row)))
          (sum_fits_over entry P l P_small);
    }

    -- and so have those to any entry
    pub steps_fit : (is_row is_place : Bool) → PivotStepFits is_row is_place (quotient_of p D) (quotient_of in_row D) (quotient_of in_place D) (quotient_of entry D)
    steps_fit true true = tt
    steps_fit true false = quotient_fits in_row h
    steps_fit false true = quotient_fits in_place k
    steps_fit false false = other_fits

-- ---- the four kinds of entry, by the way of their row

-- a positive factor of both sides is left out
without : (n v T u X Y after : ℤ) → pos 0 <ℤ v → n *ℤ v ≡ T *ℤ u → T *ℤ u *ℤ X ≡ Y *ℤ after *ℤ v → n *ℤ X ≡ Y *ℤ after
without n v T u X Y after v_positive number whole =
    cancel_ℤ (n *ℤ X) (Y *ℤ after) (suc (unsigned_abs v - 1)) (omega arith)
    (ap (λ t. n *ℤ X *ℤ t) (denominator_is v v_positive) ∙ turned n X v ∙ ap (λ t. t *ℤ X) number ∙ whole ∙ ap (λ t. Y *ℤ after *ℤ t) (sym (denominator_is v v_positive)))
  where
    turned : (a b c : ℤ) → a *ℤ b *ℤ c ≡ a *ℤ c *ℤ b
    turned a b c = ring_ℤ (a ∷ b ∷ c ∷ []) (search reads_ℤ) (search reads_ℤ) tt

sign_out : (p a b : ℤ) → a *ℤ by_sign p b ≡ by_sign p (a *ℤ b)
sign_out (pos p) a b = refl
sign_out (negsuc p) a b = ring_ℤ (a ∷ b ∷ []) (search reads_ℤ) (search reads_ℤ) tt

-- a ratio stays where both numerators take the sign
pub signed_ratio : (p E M f F : ℤ) → M *ℤ E ≡ f *ℤ F → by_sign p M *ℤ E ≡ by_sign p f *ℤ F
signed_ratio p E M f F h = by_sign-over p M E ∙ sign_out p M E ∙ ap (by_sign p) h ∙ sym (sign_out p f F) ∙ sym (by_sign-over p f F)

module _ (D after p : ℤ) (D_positive : pos 0 <ℤ D) (after_positive : pos 0 <ℤ after) (some : p ≢ pos 0) (D_short : IsShort D) (p_short : IsShort p)
    (x f e : ℤ) (x_short : IsShort x) (f_short : IsShort f) (e_short : IsShort e) (m q v u n : ℤ) (v_positive : pos 0 <ℤ v) (short : IsShort n) where
  abbrev G : ℤ
  G = magnitude p

  G_positive : pos 0 <ℤ G
  G_positive = magnitude_positive p some

  abbrev DG : ℤ
  DG = D *ℤ G

  DG_positive : pos 0 <ℤ DG
  DG_positive = product_positive D G D_positive G_positive

  fits : (is_row is_place : Bool) → PivotStepFits is_row is_place (quotient_of p D) (quotient_of x D) (quotient_of f D) (quotient_of e D)
  fits = steps_fit D p D_positive some D_short p_short x f e x_short f_short e_short

  sign_of : (a : ℤ) → by_sign p (pos 1) *ℤ a ≡ by_sign p a
  sign_of a = by_sign-over p (pos 1) a ∙ ring_ℤ (by_sign p a ∷ []) (search reads_ℤ) (search reads_ℤ) tt

  corner_step : m ≡ by_sign p (pos 1) → u *ℤ G ≡ after *ℤ v → n *ℤ v ≡ m *ℤ D *ℤ u → IsWholeStep true true D after p x f e n
  corner_step sign ratio number = record {
    short = short;
    value =
        same_quotient n after (by_sign p D) G after_positive G_positive
        (without n v (m *ℤ D) u G (by_sign p D) after v_positive number
        (first m D u G ∙ ap (λ t. m *ℤ D *ℤ t) ratio ∙ ap (λ t. t *ℤ D *ℤ (after *ℤ v)) sign ∙ ap (λ t. t *ℤ (after *ℤ v)) (sign_of D) ∙ last (by_sign p D) after v))
        ∙ sym (inverse_is D p D_positive some);
    fits = fits true true;
  }
    where
      first : (m d u e : ℤ) → m *ℤ d *ℤ u *ℤ e ≡ m *ℤ d *ℤ (u *ℤ e)
      first m d u e = ring_ℤ (m ∷ d ∷ u ∷ e ∷ []) (search reads_ℤ) (search reads_ℤ) tt

      last : (a b c : ℤ) → a *ℤ (b *ℤ c) ≡ a *ℤ b *ℤ c
      last a b c = ring_ℤ (a ∷ b ∷ c ∷ []) (search reads_ℤ) (search reads_ℤ) tt

  row_step : m ≡ by_sign p (pos 1) → q ≡ pos 0 → u *ℤ G ≡ after *ℤ v → n *ℤ v ≡ (e *ℤ q -ℤ m *ℤ x) *ℤ u → IsWholeStep true false D after p x f e n
  row_step sign none ratio number = record {
    short = short;
    value =
        same_quotient n after (pos 0 -ℤ by_sign p x) G after_positive G_positive
        (without n v (e *ℤ q -ℤ m *ℤ x) u G (pos 0 -ℤ by_sign p x) after v_positive number
        (ap (λ t. (e *ℤ t -ℤ m *ℤ x) *ℤ u *ℤ G) none ∙ first e m x u G ∙ ap (λ t. (pos 0 -ℤ m *ℤ x) *ℤ t) ratio ∙ ap (λ t. (pos 0 -ℤ t *ℤ x) *ℤ (after *ℤ v)) sign
        ∙ ap (λ t. (pos 0 -ℤ t) *ℤ (after *ℤ v)) (sign_of x) ∙ last (pos 0 -ℤ by_sign p x) after v))
        ∙ quotient-neg_ℚ (by_sign p x) G ∙ ap neg_ℚ (sym (quotient_is D p D_positive some x));
    fits = fits true false;
  }
    where
      first : (e m x u g : ℤ) → (e *ℤ pos 0 -ℤ m *ℤ x) *ℤ u *ℤ g ≡ (pos 0 -ℤ m *ℤ x) *ℤ (u *ℤ g)
      first e m x u g = ring_ℤ (e ∷ m ∷ x ∷ u ∷ g ∷ []) {x = (e *ℤ pos 0 -ℤ m *ℤ x) *ℤ u *ℤ g} {y = (pos 0 -ℤ m *ℤ x) *ℤ (u *ℤ g)} (search reads_ℤ depth 9) (search reads_ℤ depth 9) tt

      last : (a b c : ℤ) → a *ℤ (b *ℤ c) ≡ a *ℤ b *ℤ c
      last a b c = ring_ℤ (a ∷ b ∷ c ∷ []) (search reads_ℤ) (search reads_ℤ) tt

  place_step : m *ℤ G ≡ by_sign p f *ℤ q → u *ℤ (D *ℤ q) ≡ after *ℤ v → n *ℤ v ≡ m *ℤ D *ℤ u → IsWholeStep false true D after p x f e n
  place_step ratio lead number = record {
    short = short;
    value =
        same_quotient n after (by_sign p f) G after_positive G_positive
        (without n v (m *ℤ D) u G (by_sign p f) after v_positive number
        (first m D u G ∙ ap (λ t. t *ℤ D *ℤ u) ratio ∙ second (by_sign p f) q D u ∙ ap (λ t. by_sign p f *ℤ t) lead ∙ last (by_sign p f) after v))
        ∙ sym (quotient_is D p D_positive some f);
    fits = fits false true;
  }
    where
      first : (m d u e : ℤ) → m *ℤ d *ℤ u *ℤ e ≡ m *ℤ e *ℤ d *ℤ u
      first m d u e = ring_ℤ (m ∷ d ∷ u ∷ e ∷ []) (search reads_ℤ) (search reads_ℤ) tt

      second : (s q d u : ℤ) → s *ℤ q *ℤ d *ℤ u ≡ s *ℤ (u *ℤ (d *ℤ q))
      second s q d u = ring_ℤ (s ∷ q ∷ d ∷ u ∷ []) (search reads_ℤ) (search reads_ℤ) tt

      last : (a b c : ℤ) → a *ℤ (b *ℤ c) ≡ a *ℤ b *ℤ c
      last a b c = ring_ℤ (a ∷ b ∷ c ∷ []) (search reads_ℤ) (search reads_ℤ) tt

  other_step : m *ℤ G ≡ by_sign p f *ℤ q → u *ℤ (D *ℤ q) ≡ after *ℤ v → n *ℤ v ≡ (e *ℤ q -ℤ m *ℤ x) *ℤ u → IsWholeStep false false D after p x f e n
  other_step ratio lead number = record {
    short = short;
    value =
        same_quotient n after (e *ℤ G -ℤ by_sign p f *ℤ x) DG after_positive DG_positive
        (without n v (e *ℤ q -ℤ m *ℤ x) u DG (e *ℤ G -ℤ by_sign p f *ℤ x) after v_positive number
        (first e q m x u D G ∙ ap (λ t. (e *ℤ q *ℤ G -ℤ t *ℤ x) *ℤ (u *ℤ D)) ratio ∙ second e q G (by_sign p f) x u D
        ∙ ap (λ t. (e *ℤ G -ℤ by_sign p f *ℤ x) *ℤ t) lead ∙ last (e *ℤ G -ℤ by_sign p f *ℤ x) after v))
        ∙ sym (difference_is (e *ℤ G) (by_sign p f *ℤ x) DG DG_positive)
        ∙ (λ i. entry_over i -ℚ sym (product_is D p D_positive some f x) i);
    fits = fits false false;
  }
    where
      first : (e q m x u d g : ℤ) → (e *ℤ q -ℤ m *ℤ x) *ℤ u *ℤ (d *ℤ g) ≡ (e *ℤ q *ℤ g -ℤ m *ℤ g *ℤ x) *ℤ (u *ℤ d)
      first e q m x u d g = ring_ℤ (e ∷ q ∷ m ∷ x ∷ u ∷ d ∷ g ∷ []) {x = (e *ℤ q -ℤ m *ℤ x) *ℤ u *ℤ (d *ℤ g)} {y = (e *ℤ q *ℤ g -ℤ m *ℤ g *ℤ x) *ℤ (u *ℤ d)} (search reads_ℤ depth 9) (search reads_ℤ depth 9) tt

      second : (e q g s x u d : ℤ) → (e *ℤ q *ℤ g -ℤ s *ℤ q *ℤ x) *ℤ (u *ℤ d) ≡ (e *ℤ g -ℤ s *ℤ x) *ℤ (u *ℤ (d *ℤ q))
      second e q g s x u d = ring_ℤ (e ∷ q ∷ g ∷ s ∷ x ∷ u ∷ d ∷ []) {x = (e *ℤ q *ℤ g -ℤ s *ℤ q *ℤ x) *ℤ (u *ℤ d)} {y = (e *ℤ g -ℤ s *ℤ x) *ℤ (u *ℤ (d *ℤ q))} (search reads_ℤ depth 9) (search reads_ℤ depth 9) tt

      last : (a b c : ℤ) → a *ℤ (b *ℤ c) ≡ a *ℤ b *ℤ c
      last a b c = ring_ℤ (a ∷ b ∷ c ∷ []) (search reads_ℤ) (search reads_ℤ) tt

      entry_over : quotient_of (e *ℤ G) DG ≡ quotient_of e D
      entry_over = same_quotient (e *ℤ G) DG e D DG_positive D_positive (ring_ℤ (e ∷ G ∷ D ∷ []) (search reads_ℤ) (search reads_ℤ) tt)

  by_leads : (is_row is_place : Bool) → LeadsOver is_row D after p f m q v u → n *ℤ v ≡ divided is_place D m q x e *ℤ u → IsWholeStep is_row is_place D after p x f e n
  by_leads true true h number = corner_step h.0 h.1.1 number
  by_leads true false h number = row_step h.0 h.1.0 h.1.1 number
  by_leads false true h number = place_step h.0 h.1 number
  by_leads false false h number = other_step h.0 h.1 number

pub way_step : (D after p : ℤ) → pos 0 <ℤ D → pos 0 <ℤ after → p ≢ pos 0 → IsShort D → IsShort p → (x f e : ℤ) → IsShort x → IsShort f → IsShort e → (m q v u n : ℤ) → IsShort n → (is_row is_place : Bool)
    → IsWay is_row D after p f m q v u → n *ℤ v ≡ divided is_place D m q x e *ℤ u → IsWholeStep is_row is_place D after p x f e n
way_step D after p D_positive after_positive some D_short p_short x f e x_short f_short e_short m q v u n short is_row is_place way number =
    by_leads D after p D_positive after_positive some D_short p_short x f e x_short f_short e_short m q v u n way.positive short is_row is_place way.leads number

-- where the entering place has nothing, and the denominator stays, the number stays
pub left_step : (D p : ℤ) → pos 0 <ℤ D → p ≢ pos 0 → IsShort D → IsShort p → (x f e : ℤ) → IsShort x → IsShort f → IsShort e → f ≡ pos 0 → (is_place : Bool) → (is_place ≡ true → e ≡ f) → IsWholeStep false is_place D D p x f e e
left_step D p D_positive some D_short p_short x f e x_short f_short e_short none is_place same =
    by_leads D D p D_positive D_positive some D_short p_short x f e x_short f_short e_short (pos 0) (pos 1) (pos 1) (pos 1) e (omega (arith, ints)) e_short false is_place
    (nothing (magnitude p) ∙ ap (λ t. t *ℤ pos 1) (sym (by_sign-none p f none)), ones D) (by is_place same)
  where
    nothing : (g : ℤ) → pos 0 *ℤ g ≡ pos 0 *ℤ pos 1
    nothing g = ring_ℤ (g ∷ []) {x = pos 0 *ℤ g} {y = pos 0 *ℤ pos 1} (search reads_ℤ depth 9) (search reads_ℤ depth 9) tt

    ones : (d : ℤ) → pos 1 *ℤ (d *ℤ pos 1) ≡ d *ℤ pos 1
    ones d = ring_ℤ (d ∷ []) (search reads_ℤ) (search reads_ℤ) tt

    zero : (d : ℤ) → pos 0 *ℤ pos 1 ≡ pos 0 *ℤ d *ℤ pos 1
    zero d = ring_ℤ (d ∷ []) {x = pos 0 *ℤ pos 1} {y = pos 0 *ℤ d *ℤ pos 1} (search reads_ℤ depth 9) (search reads_ℤ depth 9) tt

    stays : (e x : ℤ) → e *ℤ pos 1 ≡ (e *ℤ pos 1 -ℤ pos 0 *ℤ x) *ℤ pos 1
    stays e x = ring_ℤ (e ∷ x ∷ []) {x = e *ℤ pos 1} {y = (e *ℤ pos 1 -ℤ pos 0 *ℤ x) *ℤ pos 1} (search reads_ℤ depth 9) (search reads_ℤ depth 9) tt

    by : (b : Bool) → (b ≡ true → e ≡ f) → e *ℤ pos 1 ≡ divided b D (pos 0) (pos 1) x e *ℤ pos 1
    by true h = ap (λ t. t *ℤ pos 1) (h refl ∙ none) ∙ zero D
    by false h = stays e x

-- the same of flags and a number that are read
pub step_at : (r q x y : Bool) (D after p in_row in_place entry n m : ℤ) → r ≡ x → q ≡ y → m ≡ n → IsWholeStep x y D after p in_row in_place entry n → IsWholeStep r q D after p in_row in_place entry m
step_at r q x y D after p in_row in_place entry n m e f g h =
    subst₃ (λ a b c. IsWholeStep a b D after p in_row in_place entry c) (sym e) (sym f) (sym g) h
