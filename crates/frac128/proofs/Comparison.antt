-- What a test by `rational_cmp` or `rational_le` decides.
use Rattle.std.specs.Prelude.{◌≡◌, ℕ, suc, [], ◌∷◌, ℤ, pos, ◌+ℤ◌, ◌*ℤ◌, neg_ℤ, ◌<ℤ◌, true, false, int_le}
use Rattle.std.specs.Ordering.{MatchOrdering, int_cmp, is_eq, eq_by_cmp, is_lt, is_ge, is_le}
use Rattle.std.specs.declared.cmp.Ordering.{Ordering}
use Rattle.std.specs.declared.cmp.Ordering.TheVariants.{Less, Equal, Greater}
use Rattle.std.specs.Bool.{Decides}
use Rattle.std.proofs.Common.{refl, sym, ap, ap₂, subst, ◌∙◌, arith, true≢false}
use Rattle.std.proofs.lemmas.Cmp.{int_ranked}
use Rattle.std.proofs.lemmas.Int.{ints}
use Rattle.frac128.specs.Rational.{ℚ, den, ◌≤ℚ◌, ◌<ℚ◌, rational_cmp, rational_le}
use Rattle.frac128.specs.IntegerRing.{ring_ℤ, reads_ℤ}
use Rattle.frac128.specs.Lowest.{linear_ℤ, same_ℚ}
use Rattle.frac128.specs.RationalOrder.{product_positive, ≤ℚ_of_<ℚ, ≤ℚ_of_≡, ≤ℚ_refl, not_both_ℚ}
use Rattle.frac128.specs.ComparisonLaws.{rational_ranked, less_from_cmp, same_from_cmp, greater_from_cmp, cmp_self, cmp_from_less, cmp_from_greater}

-- over one denominator the numerators decide
pub cmp-same_denominator : (x y : ℚ) → den x ≡ den y → int_cmp x.num y.num ≡ rational_cmp x y
cmp-same_denominator x y same = by (int_cmp x.num y.num) refl
  where
    crossed : (m n : ℤ) (b : ℕ) → m <ℤ n → (m *ℤ pos (suc b)) <ℤ (n *ℤ pos (suc b))
    crossed m n b h =
        let some = product_positive (n +ℤ neg_ℤ m) (pos (suc b)) (omega (arith, linear_ℤ)) (omega (arith, ints)) in
        let split : (n +ℤ neg_ℤ m) *ℤ pos (suc b) ≡ n *ℤ pos (suc b) +ℤ neg_ℤ (m *ℤ pos (suc b)) = ring_ℤ (m ∷ n ∷ pos (suc b) ∷ []) (search reads_ℤ depth 9) (search reads_ℤ depth 9) tt in
        omega (arith, linear_ℤ)

    less : (v w : ℚ) → den v ≡ den w → v.num <ℤ w.num → v <ℚ w
    less v w e h = record { crossed = subst (λ d. (v.num *ℤ pos d) <ℤ (w.num *ℤ pos (den v))) e (crossed v.num w.num v.below h) }

    by : (r : Ordering) → int_cmp x.num y.num ≡ r → r ≡ rational_cmp x y
    by Less e = sym (cmp_from_less x y (less x y same (int_ranked x.num y.num Less (sym e))))
    by Equal e = sym (ap (rational_cmp x) (sym (same_ℚ x y (ap₂ (λ n d. n *ℤ pos d) (int_ranked x.num y.num Equal (sym e)) (sym same)))) ∙ cmp_self x)
    by Greater e = sym (cmp_from_greater x y (less y x (sym same) (int_ranked x.num y.num Greater (sym e))))

-- `==` by `rational_cmp` decides equality
pub eq_by_cmp-decides : (x y : ℚ) → Decides (eq_by_cmp rational_cmp x y) (x ≡ y)
eq_by_cmp-decides x y = (by (rational_cmp x y) refl, (λ e. ap is_eq (ap (rational_cmp x) (sym e) ∙ cmp_self x)))
  where
    by : (r : Ordering) → rational_cmp x y ≡ r → is_eq r ≡ true → x ≡ y
    by Less e h = absurd (elim_false h)
      where
        elim_false : false ≡ true → ⊥
        elim_false h = cc
    by Equal e h = same_from_cmp x y e
    by Greater e h = absurd (elim_false h)
      where
        elim_false : false ≡ true → ⊥
        elim_false h = cc

-- the test of an order decides it
pub rational_le-decides : (x y : ℚ) → Decides (rational_le x y) (x ≤ℚ y)
unfolding rational_le
rational_le-decides x y = ((λ e. record { crossed = omega (arith, ints) }), (λ h. let k = h.crossed in let e : true ≡ int_le (x.num *ℤ pos (den y)) (y.num *ℤ pos (den x)) = omega (arith, ints) in sym e))

-- for `grind`, at a comparison in the code: it splits on the answer. The first part says nothing: it shows `grind` the call to match
pub compared : (x y : ℚ) → (rational_cmp x y ≡ rational_cmp x y) × MatchOrdering (rational_cmp x y) (x <ℚ y) (x ≡ y) (y <ℚ x)
compared x y = (refl, rational_ranked x y (rational_cmp x y) refl)

pub ruleset comparisons = (compared, ≤ℚ_of_<ℚ, ≤ℚ_of_≡, ≤ℚ_refl)

-- what a test in the code decides
pub is_lt-decides : (x y : ℚ) → Decides (is_lt (rational_cmp x y)) (x <ℚ y)
is_lt-decides x y = (by (rational_cmp x y) refl, (λ h. ap is_lt (cmp_from_less x y h)))
  where
    by : (r : Ordering) → rational_cmp x y ≡ r → is_lt r ≡ true → x <ℚ y
    by Less e h = less_from_cmp x y e
    by Equal e h = absurd (true≢false (sym h))
    by Greater e h = absurd (true≢false (sym h))

pub is_ge-decides : (x y : ℚ) → Decides (is_ge (rational_cmp x y)) (y ≤ℚ x)
is_ge-decides x y = (by (rational_cmp x y) refl, back (rational_cmp x y) refl)
  where
    by : (r : Ordering) → rational_cmp x y ≡ r → is_ge r ≡ true → y ≤ℚ x
    by Less e h = absurd (true≢false (sym h))
    by Equal e h = ≤ℚ_of_≡ (sym (same_from_cmp x y e))
    by Greater e h = ≤ℚ_of_<ℚ (greater_from_cmp x y e)

    back : (r : Ordering) → rational_cmp x y ≡ r → y ≤ℚ x → is_ge r ≡ true
    back Less e h = not_both_ℚ h (less_from_cmp x y e)
    back Equal e h = refl
    back Greater e h = refl

pub is_le-decides : (x y : ℚ) → Decides (is_le (rational_cmp x y)) (x ≤ℚ y)
is_le-decides x y = (by (rational_cmp x y) refl, back (rational_cmp x y) refl)
  where
    by : (r : Ordering) → rational_cmp x y ≡ r → is_le r ≡ true → x ≤ℚ y
    by Less e h = ≤ℚ_of_<ℚ (less_from_cmp x y e)
    by Equal e h = ≤ℚ_of_≡ (same_from_cmp x y e)
    by Greater e h = absurd (true≢false (sym h))

    back : (r : Ordering) → rational_cmp x y ≡ r → x ≤ℚ y → is_le r ≡ true
    back Less e h = refl
    back Equal e h = refl
    back Greater e h = not_both_ℚ h (greater_from_cmp x y e)
