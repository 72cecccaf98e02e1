-- What `rational_cmp` answers, and that it is a total order.
use Rattle.std.specs.Prelude.{◌≡◌, pos, ◌*ℤ◌, ◌<ℤ◌}
use Rattle.std.specs.Ordering.{MatchOrdering, eq_by_cmp}
use Rattle.std.specs.Cmp.{IsTotalOrder, IsEquivalence}
use Rattle.std.specs.declared.cmp.Ordering.{Ordering}
use Rattle.std.specs.declared.cmp.Ordering.TheVariants.{Less, Equal, Greater}
use Rattle.std.proofs.Common.{refl, sym, ap, subst, arith}
use Rattle.std.proofs.lemmas.Cmp.{int_ranked, int_cmp_total, eq_by_cmp_equiv}
use Rattle.std.proofs.lemmas.Int.{ints}
use Rattle.frac128.specs.Rational.{ℚ, den, ◌<ℚ◌, rational_cmp}
use Rattle.frac128.specs.Lowest.{same_ℚ}
use Rattle.frac128.specs.RationalOrder.{<ℚ_trans, <ℚ_irrefl}

-- an answer of `rational_cmp`, and what it says
pub rational_ranked : (x y : ℚ) (r : Ordering) → r ≡ rational_cmp x y → MatchOrdering r (x <ℚ y) (x ≡ y) (y <ℚ x)
unfolding rational_cmp
rational_ranked x y r e = by r (int_ranked (x.num *ℤ pos (den y)) (y.num *ℤ pos (den x)) r e)
  where
    by : (r : Ordering) → MatchOrdering r ((x.num *ℤ pos (den y)) <ℤ (y.num *ℤ pos (den x))) (x.num *ℤ pos (den y) ≡ y.num *ℤ pos (den x)) ((y.num *ℤ pos (den x)) <ℤ (x.num *ℤ pos (den y))) → MatchOrdering r (x <ℚ y) (x ≡ y) (y <ℚ x)
    by Less h = record { crossed = h }
    by Equal h = same_ℚ x y h
    by Greater h = record { crossed = h }

pub less_from_cmp : (x y : ℚ) → rational_cmp x y ≡ Less → x <ℚ y
less_from_cmp x y e = rational_ranked x y Less (sym e)

pub same_from_cmp : (x y : ℚ) → rational_cmp x y ≡ Equal → x ≡ y
same_from_cmp x y e = rational_ranked x y Equal (sym e)

pub greater_from_cmp : (x y : ℚ) → rational_cmp x y ≡ Greater → y <ℚ x
greater_from_cmp x y e = rational_ranked x y Greater (sym e)

pub cmp_self : (x : ℚ) → rational_cmp x x ≡ Equal
unfolding rational_cmp
cmp_self x = grind (arith, ints)

pub cmp_from_less : (x y : ℚ) → x <ℚ y → rational_cmp x y ≡ Less
cmp_from_less x y h = by (rational_cmp x y) refl
  where
    by : (r : Ordering) → rational_cmp x y ≡ r → rational_cmp x y ≡ Less
    by Less e = e
    by Equal e = <ℚ_irrefl (subst (λ z. z <ℚ y) (same_from_cmp x y e) h)
    by Greater e = <ℚ_irrefl (<ℚ_trans h (greater_from_cmp x y e))

pub cmp_from_greater : (x y : ℚ) → y <ℚ x → rational_cmp x y ≡ Greater
cmp_from_greater x y h = by (rational_cmp x y) refl
  where
    by : (r : Ordering) → rational_cmp x y ≡ r → rational_cmp x y ≡ Greater
    by Less e = <ℚ_irrefl (<ℚ_trans h (less_from_cmp x y e))
    by Equal e = <ℚ_irrefl (subst (λ z. y <ℚ z) (same_from_cmp x y e) h)
    by Greater e = e

pub rational_cmp_total : IsTotalOrder rational_cmp
unfolding rational_cmp
rational_cmp_total = record {
  antisymm = λ x y. int_cmp_total.antisymm (x.num *ℤ pos (den y)) (y.num *ℤ pos (den x));
  trans = λ x y z p q. cmp_from_less x z (<ℚ_trans (less_from_cmp x y p) (less_from_cmp y z q));
  congr = λ x y z p. ap (λ w. rational_cmp w z) (same_from_cmp x y p);
}

pub rational_eq_laws : IsEquivalence (eq_by_cmp rational_cmp)
rational_eq_laws = eq_by_cmp_equiv rational_cmp_total
