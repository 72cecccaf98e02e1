-- Sums of short numbers over one denominator, and lists of totals that are moved.
use Rattle.std.specs.Prelude.{◌≡◌, ℕ, zero, suc, ◌+◌, ◌*◌, ◌^◌, ◌<◌, ◌≤◌, ℤ, pos, ◌+ℤ◌, ◌*ℤ◌, unsigned_abs, List, [], ◌∷◌, length, map, get_or, Option, Some, None, IsSome, IfSome}
use Rattle.std.proofs.Common.{refl, sym, ap, subst, ◌∙◌, arith}
use Rattle.std.proofs.lemmas.Bool.{false≢true}
use Rattle.std.proofs.lemmas.Int.{ints}
use Rattle.frac128.specs.Rational.{ℚ, int, ◌+ℚ◌, ◌*ℚ◌}
use Rattle.frac128.specs.IntegerRing.{ring_ℤ, reads_ℤ}
use Rattle.frac128.specs.LowestTerms.{quotient_of}
use Rattle.checked_sum.specs.Steps.{AllFit, partial}
use Rattle.checked_sum.proofs.StepLaws.{partial_none}
use Rattle.whole_sums.specs.Wholes.{IsShort, HasMargin, IsDenominator, IsWholeTerm}
use Rattle.whole_sums.proofs.SumLemmas.{product_is, total_more, fits_more_over}
use Rattle.kept_totals.specs.Short.{IsShortFraction, IsTotalWithin, ShortSumLaw}

-- ---- short terms

whole_term : (d : ℤ) (a x : ℚ) (h : IsShortFraction d (a *ℚ x)) → IsWholeTerm d a x h.number (pos 1)
whole_term d a x h = record {
  factor_short = h.short;
  number_short = omega arith;
  product = h.is ∙ ap (λ t. quotient_of t d) (sym (once h.number));
}
  where
    once : (n : ℤ) → n *ℤ pos 1 ≡ n
    once n = ring_ℤ (n ∷ []) (search reads_ℤ) (search reads_ℤ) tt

-- one more
module _ (d : ℤ) (is : IsDenominator d) (start : ℚ) (a x : ℕ → ℚ) (m n : ℕ) (few : m + n < 2 ^ 64) (here : IsShortFraction d (a n *ℚ x n)) (fits : AllFit start a x n) (before : IsTotalWithin d (m + n) (partial start a x n)) where
  abbrev next : ℤ
  next = before.number +ℤ here.number *ℤ pos 1

  small : unsigned_abs next ≤ (m + suc n) * 2 ^ 62
  small = let p = before.within in let q = here.short in omega (arith, ints, p, q)

  room : HasMargin before.number
  room = let p = before.within in omega (arith, p, few)

  next_room : HasMargin next
  next_room = let p = small in omega (arith, p, few)

  one : suc n ≡ n + 1
  one = omega arith

  pub fits-one : AllFit start a x (suc n)
  fits-one = subst (AllFit start a x) (sym one) (fits_more_over start a x n d before.number is room here.number (pos 1) (whole_term d (a n) (x n) here) next refl next_room (sym before.is) fits)

  pub within-one : IsTotalWithin d (m + suc n) (partial start a x (suc n))
  within-one =
      record {
        number = next;
        within = small;
        is = ap (partial start a x) one ∙ sym (total_more start a x n d before.number is room here.number (pos 1) (whole_term d (a n) (x n) here) next refl next_room (sym before.is));
      }

pub short_sum : ShortSumLaw
short_sum d is start a x m zero from short few =
    let e : m ≡ m + 0 = omega arith in
    ((λ k below. absurd (omega arith)), subst (λ (n : ℕ). IsTotalWithin d n (partial start a x 0)) e (subst (IsTotalWithin d m) (partial_none start a x) from))
short_sum d is start a x m (suc n) from short few =
    let before = short_sum d is start a x m n from (λ k below. short k (omega arith)) (omega (arith, few)) in
    (fits-one d is start a x m n (omega (arith, few)) (short n (omega arith)) before.0 before.1, within-one d is start a x m n (omega (arith, few)) (short n (omega arith)) before.0 before.1)

-- a number over d that was read as one over e, where both are seen as the same 64 bits
pub short_over : (f n d e m : ℤ) → IsDenominator d → d ≡ e → IsShort m → m ≡ f *ℤ n → IsShort m × (quotient_of f d *ℚ int n ≡ quotient_of m e)
short_over f n d e m is same short m_is = (short, product_is f n d is.positive ∙ (λ i. quotient_of (sym m_is i) (same i)))

pub found : (d : ℤ) (v : ℚ) (r : Option ℤ) → IsSome r → IfSome r (λ n. IsShort n × (v ≡ quotient_of n d)) → IsShortFraction d v
found d v (Some n) some is = record { number = n; short = is.0; is = is.1 }
found d v None some is = absurd (false≢true some)

-- ---- lists that are moved

pub moved_list : (xs ys : List ℚ) (by : ℚ) → length ys ≡ length xs → ((k : ℕ) → k < length xs → get_or ys k (int (pos 0)) ≡ get_or xs k (int (pos 0)) +ℚ by) → ys ≡ map (λ v. v +ℚ by) xs
moved_list [] [] by same at = refl
moved_list [] (y ∷ ys) by same at = absurd (omega (arith, same))
moved_list (x ∷ xs) [] by same at = absurd (omega (arith, same))
moved_list (x ∷ xs) (y ∷ ys) by same at = λ i. at 0 (omega arith) i ∷ moved_list xs ys by (omega (arith, same)) (λ k below. at (suc k) (omega (arith, below))) i
