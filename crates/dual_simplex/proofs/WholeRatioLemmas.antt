-- Where the reduced cost and the entry are numbers over one denominator, the ratio is one of these numbers by the other.
use Rattle.std.specs.Prelude.{◌≡◌, ◌≢◌, ℕ, ◌-◌, [], ◌∷◌, ℤ, pos, negsuc, ◌<ℤ◌, ◌-ℤ◌, ◌*ℤ◌, unsigned_abs, true, IsTrue, ◌↔◌, int_lt}
use Rattle.std.proofs.Common.{refl, sym, ap, subst, ◌∙◌, arith}
use Rattle.std.proofs.lemmas.Int.{ints}
use mathlib.Core.Path.{subst₂}
use Rattle.frac128.specs.Rational.{ℚ, int, ◌*ℚ◌, ◌/ℚ◌, neg_ℚ, ◌<ℚ◌}
use Rattle.frac128.specs.Lowest.{reduced-<ℚ}
use Rattle.frac128.specs.RationalRing.{ring, reads_ℚ, one-*ℚ}
use Rattle.frac128.specs.Range.{Fits, IsNarrow}
use Rattle.frac128.specs.LowestTerms.{quotient_of}
use Rattle.frac128.proofs.Terms.{denominator_is, quotient-neg_ℚ}
use Rattle.frac128.proofs.SumTerms.{fits_of_narrow}
use Rattle.table_entries.specs.declared.stand.Stand.{Stand}
use Rattle.table_entries.specs.declared.stand.Stand.TheVariants.{Low, High}
use Rattle.table_entries.specs.Relaxation.{reduced_cost}
use Rattle.table_entries.specs.WholeSteps.{IsShort, magnitude, by_sign}
use Rattle.table_entries.proofs.ListedLemmas.{zero_number}
use Rattle.table_entries.proofs.WholeLemmas.{by_sign-short, magnitude_positive, quotient_is}
use Rattle.basic_solution.specs.Held.{Held, relaxation, table, parts}
use Rattle.basic_solution.specs.RowTotals.{IsCostTotal}
use Rattle.dual_simplex.specs.Answers.{PartFits}
use Rattle.dual_simplex.specs.private.WholeRatios.{IsWholeRatio}

pub own_sign : (n : ℤ) → by_sign n n ≡ magnitude n
own_sign (pos n) = refl
own_sign (negsuc n) = refl

turned_is : (q : ℚ) → neg_ℚ q ≡ int (negsuc 0) *ℚ q
turned_is q = ring (q ∷ []) (search reads_ℚ depth 9) tt

turned_short : (n : ℤ) → IsShort n → IsShort (pos 0 -ℤ n)
turned_short n h = omega (arith, ints, h)

-- a reduced cost and an entry
module _ (s : Held) (row place : ℕ) (d number cost : ℤ) (d_positive : pos 0 <ℤ d) (number_short : IsShort number) (cost_short : IsShort cost)
    (number_is : (table s).entry row place ≡ quotient_of number d) (some : (table s).entry row place ≢ int (pos 0)) (total : IsCostTotal s place d cost) where
  number_some : number ≢ pos 0
  number_some e = some (number_is ∙ (zero_number number d d_positive).0 e)

  abbrev bottom : ℤ
  bottom = magnitude number

  abbrev over : ℤ
  over = by_sign number cost

  abbrev part : ℚ
  part = reduced_cost (relaxation s) (table s) (parts s 0) place /ℚ (table s).entry row place

  part_is : part ≡ quotient_of over bottom
  part_is = (λ i. sym total.value i /ℚ number_is i) ∙ quotient_is d number d_positive number_some cost

  over_short : IsShort over
  over_short = by_sign-short number cost cost_short

  bottom_positive : pos 0 <ℤ bottom
  bottom_positive = magnitude_positive number number_some

  bottom_short : IsShort bottom
  bottom_short = omega (arith, ints, number_short)

  fits : PartFits s row place 0
  fits =
      let over_narrow : IsNarrow over = let h = over_short in omega (arith, h) in
      let bottom_narrow : IsNarrow bottom = let h = bottom_short in omega (arith, h) in
      (total.fits, subst Fits (sym part_is) (fits_of_narrow over bottom bottom_positive over_narrow bottom_narrow))

  pub low_ratio : (side : Stand) → side ≡ Low → (top under : ℤ) → top ≡ over → under ≡ bottom → IsWholeRatio s row side place top under
  low_ratio side is top under top_is under_is =
      subst (λ x. IsWholeRatio s row x place top under) (sym is) (subst₂ (λ t b. IsWholeRatio s row Low place t b) (sym top_is) (sym under_is) (record {
        short = record { top_short = over_short; bottom_short = bottom_short; positive = bottom_positive };
        answer = (fits, sym (ap (λ z. int (pos 1) *ℚ z) part_is ∙ one-*ℚ (quotient_of over bottom)));
      }))

  pub high_ratio : (side : Stand) → side ≡ High → (top under : ℤ) → top ≡ pos 0 -ℤ over → under ≡ bottom → IsWholeRatio s row side place top under
  high_ratio side is top under top_is under_is =
      subst (λ x. IsWholeRatio s row x place top under) (sym is) (subst₂ (λ t b. IsWholeRatio s row High place t b) (sym top_is) (sym under_is) (record {
        short = record { top_short = turned_short over over_short; bottom_short = bottom_short; positive = bottom_positive };
        answer = (fits, quotient-neg_ℚ over bottom ∙ turned_is (quotient_of over bottom) ∙ ap (λ z. int (negsuc 0) *ℚ z) (sym part_is));
      }))

-- ---- the order of two

pub crossed : (a b c d : ℤ) → pos 0 <ℤ b → pos 0 <ℤ d → ((a *ℤ d) <ℤ (c *ℤ b)) ↔ (quotient_of a b <ℚ quotient_of c d)
crossed a b c d b_positive d_positive =
    subst₂ (λ x y. ((a *ℤ x) <ℤ (c *ℤ y)) ↔ (quotient_of a b <ℚ quotient_of c d)) (denominator_is d d_positive) (denominator_is b b_positive) (reduced-<ℚ a c (unsigned_abs b - 1) (unsigned_abs d - 1))

int_lt-decides : (m n : ℤ) → IsTrue (int_lt m n) ↔ (m <ℤ n)
int_lt-decides m n = ((λ e. omega (arith, ints)), (λ h. let e : true ≡ int_lt m n = omega (arith, ints) in sym e))

-- products that were read as l and r
pub crossed_decides : (a b c d l r : ℤ) → pos 0 <ℤ b → pos 0 <ℤ d → l ≡ a *ℤ d → r ≡ c *ℤ b → IsTrue (int_lt l r) ↔ (quotient_of a b <ℚ quotient_of c d)
crossed_decides a b c d l r b_positive d_positive l_is r_is = (
  (λ e. (crossed a b c d b_positive d_positive).0 (subst₂ (λ x y. x <ℤ y) l_is r_is ((int_lt-decides l r).0 e))),
  (λ h. (int_lt-decides l r).1 (subst₂ (λ x y. x <ℤ y) (sym l_is) (sym r_is) ((crossed a b c d b_positive d_positive).1 h))),
)
