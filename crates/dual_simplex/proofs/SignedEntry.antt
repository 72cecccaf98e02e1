-- A whole number has the sign of that number over a denominator.
use Rattle.std.specs.Prelude.{◌≡◌, [], ◌∷◌, ℤ, pos, negsuc, ◌<ℤ◌, ◌*ℤ◌, ◌↔◌}
use Rattle.std.proofs.Common.{sym, ap, subst, ◌∙◌, arith}
use Rattle.std.proofs.lemmas.Int.{ints}
use mathlib.Core.Path.{subst₂}
use Rattle.frac128.specs.Rational.{ℚ, int, ◌*ℚ◌, ◌<ℚ◌}
use Rattle.frac128.specs.IntegerRing.{ring_ℤ, reads_ℤ}
use Rattle.frac128.specs.RationalRing.{int_is, *ℚ_comm}
use Rattle.frac128.specs.LowestTerms.{quotient_of}
use Rattle.table_entries.specs.declared.stand.Stand.{Stand}
use Rattle.table_entries.specs.declared.stand.Stand.TheVariants.{Low, High, Free}
use Rattle.table_entries.specs.States.{MayEnter}
use Rattle.table_entries.proofs.ListedLemmas.{zero_number}
use Rattle.whole_sums.proofs.SumLemmas.{product_is}
use Rattle.dual_simplex.proofs.WholeRatioLemmas.{crossed}

times : (s n d : ℤ) → pos 0 <ℤ d → int s *ℚ quotient_of n d ≡ quotient_of (n *ℤ s) d
times s n d h = *ℚ_comm (int s) (quotient_of n d) ∙ product_is n s d h

turned : (s t n d : ℤ) → pos 0 <ℤ d → int s *ℚ (int t *ℚ quotient_of n d) ≡ quotient_of ((n *ℤ t) *ℤ s) d
turned s t n d h = ap (λ x. int s *ℚ x) (times t n d h) ∙ times s (n *ℤ t) d h

none_times : (d : ℤ) → pos 0 *ℤ d ≡ pos 0
none_times d = ring_ℤ (d ∷ []) (search reads_ℤ) (search reads_ℤ) tt

once : (n : ℤ) → n *ℤ pos 1 ≡ n
once n = ring_ℤ (n ∷ []) (search reads_ℤ) (search reads_ℤ) tt

above_none : (n d : ℤ) → pos 0 <ℤ d → (pos 0 <ℤ n) ↔ (int (pos 0) <ℚ quotient_of n d)
above_none n d h =
    subst (λ z. (pos 0 <ℤ n) ↔ (z <ℚ quotient_of n d)) (sym (int_is (pos 0)))
    (subst₂ (λ x y. (x <ℤ y) ↔ (quotient_of (pos 0) (pos 1) <ℚ quotient_of n d)) (none_times d) (once n) (crossed (pos 0) (pos 1) n d (omega (arith, ints)) h))

one_positive : pos 0 <ℤ pos 1
one_positive = omega (arith, ints)

-- the product of two whole numbers and n, over the denominator or not, has one sign
same_sign : (s t n d : ℤ) → pos 0 <ℤ d → (int (pos 0) <ℚ int s *ℚ (int t *ℚ int n)) ↔ (int (pos 0) <ℚ int s *ℚ (int t *ℚ quotient_of n d))
same_sign s t n d h =
    let whole : int s *ℚ (int t *ℚ int n) ≡ quotient_of ((n *ℤ t) *ℤ s) (pos 1) = ap (λ x. int s *ℚ (int t *ℚ x)) (int_is n) ∙ turned s t n (pos 1) one_positive in
    let over : int s *ℚ (int t *ℚ quotient_of n d) ≡ quotient_of ((n *ℤ t) *ℤ s) d = turned s t n d h in
    let left = above_none ((n *ℤ t) *ℤ s) (pos 1) one_positive in
    let right = above_none ((n *ℤ t) *ℤ s) d h in (
      (λ p. subst (λ x. int (pos 0) <ℚ x) (sym over) (right.0 (left.1 (subst (λ x. int (pos 0) <ℚ x) whole p)))),
      (λ p. subst (λ x. int (pos 0) <ℚ x) (sym whole) (left.0 (right.1 (subst (λ x. int (pos 0) <ℚ x) over p)))),
    )

whole_number : (n : ℤ) → (n ≡ pos 0) ↔ (int n ≡ int (pos 0))
unfolding int
whole_number n = ((λ e. ap int e), (λ e. ap (λ (x : ℚ). x.num) e))

pub enters_alike : (n d : ℤ) → pos 0 <ℤ d → (side stand : Stand) → MayEnter side stand (int n) ↔ MayEnter side stand (quotient_of n d)
enters_alike n d h Low Low = same_sign (pos 1) (pos 1) n d h
enters_alike n d h High Low = same_sign (negsuc 0) (pos 1) n d h
enters_alike n d h Free Low = same_sign (pos 0) (pos 1) n d h
enters_alike n d h Low High = same_sign (pos 1) (negsuc 0) n d h
enters_alike n d h High High = same_sign (negsuc 0) (negsuc 0) n d h
enters_alike n d h Free High = same_sign (pos 0) (negsuc 0) n d h
enters_alike n d h side Free = (
  (λ some e. some ((whole_number n).0 ((zero_number n d h).1 e))),
  (λ some e. some ((zero_number n d h).0 ((whole_number n).1 e))),
)
