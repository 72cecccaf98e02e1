-- Terms of whole numbers over one denominator, a sum of them step by step, and one fraction of a total.
use Rattle.std.specs.Prelude.{◌≡◌, ◌↔◌, ℕ, suc, ◌+◌, ◌-◌, ◌≤◌, ◌^◌, [], ◌∷◌, ℤ, pos, ◌<ℤ◌, ◌+ℤ◌, ◌-ℤ◌, ◌*ℤ◌, unsigned_abs, Option, Some, None, IfSome, Result, Ok, Err, OkIff}
use Rattle.std.specs.Result.{IsOk}
use Rattle.std.proofs.Common.{refl, inr, sym, ap, subst, ◌∙◌, arith}
use Rattle.std.proofs.lemmas.Int.{ints}
use Rattle.std.proofs.lemmas.Result.{OkIff-at_ok}
use mathlib.Core.Path.{subst₂}
use Rattle.frac128.specs.Rational.{ℚ, den, reduced, int, ◌+ℚ◌, ◌*ℚ◌, ◌/ℚ◌, ◌<ℚ◌, neg_ℚ}
use Rattle.frac128.specs.IntegerRing.{ring_ℤ, reads_ℤ}
use Rattle.frac128.specs.Lowest.{reduced_self, reduced-cross, reduced-same, reduced-+ℚ, reduced-<ℚ}
use Rattle.frac128.specs.RationalRing.{int_is, ring, reads_ℚ, *ℚ_comm}
use Rattle.frac128.specs.Range.{IsNarrow, Fits, SumFits}
use Rattle.frac128.specs.LowestTerms.{quotient_of}
use Rattle.frac128.proofs.Terms.{denominator_is, same_quotient, quotient-*ℚ, quotient-/ℚ, quotient-neg_ℚ}
use Rattle.frac128.proofs.SumTerms.{fits_of_narrow}
use Rattle.checked_sum.specs.Steps.{StepFits, AllFit, partial}
use Rattle.checked_sum.proofs.StepLaws.{partial_next, fits_next}
use Rattle.whole_sums.specs.Wholes.{IsShort, HasMargin, IsDenominator, IsWholeTerm}
use Rattle.whole_sums.proofs.RoomLemmas.{short_product, short_narrow, sum_fits_by, den_divides}

-- ---- numbers over a denominator

pub zero_over : (d : ℤ) → pos 0 <ℤ d → quotient_of (pos 0) d ≡ int (pos 0)
zero_over d h = same_quotient (pos 0) d (pos 0) (pos 1) h (omega (arith, ints)) (ring_ℤ (d ∷ []) (search reads_ℤ) (search reads_ℤ) tt) ∙ sym (int_is (pos 0))

pub nothing_over : (n d : ℤ) → pos 0 <ℤ d → n ≡ pos 0 → quotient_of n d ≡ int (pos 0)
nothing_over n d h none = ap (λ m. quotient_of m d) none ∙ zero_over d h

-- a fraction over a multiple of its denominator
pub over_scale : (x : ℚ) (n d scale : ℤ) → pos 0 <ℤ d → scale *ℤ pos (den x) ≡ d → n ≡ x.num *ℤ scale → x ≡ quotient_of n d
over_scale x n d scale p is n_is =
    sym (reduced_self x)
    ∙ sym (ap (λ t. reduced t (unsigned_abs d - 1)) n_is ∙ reduced-same (x.num *ℤ scale) x.num (unsigned_abs d - 1) x.below (turned x.num scale (pos (den x)) ∙ ap (λ t. x.num *ℤ t) (is ∙ sym (denominator_is d p))))
  where
    turned : (a s e : ℤ) → a *ℤ s *ℤ e ≡ a *ℤ (s *ℤ e)
    turned a s e = ring_ℤ (a ∷ s ∷ e ∷ []) (search reads_ℤ) (search reads_ℤ) tt

crossed : (a b c d : ℤ) → pos 0 <ℤ b → pos 0 <ℤ d → (a *ℤ d) <ℤ (c *ℤ b) ↔ (quotient_of a b <ℚ quotient_of c d)
crossed a b c d p q = subst₂ (λ x y. (a *ℤ x) <ℤ (c *ℤ y) ↔ (quotient_of a b <ℚ quotient_of c d)) (denominator_is d q) (denominator_is b p) (reduced-<ℚ a c (unsigned_abs b - 1) (unsigned_abs d - 1))

one : (a : ℤ) → a *ℤ pos 1 ≡ a
one a = ring_ℤ (a ∷ []) (search reads_ℤ) (search reads_ℤ) tt

none : (d : ℤ) → pos 0 *ℤ d ≡ pos 0
none d = ring_ℤ (d ∷ []) (search reads_ℤ) (search reads_ℤ) tt

pub positive_over : (n d : ℤ) → pos 0 <ℤ d → pos 0 <ℤ n → int (pos 0) <ℚ quotient_of n d
positive_over n d p h =
    subst (λ x. x <ℚ quotient_of n d) (sym (int_is (pos 0))) ((crossed (pos 0) (pos 1) n d (omega (arith, ints)) p).0 (subst₂ (λ x y. x <ℤ y) (sym (none d)) (sym (one n)) h))

pub negative_over : (n d : ℤ) → pos 0 <ℤ d → n <ℤ pos 0 → quotient_of n d <ℚ int (pos 0)
negative_over n d p h =
    subst (λ x. quotient_of n d <ℚ x) (sym (int_is (pos 0))) ((crossed n d (pos 0) (pos 1) p (omega (arith, ints))).0 (subst₂ (λ x y. x <ℤ y) (sym (one n)) (sym (none d)) h))

-- ---- terms

pub product_is : (f n d : ℤ) → pos 0 <ℤ d → quotient_of f d *ℚ int n ≡ quotient_of (f *ℤ n) d
product_is f n d h =
    let once : d *ℤ pos 1 ≡ d = one d in
    let positive : pos 0 <ℤ (d *ℤ pos 1) = subst (λ k. pos 0 <ℤ k) (sym once) h in
    ap (λ t. quotient_of f d *ℚ t) (int_is n) ∙ quotient-*ℚ f d n (pos 1) h (omega (arith, ints)) positive ∙ ap (quotient_of (f *ℤ n)) once

pub term_of_factor : (a x : ℚ) (f n d : ℤ) → pos 0 <ℤ d → IsShort f → IsShort n → a ≡ quotient_of f d → x ≡ int n → IsWholeTerm d a x f n
term_of_factor a x f n d h f_short n_short a_is x_is = record { factor_short = f_short; number_short = n_short; product = (λ i. a_is i *ℚ x_is i) ∙ product_is f n d h }

pub term_of_number : (a x : ℚ) (f n d : ℤ) → pos 0 <ℤ d → IsShort f → IsShort n → a ≡ int n → x ≡ quotient_of f d → IsWholeTerm d a x f n
term_of_number a x f n d h f_short n_short a_is x_is = record { factor_short = f_short; number_short = n_short; product = *ℚ_comm a x ∙ (λ i. x_is i *ℚ a_is i) ∙ product_is f n d h }

-- a term that makes no step
pub term_of_nothing : (a x : ℚ) (d : ℤ) → pos 0 <ℤ d → x ≡ int (pos 0) → IsWholeTerm d a x (pos 0) (pos 0)
term_of_nothing a x d h none = record {
  factor_short = omega arith;
  number_short = omega arith;
  product = ap (λ t. a *ℚ t) none ∙ ring (a ∷ []) (search reads_ℚ) tt ∙ sym (zero_over d h);
}

-- a term whose factor is 0
pub no_term : (a x : ℚ) (d : ℤ) → pos 0 <ℤ d → a ≡ int (pos 0) → IsWholeTerm d a x (pos 0) (pos 0)
no_term a x d h is = record {
  factor_short = omega arith;
  number_short = omega arith;
  product = ap (λ t. t *ℚ x) is ∙ ring (x ∷ []) (search reads_ℚ) tt ∙ sym (zero_over d h);
}

-- what a weight takes away
pub taken_over : (x : ℚ) (w f n d : ℤ) → pos 0 <ℤ d → IsShort f → IsShort n → f ≡ pos 0 -ℤ w → x ≡ int n → IsWholeTerm d (neg_ℚ (quotient_of w d)) x f n
taken_over x w f n d h f_short n_short f_is x_is = term_of_factor (neg_ℚ (quotient_of w d)) x f n d h f_short n_short (sym (quotient-neg_ℚ w d) ∙ ap (λ m. quotient_of m d) (sym f_is)) x_is

pub none_taken : (x : ℚ) (w d : ℤ) → pos 0 <ℤ d → w ≡ pos 0 → IsWholeTerm d (neg_ℚ (quotient_of w d)) x (pos 0) (pos 0)
none_taken x w d h w_is = no_term (neg_ℚ (quotient_of w d)) x d h (ap neg_ℚ (nothing_over w d h w_is) ∙ ring [] (search reads_ℚ) tt)

-- ---- sums over one denominator

-- the sum of two numbers
pub sum_is : (a b d : ℤ) → quotient_of a d +ℚ quotient_of b d ≡ quotient_of (a +ℤ b) d
sum_is a b d =
    reduced-+ℚ a b (unsigned_abs d - 1) (unsigned_abs d - 1)
    ∙ reduced-same _ _ _ _ (ring_ℤ (a ∷ b ∷ pos (suc (unsigned_abs d - 1)) ∷ []) (search reads_ℤ depth 9) (search reads_ℤ depth 9) tt)

pub start_is : (s d : ℤ) → pos 0 <ℤ d → quotient_of (s *ℤ d) d ≡ int s
start_is s d h = same_quotient (s *ℤ d) d s (pos 1) h (omega (arith, ints)) (ring_ℤ (s ∷ d ∷ []) (search reads_ℤ) (search reads_ℤ) tt) ∙ sym (int_is s)

-- it has room where the numbers are narrow
sum_room : (a b d : ℤ) → pos 0 <ℤ d → IsShort d → IsNarrow a → IsNarrow b → IsNarrow (a +ℤ b) → SumFits (quotient_of a d) (quotient_of b d)
sum_room a b d h d_short a_narrow b_narrow total_narrow =
    let e = unsigned_abs d - 1 in
    sum_fits_by (reduced a e) (reduced b e) (suc e) (omega arith) (den_divides a e) (den_divides b e) a b (reduced-cross a e) (reduced-cross b e) a_narrow b_narrow total_narrow
    (omega (arith, ints))

-- one more product
module _ (a x : ℚ) (d total : ℤ) (is : IsDenominator d) (room : HasMargin total) (f n : ℤ) (term : IsWholeTerm d a x f n) (next : ℤ) (next_is : next ≡ total +ℤ f *ℤ n) (next_room : HasMargin next) where
  small : unsigned_abs (f *ℤ n) ≤ 2 ^ 124
  small = short_product f n term.factor_short term.number_short

  pub step_fits : StepFits (quotient_of total d) a x
  step_fits = inr (inr (record {
    product = subst Fits (sym term.product) (fits_of_narrow (f *ℤ n) d is.positive (omega (arith, small)) (short_narrow d is.short));
    sum = subst (SumFits (quotient_of total d)) (sym term.product) (sum_room total (f *ℤ n) d is.positive is.short (omega (arith, room)) (omega (arith, small)) (subst IsNarrow next_is (omega (arith, next_room))));
  }))

  pub step_value : quotient_of next d ≡ quotient_of total d +ℚ a *ℚ x
  step_value = ap (λ t. quotient_of t d) next_is ∙ sym (sum_is total (f *ℤ n) d) ∙ ap (λ t. quotient_of total d +ℚ t) (sym term.product)

module _ (start : ℚ) (a x : ℕ → ℚ) (k : ℕ) (d total : ℤ) (is : IsDenominator d) (room : HasMargin total) (f n : ℤ) (term : IsWholeTerm d (a k) (x k) f n) (next : ℤ) (next_is : next ≡ total +ℤ f *ℤ n) (next_room : HasMargin next)
    (total_is : quotient_of total d ≡ partial start a x k) where
  pub total_more : quotient_of next d ≡ partial start a x (k + 1)
  total_more = partial_next start a x k (quotient_of total d) total_is (quotient_of next d) (step_value (a k) (x k) d total is room f n term next next_is next_room)

  pub fits_more_over : AllFit start a x k → AllFit start a x (k + 1)
  fits_more_over fits = fits_next start a x k (quotient_of total d) total_is fits (step_fits (a k) (x k) d total is room f n term next next_is next_room)

-- ---- one fraction

division_is : (n d : ℤ) → pos 0 <ℤ d → int n /ℚ int d ≡ quotient_of n d
division_is n d h = sym (quotient-/ℚ n d n d (λ e. omega (arith, ints)) h refl)

division_fits : (n d : ℤ) → pos 0 <ℤ d → IsNarrow n → IsShort d → Fits (int n /ℚ int d)
division_fits n d h n_narrow d_short = subst Fits (sym (division_is n d h)) (fits_of_narrow n d h n_narrow (short_narrow d d_short))

ok_at : {A E : Type 0} {P : Type 0} (v : A) (r : Result A E) → OkIff r P v → P → IsOk r
ok_at v (Ok x) h p = refl
ok_at v (Err e) h p = absurd (h p)

-- a number and a denominator that were read as n' and d'
module _ {E : Type 0} (n d n' d' : ℤ) (n_is : n' ≡ n) (d_is : d' ≡ d) (h : pos 0 <ℤ d) (r : Result ℚ E) (made : OkIff r (Fits (int n' /ℚ int d')) (int n' /ℚ int d')) where
  division_read : int n' /ℚ int d' ≡ int n /ℚ int d
  division_read = λ j. int (n_is j) /ℚ int (d_is j)

  pub quotient_made : IsNarrow n → IsShort d → IsOk r
  quotient_made n_narrow d_short = ok_at (int n' /ℚ int d') r made (subst Fits (sym division_read) (division_fits n d h n_narrow d_short))

  pub fraction_made : IsShort n → IsShort d → IsOk r
  fraction_made n_short d_short = quotient_made (short_narrow n n_short) d_short

  pub fraction_value : (x : ℚ) → r ≡ Ok x → x ≡ quotient_of n d
  fraction_value x e = (OkIff-at_ok r (Fits (int n' /ℚ int d')) (int n' /ℚ int d') x made e).1 ∙ division_read ∙ division_is n d h

-- ---- options

pub both : {X : Type 0} (P Q : X → Type 0) (r : Option X) → IfSome r P → IfSome r Q → IfSome r (λ x. P x × Q x)
both P Q (Some x) p q = (p, q)
both P Q None p q = tt
