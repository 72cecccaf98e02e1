-- The laws of sums below a bound.
use Rattle.std.specs.Prelude.{◌≡◌, ℕ, zero, suc, ◌<◌, [], ◌∷◌, pos, if◌then◌else◌, ◌==◌, Bool, true, false}
use Rattle.std.proofs.Common.{ap₂, refl, sym, ap, subst, ◌∙◌, arith, ⊎_elim}
use Rattle.std.proofs.lemmas.Bool.{cases_eq}
use Rattle.std.proofs.lemmas.Bool.Decides.{Decides-eqb}
use Rattle.frac128.specs.Rational.{ℚ, int, ◌+ℚ◌}
use Rattle.frac128.specs.RationalRing.{ring, reads_ℚ, zero-+ℚ}
use Rattle.frac128.proofs.Division.{ring_from}
use Rattle.frac128.specs.Sums.{sum_below}
use Rattle.checked_sum.proofs.SumLaws.{sum_below-same}

-- ---- choices by a test of numbers

pub if_same : {A : Type 0} (k : ℕ) (a b : A) → (if k == k then a else b) ≡ a
if_same k a b = ap (λ t. if t then a else b) ((Decides-eqb k k).1 refl)

pub if_other : {A : Type 0} (k s : ℕ) (a b : A) → ¬ (k ≡ s) → (if k == s then a else b) ≡ b
if_other {A} k s a b n = by (k == s) refl
  where
    by : (t : Bool) → (k == s) ≡ t → (if t then a else b) ≡ b
    by true e = absurd (n ((Decides-eqb k s).0 e))
    by false e = refl

-- ---- sums

pub sum_below-zero : (n : ℕ) (f : ℕ → ℚ) → ((k : ℕ) → k < n → f k ≡ int (pos 0)) → sum_below n f ≡ int (pos 0)
sum_below-zero zero f h = refl
sum_below-zero (suc n) f h = ap₂ ◌+ℚ◌ (sum_below-zero n f (λ k p. h k (omega arith))) (h n (omega arith)) ∙ zero-+ℚ (int (pos 0))

-- summands that differ at s alone
pub sum_below-changed : (n s : ℕ) (f g : ℕ → ℚ) → s < n → ((k : ℕ) → k < n → ¬ (k ≡ s) → f k ≡ g k) → sum_below n f +ℚ g s ≡ sum_below n g +ℚ f s
sum_below-changed zero s f g p h = absurd (omega arith)
sum_below-changed (suc n) s f g p h = ⊎_elim here (there (λ q. sum_below-changed n s f g q (λ k l w. h k (omega arith) w))) (cases_eq s n)
  where
    here : s ≡ n → sum_below (suc n) f +ℚ g s ≡ sum_below (suc n) g +ℚ f s
    here e =
        subst (λ v. (sum_below n f +ℚ f n) +ℚ g v ≡ (sum_below n g +ℚ g n) +ℚ f v) (sym e)
        (ap (λ t. (t +ℚ f n) +ℚ g n) (sum_below-same n f g (λ k q. h k (omega arith) (λ w. omega (arith, w, e, q))))
        ∙ ring (sum_below n g ∷ f n ∷ g n ∷ []) (search reads_ℚ) tt)

    there : (s < n → sum_below n f +ℚ g s ≡ sum_below n g +ℚ f s) → ¬ (s ≡ n) → sum_below (suc n) f +ℚ g s ≡ sum_below (suc n) g +ℚ f s
    there earlier other =
        let last : f n ≡ g n = h n (omega arith) (λ w. other (sym w)) in
        let rest : sum_below n f +ℚ g s ≡ sum_below n g +ℚ f s = earlier (omega arith) in
        ap (λ t. (sum_below n f +ℚ t) +ℚ g s) last
        ∙ ring_from (sum_below n f ∷ g s ∷ sum_below n g ∷ f s ∷ g n ∷ []) rest (search reads_ℚ depth 9) tt
