-- Two sums of products whose terms are alike: at each place the factors and the numbers are the same and both sums or neither
-- get there, or no sum that gets there makes a step. They have the same steps, the same first one without room and the same total.
use Rattle.std.specs.Prelude.{◌≡◌, ◌⊎◌, ◌↔◌, ℕ, zero, suc, ◌<◌, ◌≤◌, [], ◌∷◌, pos}
use Rattle.std.proofs.Common.{sym, ap, subst, ◌∙◌, inl, inr, arith}
use Rattle.std.proofs.lemmas.Bool.{cases_order}
use Rattle.frac128.specs.Rational.{ℚ, int, ◌+ℚ◌, ◌*ℚ◌}
use Rattle.frac128.specs.RationalRing.{ring, reads_ℚ}
use Rattle.frac128.specs.Sums.{sum_below}
use Rattle.checked_sum.specs.Steps.{StepFits, StepFitsAt, AllFit, IsFirstWide, partial}
use Rattle.checked_sum.proofs.SumLaws.{sum_below-same}
use Rattle.leaf_dual.specs.declared.dual.LagValue.{LagValue}
use Rattle.leaf_dual.specs.declared.dual.LagValue.TheVariants.{Num}
use Rattle.leaf_dual.specs.Dual.{plus, total_below}
use Rattle.leaf_dual.proofs.FurtherCut.{total-same, plus-none}

-- a term without a step
abbrev pub IsNoStep : (ℕ → ℚ) → (ℕ → ℚ) → ℕ → Type 0
IsNoStep a x k = (a k ≡ int (pos 0)) ⊎ (x k ≡ int (pos 0))

-- at place k of the sums of a * x up to n and of b * w up to m
abbrev pub IsLikeTerm : (ℕ → ℚ) → (ℕ → ℚ) → (ℕ → ℚ) → (ℕ → ℚ) → ℕ → ℕ → ℕ → Type 0
IsLikeTerm a x b w n m k = ((a k ≡ b k) × ((x k ≡ w k) × (k < n ↔ k < m))) ⊎ ((k < n → IsNoStep a x k) × (k < m → IsNoStep b w k))

-- ---- sums that end in terms of 0

sum-ended : (f : ℕ → ℚ) (p q : ℕ) → p ≤ q → ((k : ℕ) → p ≤ k → k < q → f k ≡ int (pos 0)) → sum_below q f ≡ sum_below p f
sum-ended f p zero within none = let e : p ≡ 0 = omega arith in ap (λ n. sum_below n f) (sym e)
sum-ended f p (suc q) within none = elim (cases_order p (suc q)) [
  | inl e ↦ ap (λ n. sum_below n f) (sym e)
  | inr apart ↦ elim apart [
    | inl below ↦
        let h : p ≤ q = omega arith in
        let here : f q ≡ int (pos 0) = none q h (omega arith) in
        let last : sum_below q f +ℚ int (pos 0) ≡ sum_below q f = ring (sum_below q f ∷ []) (search reads_ℚ) tt in
        ap (λ v. sum_below q f +ℚ v) here ∙ last ∙ sum-ended f p q h (λ k past before. none k past (omega arith))
    | inr above ↦ absurd (omega arith)
  ]
]

abbrev pub nothing : LagValue
nothing = Num (int (pos 0) *ℚ int (pos 0))

total-ended : (f : ℕ → LagValue) (p q : ℕ) → p ≤ q → ((k : ℕ) → p ≤ k → k < q → f k ≡ nothing) → total_below q f ≡ total_below p f
total-ended f p zero within none = let e : p ≡ 0 = omega arith in ap (λ n. total_below n f) (sym e)
total-ended f p (suc q) within none = elim (cases_order p (suc q)) [
  | inl e ↦ ap (λ n. total_below n f) (sym e)
  | inr apart ↦ elim apart [
    | inl below ↦
        let h : p ≤ q = omega arith in
        let here : f q ≡ nothing = none q h (omega arith) in
        ap (plus (total_below q f)) here ∙ sym (plus-none (total_below q f)) ∙ total-ended f p q h (λ k past before. none k past (omega arith))
    | inr above ↦ absurd (omega arith)
  ]
]

-- ---- totals of terms that are alike

abbrev pub IsLikeValue : (ℕ → LagValue) → (ℕ → LagValue) → ℕ → ℕ → ℕ → Type 0
IsLikeValue f g n m k = ((f k ≡ g k) × (k < n ↔ k < m)) ⊎ ((k < n → f k ≡ nothing) × (k < m → g k ≡ nothing))

module _ (f g : ℕ → LagValue) (n m : ℕ) (like : (k : ℕ) → IsLikeValue f g n m k) where
  value-same : (k : ℕ) → k < n → k < m → f k ≡ g k
  value-same k left right = elim (like k) [ inl same ↦ same.0 | inr quiet ↦ quiet.0 left ∙ sym (quiet.1 right) ]

  pub total-like : total_below n f ≡ total_below m g
  total-like = elim (cases_order n m) [
    | inl e ↦ total-same n f g (λ k below. value-same k below (omega (arith, e))) ∙ ap (λ k. total_below k g) e
    | inr apart ↦ elim apart [
      | inl below ↦
          total-same n f g (λ k before. value-same k before (omega arith))
          ∙ sym (total-ended g n m (omega arith) (λ k past before. elim (like k) [ inl same ↦ let h = same.1.1 before in absurd (omega arith) | inr quiet ↦ quiet.1 before ]))
      | inr above ↦
          total-ended f m n (omega arith) (λ k past before. elim (like k) [ inl same ↦ let h = same.1.0 before in absurd (omega arith) | inr quiet ↦ quiet.0 before ])
          ∙ total-same m f g (λ k before. value-same k (omega arith) before)
    ]
  ]

-- ---- sums of products that are alike

pub product-none : (a x : ℕ → ℚ) (k : ℕ) → IsNoStep a x k → a k *ℚ x k ≡ int (pos 0)
product-none a x k (inl none) = let zeroed : int (pos 0) *ℚ x k ≡ int (pos 0) = ring (x k ∷ []) (search reads_ℚ) tt in ap (λ v. v *ℚ x k) none ∙ zeroed
product-none a x k (inr none) = let zeroed : a k *ℚ int (pos 0) ≡ int (pos 0) = ring (a k ∷ []) (search reads_ℚ) tt in ap (λ v. a k *ℚ v) none ∙ zeroed

pub fits-none : (total : ℚ) (a x : ℕ → ℚ) (k : ℕ) → IsNoStep a x k → StepFits total (a k) (x k)
fits-none total a x k (inl none) = inl none
fits-none total a x k (inr none) = inr (inl none)

module _ (a x b w : ℕ → ℚ) (n m : ℕ) (like : (k : ℕ) → IsLikeTerm a x b w n m k) where
  products-like : (k : ℕ) → k < n → k < m → a k *ℚ x k ≡ b k *ℚ w k
  products-like k left right = elim (like k) [
    | inl same ↦ (λ i. same.0 i *ℚ same.1.0 i)
    | inr quiet ↦ product-none a x k (quiet.0 left) ∙ sym (product-none b w k (quiet.1 right))
  ]

  pub before-like : (k : ℕ) → k ≤ n → k ≤ m → sum_below k (λ j. a j *ℚ x j) ≡ sum_below k (λ j. b j *ℚ w j)
  before-like k left right = sum_below-same k (λ j. a j *ℚ x j) (λ j. b j *ℚ w j) (λ j below. products-like j (omega arith) (omega arith))

  pub sum-like : sum_below n (λ j. a j *ℚ x j) ≡ sum_below m (λ j. b j *ℚ w j)
  sum-like = elim (cases_order n m) [
    | inl e ↦ before-like n (omega arith) (omega (arith, e)) ∙ ap (λ k. sum_below k (λ j. b j *ℚ w j)) e
    | inr apart ↦ elim apart [
      | inl below ↦
          before-like n (omega arith) (omega arith)
          ∙ sym (sum-ended (λ j. b j *ℚ w j) n m (omega arith) (λ k past before. elim (like k) [ inl same ↦ let h = same.1.1.1 before in absurd (omega arith) | inr quiet ↦ product-none b w k (quiet.1 before) ]))
      | inr above ↦
          sum-ended (λ j. a j *ℚ x j) m n (omega arith) (λ k past before. elim (like k) [ inl same ↦ let h = same.1.1.0 before in absurd (omega arith) | inr quiet ↦ product-none a x k (quiet.0 before) ])
          ∙ before-like m (omega arith) (omega arith)
    ]
  ]

  module _ (s t : ℚ) (start : s ≡ t) where
    pub partial-like : partial s a x n ≡ partial t b w m
    partial-like = λ i. start i +ℚ sum-like i

    pub step-is : (k : ℕ) → k ≤ n → k ≤ m → a k ≡ b k → x k ≡ w k → StepFitsAt s a x k ≡ StepFitsAt t b w k
    step-is k left right factor number = λ i. StepFits (start i +ℚ before-like k left right i) (factor i) (number i)

    -- a place that both get to
    pub step-like : (k : ℕ) → k < n → k < m → StepFitsAt s a x k → StepFitsAt t b w k
    step-like k left right fits = elim (like k) [
      | inl same ↦ let l : k ≤ n = omega arith in let r : k ≤ m = omega arith in subst (λ P. P) (step-is k l r same.0 same.1.0) fits
      | inr quiet ↦ fits-none (partial t b w k) b w k (quiet.1 right)
    ]

    pub fits-like : AllFit s a x n → AllFit t b w m
    fits-like all k below = elim (like k) [
      | inl same ↦ let there = same.1.1.1 below in step-like k there below (all k there)
      | inr quiet ↦ fits-none (partial t b w k) b w k (quiet.1 below)
    ]

    pub first-like : (k : ℕ) → IsFirstWide s a x n k → IsFirstWide t b w m k
    first-like k wide = elim (like k) [
      | inl same ↦
          let left : k < n = wide.within in
          let right : k < m = same.1.1.0 left in
          let l : k ≤ n = omega arith in
          let r : k ≤ m = omega arith in
          record {
            within = right;
            before = λ j below. step-like j (omega arith) (omega arith) (wide.before j below);
            here = λ fits. wide.here (subst (λ P. P) (sym (step-is k l r same.0 same.1.0)) fits);
          }
      | inr quiet ↦ absurd (wide.here (fits-none (partial s a x k) a x k (quiet.0 wide.within)))
    ]
