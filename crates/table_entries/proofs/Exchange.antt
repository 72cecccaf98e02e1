-- What the exchange of two variables does to sums over the nonbasic ones.
use Rattle.std.specs.Prelude.{◌≡◌, ◌≢◌, ℕ, ◌<◌, [], ◌∷◌, pos, if◌then◌else◌, ◌==◌}
use Rattle.std.proofs.Common.{ap₂, sym, ap, ◌∙◌}
use Rattle.frac128.specs.Rational.{ℚ, int, ◌+ℚ◌, ◌-ℚ◌, ◌*ℚ◌, ◌/ℚ◌, neg_ℚ, inverse}
use Rattle.frac128.specs.RationalRing.{ring, reads_ℚ}
use Rattle.frac128.proofs.Division.{ring_from}
use Rattle.frac128.proofs.Rounding.{*ℚ-inverse}
use Rattle.frac128.specs.Sums.{sum_below}
use Rattle.checked_sum.proofs.SumLaws.{sum_below-add, sum_below-scale}
use Rattle.table_entries.proofs.SumBelowLaws.{if_same, if_other, sum_below-changed}

-- weights of the nonbasic variables after place s is exchanged with the row whose entries are given
abbrev pub moved : (ℕ → ℚ) → (ℕ → ℚ) → ℕ → ℕ → ℚ
moved a row s k = if k == s then a s /ℚ row s else a k -ℚ a s *ℚ (row k /ℚ row s)

-- x has the values before, y those after: they differ at s alone
pub sum_moved : (n s : ℕ) (a row x y : ℕ → ℚ) → s < n → row s ≢ int (pos 0) → ((k : ℕ) → k < n → ¬ (k ≡ s) → y k ≡ x k)
    → sum_below n (λ k. moved a row s k *ℚ y k) ≡ sum_below n (λ k. a k *ℚ x k) +ℚ (a s /ℚ row s) *ℚ (y s -ℚ sum_below n (λ k. row k *ℚ x k))
sum_moved n s a row x y within some same =
    let factor = neg_ℚ (a s /ℚ row s) in
    let before = sum_below n (λ k. a k *ℚ x k) in
    let line = sum_below n (λ k. row k *ℚ x k) in
    let f : ℕ → ℚ = λ k. moved a row s k *ℚ y k in
    let g : ℕ → ℚ = λ k. a k *ℚ x k +ℚ factor *ℚ (row k *ℚ x k) in
    let changed : sum_below n f +ℚ g s ≡ sum_below n g +ℚ f s = sum_below-changed n s f g within
    (λ k p other. ap₂ ◌*ℚ◌ (if_other k s (a s /ℚ row s) (a k -ℚ a s *ℚ (row k /ℚ row s)) other) (same k p other)
    ∙ ring (a k ∷ a s ∷ row k ∷ inverse (row s) ∷ x k ∷ []) (search reads_ℚ depth 9) tt) in
    let sum_g : sum_below n g ≡ before +ℚ factor *ℚ line = sum_below-add n (λ k. a k *ℚ x k) (λ k. factor *ℚ (row k *ℚ x k)) ∙ ap (λ t. before +ℚ t) (sum_below-scale n factor (λ k. row k *ℚ x k)) in
    let f_s : f s ≡ (a s /ℚ row s) *ℚ y s = ap (λ t. t *ℚ y s) (if_same s (a s /ℚ row s) (a s -ℚ a s *ℚ (row s /ℚ row s))) in
    let one : row s *ℚ inverse (row s) ≡ int (pos 1) = *ℚ-inverse (row s) some in
    let g_s : g s ≡ int (pos 0) =
    ring (a s ∷ row s ∷ inverse (row s) ∷ x s ∷ []) {y = a s *ℚ x s -ℚ (a s *ℚ x s) *ℚ (row s *ℚ inverse (row s))} (search reads_ℚ depth 9) tt
    ∙ ap (λ t. a s *ℚ x s -ℚ (a s *ℚ x s) *ℚ t) one ∙ ring (a s ∷ x s ∷ []) (search reads_ℚ depth 9) tt in
    let all : sum_below n f +ℚ int (pos 0) ≡ (before +ℚ factor *ℚ line) +ℚ (a s /ℚ row s) *ℚ y s = ap (λ t. sum_below n f +ℚ t) (sym g_s) ∙ changed ∙ ap₂ ◌+ℚ◌ sum_g f_s in
    ring_from (sum_below n f ∷ before ∷ line ∷ a s ∷ inverse (row s) ∷ y s ∷ []) all (search reads_ℚ depth 9) tt
