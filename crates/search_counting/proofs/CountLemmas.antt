-- Numbers of points counted up to a greatest number.
use Rattle.std.specs.Prelude.{MatchOption}
use Rattle.std.proofs.Common.{◌≡◌, ◌⊎◌, ℕ, zero, suc, ◌+◌, ◌*◌, ◌^◌, ◌-◌, ◌≤◌, ◌<◌, List, [], ◌∷◌, ◌++◌, length, get_or, take, sym, ap, ◌∙◌, arith, inl, inr, min, Option, Some, None}
use Rattle.std.proofs.lemmas.List.{take_more}
use Rattle.lp_model.specs.declared.types.Col.{Col}
use Rattle.search_counting.specs.Work.{factor, whole_points_of, results_for}

pub whole_points-more : (cs : List Col) (c : Col) → whole_points_of (cs ++ c ∷ []) ≡ whole_points_of cs * factor c
whole_points-more [] c = omega arith
whole_points-more (d ∷ cs) c =
    let e = whole_points-more cs c in
    ap (λ n. factor d * n) e ∙ regroup (factor d) (whole_points_of cs) (factor c)
  where
    regroup : (a b d : ℕ) → a * (b * d) ≡ a * b * d
    regroup a b d = omega arith

either_way : (a b : ℕ) → (a ≤ b) ⊎ (b ≤ a)
either_way zero b = inl (omega arith)
either_way (suc a) zero = inr (omega arith)
either_way (suc a) (suc b) = elim (either_way a b) [ inl h ↦ inl (omega arith) | inr h ↦ inr (omega arith) ]

no_less : (k n m : ℕ) → m ≤ n → m ≤ suc k * n
no_less k n m h = let e : suc k * n ≡ k * n + n = omega arith in omega arith

no_less_right : (k n m : ℕ) → m ≤ n → m ≤ n * suc k
no_less_right k n m h = let e : n * suc k ≡ n * k + n = omega arith in omega arith

top : (n m : ℕ) → m ≤ n → min n m ≡ m
top n m h = omega arith

-- a product of saturated numbers, saturated
pub saturated : (p c m : ℕ) → min (min p m * min c m) m ≡ min (p * c) m
saturated p c m = elim (either_way p m) [
  | inl p_low ↦ elim (either_way c m) [
    | inl c_low ↦ let e : min p m ≡ p = omega arith in let f : min c m ≡ c = omega arith in (λ i. min (e i * f i) m)
    | inr c_high ↦ let e : min p m ≡ p = omega arith in let f : min c m ≡ m = omega arith in (λ i. min (e i * f i) m) ∙ low_high p c c_high
  ]
  | inr p_high ↦ elim (either_way c m) [
    | inl c_low ↦ let e : min p m ≡ m = omega arith in let f : min c m ≡ c = omega arith in (λ i. min (e i * f i) m) ∙ high_low c p p_high
    | inr c_high ↦ let e : min p m ≡ m = omega arith in let f : min c m ≡ m = omega arith in (λ i. min (e i * f i) m) ∙ high_high m p c p_high c_high
  ]
]
  where
    low_high : (p c : ℕ) → m ≤ c → min (p * m) m ≡ min (p * c) m
    low_high zero c h = let e : 0 * m ≡ 0 * c = omega arith in ap (λ n. min n m) e
    low_high (suc q) c h = top (suc q * m) m (no_less q m m (omega arith)) ∙ sym (top (suc q * c) m (no_less q c m h))

    high_low : (c p : ℕ) → m ≤ p → min (m * c) m ≡ min (p * c) m
    high_low zero p h = let e : m * 0 ≡ p * 0 = omega arith in ap (λ n. min n m) e
    high_low (suc d) p h = top (m * suc d) m (no_less_right d m m (omega arith)) ∙ sym (top (p * suc d) m (no_less_right d p m h))

    high_high : (n p c : ℕ) → n ≤ p → n ≤ c → min (n * n) n ≡ min (p * c) n
    high_high zero p c h k = omega arith
    high_high (suc n) zero c h k = absurd (omega arith)
    high_high (suc n) (suc p) c h k = top (suc n * suc n) (suc n) (no_less n (suc n) (suc n) (omega arith)) ∙ sym (top (suc p * c) (suc n) (no_less p c (suc n) k))

pub whole_points-step : (cs : List Col) (k : ℕ) (c : Col) (total next most : ℕ) → k < length cs → c ≡ get_or cs k c → total ≡ min (whole_points_of (take k cs)) most
    → next ≡ min (total * min (factor c) most) most → next ≡ min (whole_points_of (take (k + 1) cs)) most
whole_points-step cs k c total next most h is before now =
    let front : take (k + 1) cs ≡ take k cs ++ c ∷ [] = take_more cs k c h ∙ ap (λ d. take k cs ++ d ∷ []) (sym is) in
    now ∙ ap (λ t. min (t * min (factor c) most) most) before ∙ saturated (whole_points_of (take k cs)) (factor c) most
    ∙ ap (λ n. min n most) (sym (whole_points-more (take k cs) c)) ∙ ap (λ l. min (whole_points_of l) most) (sym front)

-- the cap from the saturated number of points
pub cap-saturated : (r : Option ℕ) (points p : ℕ) → points ≡ min p (2 ^ 64 - 1) → MatchOption r (2 ^ 64 ≤ results_for points) (λ most. (most ≡ results_for points) × (most < 2 ^ 64))
    → MatchOption r (2 ^ 64 ≤ results_for p) (λ most. (most ≡ results_for p) × (most < 2 ^ 64))
cap-saturated None points p e h = omega arith
cap-saturated (Some n) points p e h = let is = h.0 in let below = h.1 in (omega arith, below)
