-- A scan for the greatest value, and lists from which the worst is taken out.
use Rattle.std.specs.Prelude.{◌≡◌, ℕ, zero, suc, ◌+◌, ◌<◌, ◌≤◌, List, [], ◌∷◌, ◌++◌, length, map, take, drop, All, Option, Some, None}
use Rattle.std.proofs.Common.{refl, sym, ap, ◌∙◌, arith, length-append, inl, inr}
use Rattle.std.proofs.lemmas.Bool.{cases_order}
use Rattle.std.proofs.lemmas.List.{map-append, length-take, length-drop}
use Rattle.std.proofs.lemmas.List.Elements.{All-append, All-take, All-drop}
use Rattle.frac128.specs.Rational.{ℚ, ◌≤ℚ◌, ◌<ℚ◌}
use Rattle.frac128.specs.RationalOrder.{not_both_ℚ, ≤ℚ_refl, ≤ℚ-<ℚ_trans, ≤ℚ_of_<ℚ, ≤ℚ_from_not}
use Rattle.lp_model.specs.Program.{Program, Point, least_value}
use Rattle.search_parts.proofs.PointLemmas.{target-value, target-none}
use Rattle.search_parts.specs.Points.{value_at, target}
use Rattle.search_parts.specs.Joining.{IsOldestGreatestOf, IsWorst, list_without, IsLeastValue}
use borrow.Author.Count.{below_more}

module _ (values : List ℚ) (n k : ℕ) (h : IsOldestGreatestOf values n k) where
  pub worst-higher : value_at values k <ℚ value_at values n → IsOldestGreatestOf values (n + 1) n
  worst-higher more = record {
    within = omega arith;
    greatest = below_more (λ i. value_at values i ≤ℚ value_at values n) n (λ i below. ≤ℚ_of_<ℚ (≤ℚ-<ℚ_trans (h.greatest i below) more)) (≤ℚ_refl (value_at values n));
    oldest = λ i below. ≤ℚ-<ℚ_trans (h.greatest i below) more;
  }

  pub worst-same : ¬ (value_at values k <ℚ value_at values n) → IsOldestGreatestOf values (n + 1) k
  worst-same not = record {
    within = let w : k < n = h.within in omega arith;
    greatest = below_more (λ i. value_at values i ≤ℚ value_at values k) n h.greatest (≤ℚ_from_not (value_at values n) (value_at values k) not);
    oldest = h.oldest;
  }

-- ---- a list without one element

map-take : {A B : Type 0} (f : A → B) (n : ℕ) (xs : List A) → map f (take n xs) ≡ take n (map f xs)
map-take f zero xs = refl
map-take f (suc n) [] = refl
map-take f (suc n) (x ∷ xs) = ap (λ ys. f x ∷ ys) (map-take f n xs)

map-drop : {A B : Type 0} (f : A → B) (n : ℕ) (xs : List A) → map f (drop n xs) ≡ drop n (map f xs)
map-drop f zero xs = refl
map-drop f (suc n) [] = refl
map-drop f (suc n) (x ∷ xs) = map-drop f n xs

pub map-without : {A B : Type 0} (f : A → B) (xs : List A) (k : Option ℕ) → map f (list_without xs k) ≡ list_without (map f xs) k
map-without f xs None = refl
map-without f xs (Some k) =
    map-append f (take k xs) (drop (suc k) xs) ∙ ap (λ ys. ys ++ map f (drop (suc k) xs)) (map-take f k xs) ∙ ap (λ ys. take k (map f xs) ++ ys) (map-drop f (suc k) xs)

pub all-without : {A : Type 0} (P : A → Type 0) (xs : List A) (k : Option ℕ) → All P xs → All P (list_without xs k)
all-without P xs None h = h
all-without P xs (Some k) h = All-append P (take k xs) (drop (suc k) xs) (All-take P k xs h) (All-drop P (suc k) xs h)

pub few-without : {A : Type 0} (xs : List A) (n : ℕ) (values : List ℚ) (worst : Option ℕ) → length values ≡ length xs → length xs ≤ n + 1 → n ≡ 100 → IsWorst values worst → length (list_without xs worst) ≤ 100
few-without xs n values None e l h w = omega (arith, w)
few-without xs n values (Some k) e l h w =
    let within : k < length values = w.1.within in
    omega (arith, length-append (take k xs) (drop (suc k) xs), length-take k xs, length-drop (suc k) xs)

-- ---- values and points

pub least-target : (M : Program) (points : List Point) (values : List ℚ) (t : Option ℚ) → values ≡ map (least_value M 1) points → IsLeastValue values t → t ≡ target M points
least-target M points values None are none = ap (target M) (sym (target-none M points values are none))
least-target M points values (Some v) are least = target-value M points values are least.0 v least.1.0 least.1.1

-- ---- one goes

pub worst_unique : (values : List ℚ) (a b : Option ℕ) → IsWorst values a → IsWorst values b → a ≡ b
worst_unique values None None h k = refl
worst_unique values None (Some l) h k = absurd (omega (arith, h, k.0))
worst_unique values (Some l) None h k = absurd (omega (arith, k, h.0))
worst_unique values (Some l) (Some m) h k =
    elim (cases_order l m) [
      | inl same ↦ ap (λ n. Some n) same
      | inr apart ↦ elim apart [
        | inl before ↦ not_both_ℚ (h.1.greatest m k.1.within) (k.1.oldest l before)
        | inr past ↦ not_both_ℚ (k.1.greatest l h.1.within) (h.1.oldest m past)
      ]
    ]
