-- The least of the kept points' values, and the oldest point that has it.
use Rattle.std.specs.Prelude.{◌≡◌, ℕ, zero, suc, ◌+◌, ◌<◌, pos, List, [], ◌∷◌, length, map, get_or, All, Option, Some, None}
use Rattle.std.proofs.Common.{refl, sym, subst, ap, ◌∙◌, arith}
use Rattle.std.proofs.lemmas.List.{length-map}
use Rattle.std.proofs.lemmas.List.Elements.{All-head, All-tail}
use Rattle.frac128.specs.Rational.{ℚ, int, ◌≤ℚ◌, ◌<ℚ◌}
use Rattle.frac128.specs.RationalOrder.{≤ℚ_refl, ≤ℚ_trans, <ℚ-≤ℚ_trans, ≤ℚ_of_<ℚ, ≤ℚ_from_not, ≤ℚ_antisymm}
use Rattle.frac128.proofs.Division.{min-≤ℚ, ≤ℚ-min}
use Rattle.lp_model.specs.Program.{Program, Point, least_value}
use Rattle.search_parts.specs.Points.{lesser, target, value_at, IsOldestOf, IsOldestLeast, IsIncumbentAt}
use borrow.Author.Count.{below_more}

-- ---- below the least value

abbrev pub IsBelow : ℚ → Option ℚ → Type 0
IsBelow b None = Unit {0}
IsBelow b (Some t) = b ≤ℚ t

lesser-above : (b v : ℚ) (w : Option ℚ) → b ≤ℚ v → IsBelow b w → b ≤ℚ lesser v w
lesser-above b v None h k = h
lesser-above b v (Some w) h k = ≤ℚ-min b v w h k

pub target-above : (M : Program) (b : ℚ) (points : List Point) → All (λ y. b ≤ℚ least_value M 1 y) points → IsBelow b (target M points)
target-above M b [] h = tt
target-above M b (x ∷ xs) h =
    lesser-above b (least_value M 1 x) (target M xs) (All-head (λ y. b ≤ℚ least_value M 1 y) x xs h) (target-above M b xs (All-tail (λ y. b ≤ℚ least_value M 1 y) x xs h))

-- ---- a scan of the values

pub oldest-first : (values : List ℚ) → IsOldestOf values 1 0
oldest-first values = record {
  within = omega arith;
  least = λ i below. let z : i ≡ 0 = omega arith in subst (λ k. value_at values 0 ≤ℚ value_at values k) (sym z) (≤ℚ_refl (value_at values 0));
  oldest = λ i below. absurd (omega arith);
}

module _ (values : List ℚ) (n k : ℕ) (h : IsOldestOf values n k) where
  pub oldest-lower : value_at values n <ℚ value_at values k → IsOldestOf values (n + 1) n
  oldest-lower less = record {
    within = omega arith;
    least = below_more (λ i. value_at values n ≤ℚ value_at values i) n (λ i below. ≤ℚ_of_<ℚ (<ℚ-≤ℚ_trans less (h.least i below))) (≤ℚ_refl (value_at values n));
    oldest = λ i below. <ℚ-≤ℚ_trans less (h.least i below);
  }

  pub oldest-same : ¬ (value_at values n <ℚ value_at values k) → IsOldestOf values (n + 1) k
  oldest-same not = record {
    within = let w : k < n = h.within in omega arith;
    least = below_more (λ i. value_at values k ≤ℚ value_at values i) n h.least (≤ℚ_from_not (value_at values k) (value_at values n) not);
    oldest = h.oldest;
  }

-- ---- values and points

map-at : {A B : Type 0} (f : A → B) (xs : List A) (i : ℕ) (d : A) (e : B) → i < length xs → get_or (map f xs) i e ≡ f (get_or xs i d)
map-at f [] i d e below = absurd (omega arith)
map-at f (x ∷ xs) zero d e below = refl
map-at f (x ∷ xs) (suc i) d e below = map-at f xs i d e (omega arith)

get_or-self : {A : Type 0} (xs : List A) (i : ℕ) (d : A) → i < length xs → get_or xs i (get_or xs i d) ≡ get_or xs i d
get_or-self [] i d below = absurd (omega arith)
get_or-self (x ∷ xs) zero d below = refl
get_or-self (x ∷ xs) (suc i) d below = get_or-self xs i d (omega arith)

module _ (M : Program) (points : List Point) (values : List ℚ) (values_are : values ≡ map (least_value M 1) points) where
  value-is : (i : ℕ) (d : Point) → i < length points → value_at values i ≡ least_value M 1 (get_or points i d)
  value-is i d below = ap (λ vs. value_at vs i) values_are ∙ map-at (least_value M 1) points i d (int (pos 0)) below

  same_length : length values ≡ length points
  same_length = ap length values_are ∙ length-map points (least_value M 1)

  pub incumbent-at : (k : ℕ) (x : Point) → IsOldestLeast values k → x ≡ get_or points k x → IsIncumbentAt M points x k
  incumbent-at k x h is =
      let within : k < length points = let w : k < length values = h.within in omega (arith, same_length) in
      let here : value_at values k ≡ least_value M 1 x = value-is k x within ∙ ap (least_value M 1) (sym is) in
      record {
        within = within;
        is = sym is;
        least = λ i d below. subst (λ v. v ≤ℚ least_value M 1 (get_or points i d)) here (subst (λ v. value_at values k ≤ℚ v) (value-is i d below) (h.least i (omega (arith, same_length))));
        oldest = λ i below.
            let inside : i < length points = omega arith in
            subst (λ v. v <ℚ least_value M 1 (get_or points i x)) here (subst (λ v. value_at values k <ℚ v) (value-is i x inside) (h.oldest i below));
      }

-- ---- the target

lesser-first : (b v : ℚ) (w : Option ℚ) → b ≤ℚ lesser v w → b ≤ℚ v
lesser-first b v None h = h
lesser-first b v (Some w) h = ≤ℚ_trans h (min-≤ℚ v w).0

lesser-rest : (b v : ℚ) (w : Option ℚ) → b ≤ℚ lesser v w → IsBelow b w
lesser-rest b v None h = tt
lesser-rest b v (Some w) h = ≤ℚ_trans h (min-≤ℚ v w).1

-- the least value is no more than that of each point
target-most : (M : Program) (points : List Point) (i : ℕ) (d : Point) (b : ℚ) → i < length points → IsBelow b (target M points) → b ≤ℚ least_value M 1 (get_or points i d)
target-most M [] i d b below h = absurd (omega arith)
target-most M (x ∷ xs) zero d b below h = lesser-first b (least_value M 1 x) (target M xs) h
target-most M (x ∷ xs) (suc i) d b below h = target-most M xs i d b (omega arith) (lesser-rest b (least_value M 1 x) (target M xs) h)

-- it is the incumbent's
pub target-at : (M : Program) (points : List Point) (x : Point) (k : ℕ) → IsIncumbentAt M points x k → target M points ≡ Some (least_value M 1 x)
target-at M [] x k h = absurd (let w : k < 0 = h.within in omega arith)
target-at M (y ∷ ys) x k h =
    let t : ℚ = lesser (least_value M 1 y) (target M ys) in
    ap (λ v. Some v)
    (≤ℚ_antisymm (subst (λ z. t ≤ℚ least_value M 1 z) h.is (target-most M (y ∷ ys) k x t h.within (≤ℚ_refl t))) (target-above M (least_value M 1 x) (y ∷ ys) h.least))

pub target-value : (M : Program) (points : List Point) (values : List ℚ) → values ≡ map (least_value M 1) points → (k : ℕ) (v : ℚ) → IsOldestLeast values k → v ≡ value_at values k → Some v ≡ target M points
target-value M points values are k v h is =
    let within : k < length points = let w : k < length values = h.within in omega (arith, same_length M points values are) in
    let x = get_or points k [] in
    let self : x ≡ get_or points k x = sym (get_or-self points k [] within) in
    ap (λ u. Some u) (is ∙ value-is M points values are k [] within) ∙ sym (target-at M points x k (incumbent-at M points values are k x h self))

pub target-none : (M : Program) (points : List Point) (values : List ℚ) → values ≡ map (least_value M 1) points → values ≡ [] → points ≡ []
target-none M [] values are none = refl
target-none M (x ∷ xs) values are none = let e : [] ≡ least_value M 1 x ∷ map (least_value M 1) xs = sym none ∙ are in cc
