-- How many points regions have.
use Rattle.std.specs.Prelude.{◌≡◌, ℕ, zero, suc, ◌+◌, ◌*◌, ◌<◌, ◌≤◌, Bool, true, false, if◌then◌else◌, nat_eq, IsTrue, [], ◌∷◌, ◌++◌, length, pos, Option, Some, None, ℤ, ◌+ℤ◌, ◌-ℤ◌, ◌≤ℤ◌, ◌<ℤ◌, unsigned_abs}
use Rattle.std.specs.Option.{option_map}
use Rattle.std.proofs.Common.{refl, sym, subst, ap, ◌∙◌, inl, inr, arith}
use Rattle.std.proofs.lemmas.Int.{ints}
use Rattle.std.proofs.lemmas.Bool.{ne_eqb, false≢true}
use Rattle.std.proofs.lemmas.Bool.Decides.{eqb_tells}
use Rattle.frac128.specs.Rational.{ℚ, int, ◌≤ℚ◌, ◌<ℚ◌, floor, ceil, min_ℚ, max_ℚ, IsWhole}
use Rattle.frac128.specs.RationalOrder.{≤ℚ_refl, ≤ℚ_trans, ≤ℚ_antisymm, ≤ℚ_from_not, ≤ℚ_of_<ℚ, ≤ℚ_or_>ℚ, not_both_ℚ}
use Rattle.frac128.proofs.Rounding.{int-≤ℚ, ≤ℚ-int, int-floor, floor-≤ℚ}
use Rattle.frac128.proofs.Integers.{int-≤ℚ-int}
use Rattle.frac128.proofs.Division.{min-≤ℚ, ≤ℚ-min, ≤ℚ-max, max-≤ℚ}
use Rattle.lp_model.specs.Program.{Program, lower, upper, is_integer}
use Rattle.lp_model.specs.Lawful.{IsLawful}
use Rattle.lp_model.specs.Regions.{Path, tighter_low, tighter_high, low_after, high_after, low_along, high_along, region_low, region_high, IsCrossed, IsEmptyRegion, at_most, at_least}
use Rattle.lp_model.specs.declared.types.BoundChange.{BoundChange}
use Rattle.branch_tree.specs.Tree.{left_path, right_path}
use Rattle.search_parts.specs.Checks.{IsFrom, IsUnder}
use Rattle.search_counting.specs.Points.{whole_numbers_from, numbers_within, product_below, column_points, points}
use Rattle.model_points.proofs.WithinRegionLemmas.{IsWholeBound}
use Rattle.search_counting.proofs.RegionLemmas.{ceil-int, floor-int, region_low-whole, region_high-whole}

-- ---- a path and one more change

low_along-more : (path : Path) (c : BoundChange) (k : ℕ) (b : Option ℚ) → low_along (path ++ c ∷ []) k b ≡ (if nat_eq c.col.0 k then low_after c.side (low_along path k b) (int c.v) else low_along path k b)
low_along-more [] c k b = refl
low_along-more (d ∷ path) c k b = low_along-more path c k (if nat_eq d.col.0 k then low_after d.side b (int d.v) else b)

high_along-more : (path : Path) (c : BoundChange) (k : ℕ) (b : Option ℚ) → high_along (path ++ c ∷ []) k b ≡ (if nat_eq c.col.0 k then high_after c.side (high_along path k b) (int c.v) else high_along path k b)
high_along-more [] c k b = refl
high_along-more (d ∷ path) c k b = high_along-more path c k (if nat_eq d.col.0 k then high_after d.side b (int d.v) else b)

if_same : {A : Type 0} (t : Bool) (a : A) → (if t then a else a) ≡ a
if_same true a = refl
if_same false a = refl

itself : (j : ℕ) → nat_eq j j ≡ true
itself j = elim (eqb_tells j j) [ inl h ↦ h.0 | inr h ↦ absurd (h.1 refl) ]

module _ (M : Program) (path : Path) (j : ℕ) (v : ℤ) where
  first_low : ℕ → Option ℚ
  first_low k = if is_integer M k then option_map (λ l. int (ceil l)) (lower M k) else lower M k

  first_high : ℕ → Option ℚ
  first_high k = if is_integer M k then option_map (λ h. int (floor h)) (upper M k) else upper M k

  pub low-left : (k : ℕ) → region_low M (left_path path j v) k ≡ region_low M path k
  low-left k = low_along-more path (at_most j v) k (if is_integer M k then option_map (λ l. int (ceil l)) (lower M k) else lower M k) ∙ if_same (nat_eq j k) (region_low M path k)

  pub high-right : (k : ℕ) → region_high M (right_path path j v) k ≡ region_high M path k
  high-right k = high_along-more path (at_least j (v +ℤ pos 1)) k (if is_integer M k then option_map (λ h. int (floor h)) (upper M k) else upper M k) ∙ if_same (nat_eq j k) (region_high M path k)

  pub high-left : region_high M (left_path path j v) j ≡ tighter_high (region_high M path j) (int v)
  high-left =
      high_along-more path (at_most j v) j (if is_integer M j then option_map (λ h. int (floor h)) (upper M j) else upper M j)
      ∙ ap (λ (t : Bool). if t then tighter_high (region_high M path j) (int v) else region_high M path j) (itself j)

  pub low-right : region_low M (right_path path j v) j ≡ tighter_low (region_low M path j) (int (v +ℤ pos 1))
  low-right =
      low_along-more path (at_least j (v +ℤ pos 1)) j (if is_integer M j then option_map (λ l. int (ceil l)) (lower M j) else lower M j)
      ∙ ap (λ (t : Bool). if t then tighter_low (region_low M path j) (int (v +ℤ pos 1)) else region_low M path j) (itself j)

  module _ (k : ℕ) (other : j ≡ k → ⊥) where
    pub high-left_other : region_high M (left_path path j v) k ≡ region_high M path k
    high-left_other =
        high_along-more path (at_most j v) k (if is_integer M k then option_map (λ h. int (floor h)) (upper M k) else upper M k)
        ∙ ap (λ (t : Bool). if t then tighter_high (region_high M path k) (int v) else region_high M path k) (ne_eqb j k other)

    pub low-right_other : region_low M (right_path path j v) k ≡ region_low M path k
    low-right_other =
        low_along-more path (at_least j (v +ℤ pos 1)) k (if is_integer M k then option_map (λ l. int (ceil l)) (lower M k) else lower M k)
        ∙ ap (λ (t : Bool). if t then tighter_low (region_low M path k) (int (v +ℤ pos 1)) else region_low M path k) (ne_eqb j k other)

-- ---- the numbers of one column

pub min-below : (h : ℚ) (v : ℤ) → int v <ℚ h → min_ℚ h (int v) ≡ int v
min-below h v less = ≤ℚ_antisymm ((min-≤ℚ h (int v)).1) (≤ℚ-min (int v) h (int v) (≤ℚ_of_<ℚ less) (≤ℚ_refl (int v)))

pub max-above : (l : ℚ) (v : ℤ) → l ≤ℚ int v → max_ℚ l (int v) ≡ int v
max-above l v under = ≤ℚ_antisymm (max-≤ℚ l (int v) (int v) under (≤ℚ_refl (int v))) ((≤ℚ-max l (int v)).1)

numbers-some : (l h : ℤ) → l ≤ℤ h → whole_numbers_from l h ≡ suc (unsigned_abs (h -ℤ l))
numbers-some l h ordered = grind (arith, ints)

numbers-split : (l v h : ℤ) → l ≤ℤ v → v ≤ℤ h → whole_numbers_from l v + whole_numbers_from (v +ℤ pos 1) h ≡ whole_numbers_from l h
numbers-split l v h low high = grind (arith, ints)

-- the numbers below and those above a split, of a column's bounds
pub bounds-split : (lo hi : Option ℚ) (v : ℤ) → IsFrom lo v → IsUnder hi v
    → numbers_within lo (tighter_high hi (int v)) + numbers_within (tighter_low lo (int (v +ℤ pos 1))) hi ≡ numbers_within lo hi
bounds-split None hi v from under = absurd from
bounds-split (Some l) None v from under = absurd under
bounds-split (Some l) (Some h) v from under =
    let next : l ≤ℚ int (v +ℤ pos 1) = ≤ℚ_trans from ((int-≤ℚ-int v (v +ℤ pos 1)).1 (omega (arith, ints))) in
    let low : ceil l ≤ℤ v = (≤ℚ-int l v).0 from in
    let high : v ≤ℤ floor h = (int-≤ℚ v h).0 (≤ℚ_of_<ℚ under) in
    (λ t. whole_numbers_from (ceil l) (floor (min-below h v under t)) + whole_numbers_from (ceil (max-above l (v +ℤ pos 1) next t)) (floor h))
    ∙ (λ t. whole_numbers_from (ceil l) (floor-int v t) + whole_numbers_from (ceil-int (v +ℤ pos 1) t) (floor h))
    ∙ numbers-split (ceil l) v (floor h) low high

-- ---- products

product-same : (n : ℕ) (f g : ℕ → ℕ) → ((k : ℕ) → k < n → f k ≡ g k) → product_below n f ≡ product_below n g
product-same zero f g h = refl
product-same (suc n) f g h = (λ t. product-same n f g (λ k below. h k (omega arith)) t * h n (omega arith) t)

-- products that differ at j alone, where the factors add up
pub product-split : (n j : ℕ) (f g k : ℕ → ℕ) → j < n → ((i : ℕ) → (j ≡ i → ⊥) → g i ≡ f i) → ((i : ℕ) → (j ≡ i → ⊥) → k i ≡ f i) → g j + k j ≡ f j
    → product_below n g + product_below n k ≡ product_below n f
product-split zero j f g k within left right add = absurd (omega arith)
product-split (suc n) j f g k within left right add = elim (eqb_tells j n) [
  | inl same ↦
      let g_is : product_below n g ≡ product_below n f = product-same n g f (λ i below. left i (λ e. let at : j ≡ n = same.1 in omega arith)) in
      let k_is : product_below n k ≡ product_below n f = product-same n k f (λ i below. right i (λ e. let at : j ≡ n = same.1 in omega arith)) in
      let here : g n + k n ≡ f n = subst (λ m. g m + k m ≡ f m) same.1 add in
      (λ t. g_is t * g n + k_is t * k n) ∙ times-add (product_below n f) (g n) (k n) ∙ ap (λ m. product_below n f * m) here
  | inr other ↦
      let not : j ≡ n → ⊥ = other.1 in
      let below : j < n = omega arith in
      (λ t. product_below n g * left n not t + product_below n k * right n not t)
      ∙ add-times (product_below n g) (product_below n k) (f n)
      ∙ ap (λ m. m * f n) (product-split n j f g k below left right add)
]
  where
    times-add : (a b c : ℕ) → a * b + a * c ≡ a * (b + c)
    times-add a b c = omega arith

    add-times : (a b c : ℕ) → a * c + b * c ≡ (a + b) * c
    add-times a b c = omega arith

-- ---- any split

numbers-none : (l h : ℤ) → h <ℤ l → whole_numbers_from l h ≡ 0
numbers-none l h crossed = grind (arith, ints)

-- where the split's number is not among the column's, one child has none and the other has all
bounds-beyond : (l h : ℚ) (v : ℤ) → IsWhole l → IsWhole h → h ≤ℚ int v
    → numbers_within (Some l) (tighter_high (Some h) (int v)) + numbers_within (tighter_low (Some l) (int (v +ℤ pos 1))) (Some h) ≡ numbers_within (Some l) (Some h)
bounds-beyond l h v p q over =
    let same : min_ℚ h (int v) ≡ h = ≤ℚ_antisymm ((min-≤ℚ h (int v)).0) (≤ℚ-min h h (int v) (≤ℚ_refl h) over) in
    let under : floor h ≤ℤ v = (int-≤ℚ-int (floor h) v).0 (≤ℚ_trans (floor-≤ℚ h) over) in
    let low : (v +ℤ pos 1) ≤ℤ ceil (max_ℚ l (int (v +ℤ pos 1))) = (int-≤ℚ-int (v +ℤ pos 1) (ceil (max_ℚ l (int (v +ℤ pos 1))))).0 (≤ℚ_trans ((≤ℚ-max l (int (v +ℤ pos 1))).1) (over_ceil (max_ℚ l (int (v +ℤ pos 1))))) in
    let none : whole_numbers_from (ceil (max_ℚ l (int (v +ℤ pos 1)))) (floor h) ≡ 0 = numbers-none (ceil (max_ℚ l (int (v +ℤ pos 1)))) (floor h) (omega (arith, ints)) in
    (λ t. whole_numbers_from (ceil l) (floor (same t)) + none t) ∙ plus_zero (whole_numbers_from (ceil l) (floor h))
  where
    over_ceil : (x : ℚ) → x ≤ℚ int (ceil x)
    over_ceil x = (≤ℚ-int x (ceil x)).1 (omega (arith, ints))

    plus_zero : (n : ℕ) → n + 0 ≡ n
    plus_zero n = omega arith

bounds-below : (l h : ℚ) (v : ℤ) → IsWhole l → IsWhole h → int v <ℚ l
    → numbers_within (Some l) (tighter_high (Some h) (int v)) + numbers_within (tighter_low (Some l) (int (v +ℤ pos 1))) (Some h) ≡ numbers_within (Some l) (Some h)
bounds-below l h v p q under =
    let next : (v +ℤ pos 1) ≤ℤ floor l = whole_next l v p under in
    let above : int (v +ℤ pos 1) ≤ℚ l = (int-≤ℚ (v +ℤ pos 1) l).1 next in
    let same : max_ℚ l (int (v +ℤ pos 1)) ≡ l = ≤ℚ_antisymm (max-≤ℚ l (int (v +ℤ pos 1)) l (≤ℚ_refl l) above) ((≤ℚ-max l (int (v +ℤ pos 1))).0) in
    let high : floor (min_ℚ h (int v)) ≤ℤ v = (int-≤ℚ-int (floor (min_ℚ h (int v))) v).0 (≤ℚ_trans (floor-≤ℚ (min_ℚ h (int v))) ((min-≤ℚ h (int v)).1)) in
    let low : (v +ℤ pos 1) ≤ℤ ceil l = (int-≤ℚ-int (v +ℤ pos 1) (ceil l)).0 (≤ℚ_trans above ((≤ℚ-int l (ceil l)).1 (omega (arith, ints)))) in
    let none : whole_numbers_from (ceil l) (floor (min_ℚ h (int v))) ≡ 0 = numbers-none (ceil l) (floor (min_ℚ h (int v))) (omega (arith, ints)) in
    (λ t. none t + whole_numbers_from (ceil (same t)) (floor h)) ∙ zero_plus (whole_numbers_from (ceil l) (floor h))
  where
    zero_plus : (n : ℕ) → 0 + n ≡ n
    zero_plus n = omega arith

    whole_next : (l : ℚ) (v : ℤ) → IsWhole l → int v <ℚ l → (v +ℤ pos 1) ≤ℤ floor l
    whole_next l v p under =
        let not : floor l ≤ℤ v → ⊥ = λ over. not_both_ℚ (subst (λ z. z ≤ℚ int v) (int-floor l p) ((int-≤ℚ-int (floor l) v).1 over)) under in
        above (floor l) v not
      where
        above : (a b : ℤ) → (a ≤ℤ b → ⊥) → (b +ℤ pos 1) ≤ℤ a
        above a b not = grind (arith, ints)

bounds-any : (lo hi : Option ℚ) (v : ℤ) → IsWholeBound lo → IsWholeBound hi
    → numbers_within lo (tighter_high hi (int v)) + numbers_within (tighter_low lo (int (v +ℤ pos 1))) hi ≡ numbers_within lo hi
bounds-any None hi v p q = absurd p
bounds-any (Some l) None v p q = absurd q
bounds-any (Some l) (Some h) v p q = elim (≤ℚ_or_>ℚ h (int v)) [
  | inl over ↦ bounds-beyond l h v p q over
  | inr under ↦ elim (≤ℚ_or_>ℚ l (int v)) [ inl from ↦ bounds-split (Some l) (Some h) v from under | inr below ↦ bounds-below l h v p q below ]
]

-- a column's part of the points
counted : (b : Bool) (n m k : ℕ) → (IsTrue b → n + m ≡ k) → IsTrue b → (if b then n else 1) + (if b then m else 1) ≡ (if b then k else 1)
counted true n m k h t = h t
counted false n m k h t = absurd (false≢true t)

-- a split's two children have together the points of their parent
pub points-split : (M : Program) (path : Path) (j : ℕ) (v : ℤ) → IsLawful M → j < length M.cols → IsTrue (is_integer M j) → points M (left_path path j v) + points M (right_path path j v) ≡ points M path
points-split M path j v lawful there integer =
    product-split (length M.cols) j (column_points M path) (column_points M (left_path path j v)) (column_points M (right_path path j v))
    there
    (λ k other t. if is_integer M k then numbers_within (low-left M path j v k t) (high-left_other M path j v k other t) else 1)
    (λ k other t. if is_integer M k then numbers_within (low-right_other M path j v k other t) (high-right M path j v k t) else 1)
    (counted (is_integer M j) (numbers_within (region_low M (left_path path j v) j) (region_high M (left_path path j v) j)) (numbers_within (region_low M (right_path path j v) j) (region_high M (right_path path j v) j))
    (numbers_within (region_low M path j) (region_high M path j))
    (λ _. (λ t. numbers_within (low-left M path j v j t) (high-left M path j v t) + numbers_within (low-right M path j v t) (high-right M path j v j t))
    ∙ bounds-any (region_low M path j) (region_high M path j) v (region_low-whole M lawful path j there integer) (region_high-whole M lawful path j there integer))
    integer)

-- ---- regions with a point

product-positive : (n : ℕ) (f : ℕ → ℕ) → ((k : ℕ) → k < n → 1 ≤ f k) → 1 ≤ product_below n f
product-positive zero f h = omega arith
product-positive (suc n) f h = positive (product_below n f) (f n) (product-positive n f (λ k below. h k (omega arith))) (h n (omega arith))
  where
    positive : (a b : ℕ) → 1 ≤ a → 1 ≤ b → 1 ≤ a * b
    positive zero b h k = absurd (omega arith)
    positive (suc a) zero h k = absurd (omega arith)
    positive (suc a) (suc b) h k = let e : suc a * suc b ≡ suc a * b + suc a = omega arith in omega arith

within-positive : (lo hi : Option ℚ) → IsWholeBound lo → IsWholeBound hi → (¬ IsCrossed lo hi) → 1 ≤ numbers_within lo hi
within-positive None hi p q some = absurd p
within-positive (Some l) None p q some = absurd q
within-positive (Some l) (Some h) p q some =
    let under : l ≤ℚ h = ≤ℚ_from_not l h some in
    let ordered : ceil l ≤ℤ floor h = (≤ℚ-int l (floor h)).0 (subst (λ z. l ≤ℚ z) (sym (int-floor h q)) under) in
    let is : whole_numbers_from (ceil l) (floor h) ≡ suc (unsigned_abs (floor h -ℤ ceil l)) = numbers-some (ceil l) (floor h) ordered in
    omega (arith, is)

-- a region that is not seen to be empty has a point
pub points-some : (M : Program) (path : Path) → IsLawful M → (¬ IsEmptyRegion M path) → 1 ≤ points M path
points-some M path lawful some = product-positive (length M.cols) (column_points M path) (λ k within. by k within (is_integer M k) refl)
  where
    by : (k : ℕ) → k < length M.cols → (b : Bool) → is_integer M k ≡ b → 1 ≤ (if b then numbers_within (region_low M path k) (region_high M path k) else 1)
    by k within true e =
        within-positive (region_low M path k) (region_high M path k) (region_low-whole M lawful path k within e) (region_high-whole M lawful path k within e) (λ crossed. some (k, (within, crossed)))
    by k within false e = omega arith
