-- What numbers within a region's bounds are within: the model's bounds, and each change of the path. And bounds of integer
-- columns are there and whole.
use Rattle.std.specs.Prelude.{◌≡◌, ℕ, ◌<◌, Bool, true, false, if◌then◌else◌, nat_eq, IsTrue, IsSome, ℤ, [], ◌∷◌, length, Option, Some, None}
use Rattle.std.specs.Option.{option_map}
use Rattle.std.proofs.Common.{refl, sym, subst, ◌∙◌}
use Rattle.std.proofs.lemmas.Bool.{false≢true}
use Rattle.std.proofs.lemmas.Bool.Decides.{Decides-eqb}
use Rattle.frac128.specs.Rational.{ℚ, int, ◌≤ℚ◌, floor, ceil, rational_le, IsWhole}
use Rattle.frac128.specs.RationalOrder.{≤ℚ_trans}
use Rattle.frac128.proofs.Rounding.{≤ℚ-ceil, floor-≤ℚ}
use Rattle.frac128.proofs.Division.{min-≤ℚ, ≤ℚ-max}
use Rattle.frac128.proofs.Integers.{IsWhole-int}
use Rattle.lp_model.specs.Program.{Program, Point, coordinate, lower, upper, is_integer, AtLeast, AtMost, Within}
use Rattle.lp_model.specs.Lawful.{IsLawful, IsLawfulColumn}
use Rattle.lp_model.specs.Regions.{Path, IsOnSide, InRegion, NamesColumns, low_after, high_after, low_along, high_along}
use Rattle.lp_model.specs.declared.types.Side.{Side}
use Rattle.lp_model.specs.declared.types.Side.TheVariants.{Lo, Hi}
use Rattle.lp_model.proofs.ElementLemmas.{element, of_element-get}
use Rattle.model_points.specs.Laws.{IsWithinRegion}

-- ---- back to the bounds before the changes

low_after-from : (s : Side) (b : Option ℚ) (u v : ℚ) → AtLeast (low_after s b u) v → AtLeast b v
low_after-from Lo None u v h = tt
low_after-from Lo (Some l) u v h = ≤ℚ_trans ((≤ℚ-max l u).0) h
low_after-from Hi b u v h = h

high_after-from : (s : Side) (b : Option ℚ) (u v : ℚ) → AtMost (high_after s b u) v → AtMost b v
high_after-from Hi None u v h = tt
high_after-from Hi (Some l) u v h = ≤ℚ_trans h ((min-≤ℚ l u).0)
high_after-from Lo b u v h = h

low_along-from : (path : Path) (j : ℕ) (b : Option ℚ) (v : ℚ) → AtLeast (low_along path j b) v → AtLeast b v
low_along-from [] j b v h = h
low_along-from (c ∷ path) j b v h =
    by (nat_eq c.col.0 j) (low_along-from path j (if nat_eq c.col.0 j then low_after c.side b (int c.v) else b) v h)
  where
    by : (t : Bool) → AtLeast (if t then low_after c.side b (int c.v) else b) v → AtLeast b v
    by true k = low_after-from c.side b (int c.v) v k
    by false k = k

high_along-from : (path : Path) (j : ℕ) (b : Option ℚ) (v : ℚ) → AtMost (high_along path j b) v → AtMost b v
high_along-from [] j b v h = h
high_along-from (c ∷ path) j b v h =
    by (nat_eq c.col.0 j) (high_along-from path j (if nat_eq c.col.0 j then high_after c.side b (int c.v) else b) v h)
  where
    by : (t : Bool) → AtMost (if t then high_after c.side b (int c.v) else b) v → AtMost b v
    by true k = high_after-from c.side b (int c.v) v k
    by false k = k

rounded_low : (t : Bool) (b : Option ℚ) (v : ℚ) → AtLeast (if t then option_map (λ l. int (ceil l)) b else b) v → AtLeast b v
rounded_low false b v h = h
rounded_low true None v h = tt
rounded_low true (Some l) v h = ≤ℚ_trans (≤ℚ-ceil l) h

rounded_high : (t : Bool) (b : Option ℚ) (v : ℚ) → AtMost (if t then option_map (λ h. int (floor h)) b else b) v → AtMost b v
rounded_high false b v h = h
rounded_high true None v h = tt
rounded_high true (Some l) v h = ≤ℚ_trans h (floor-≤ℚ l)

-- ---- each change of the path is met

on_low : (b : Option ℚ) (v y : ℚ) → AtLeast (low_after Lo b v) y → v ≤ℚ y
on_low None v y h = h
on_low (Some l) v y h = ≤ℚ_trans ((≤ℚ-max l v).1) h

on_high : (b : Option ℚ) (v y : ℚ) → AtMost (high_after Hi b v) y → y ≤ℚ v
on_high None v y h = h
on_high (Some l) v y h = ≤ℚ_trans h ((min-≤ℚ l v).1)

on_side : (s : Side) (lo hi : Option ℚ) (v y : ℚ) → AtLeast (low_after s lo v) y → AtMost (high_after s hi v) y → IsOnSide s v y
on_side Lo lo hi v y low high = on_low lo v y low
on_side Hi lo hi v y low high = on_high hi v y high

same_place : (j : ℕ) → nat_eq j j ≡ true
same_place j = (Decides-eqb j j).1 refl

in_region : (M : Program) (x : Point) (path : Path) (lo hi : ℕ → Option ℚ) → NamesColumns M path
    → ((j : ℕ) → j < length M.cols → AtLeast (low_along path j (lo j)) (coordinate x j)) → ((j : ℕ) → j < length M.cols → AtMost (high_along path j (hi j)) (coordinate x j)) → InRegion path x
in_region M x [] lo hi names low high = tt
in_region M x (c ∷ path) lo hi names low high = (
  record {
    holds = on_side c.side (lo c.col.0) (hi c.col.0) (int c.v) (coordinate x c.col.0)
        (subst (λ t. AtLeast (if t then low_after c.side (lo c.col.0) (int c.v) else lo c.col.0) (coordinate x c.col.0)) (same_place c.col.0)
        (low_along-from path c.col.0 (if nat_eq c.col.0 c.col.0 then low_after c.side (lo c.col.0) (int c.v) else lo c.col.0) (coordinate x c.col.0) (low c.col.0 names.0)))
        (subst (λ t. AtMost (if t then high_after c.side (hi c.col.0) (int c.v) else hi c.col.0) (coordinate x c.col.0)) (same_place c.col.0)
        (high_along-from path c.col.0 (if nat_eq c.col.0 c.col.0 then high_after c.side (hi c.col.0) (int c.v) else hi c.col.0) (coordinate x c.col.0) (high c.col.0 names.0)));
  },
  in_region M x path (λ k. if nat_eq c.col.0 k then low_after c.side (lo k) (int c.v) else lo k) (λ k. if nat_eq c.col.0 k then high_after c.side (hi k) (int c.v) else hi k) names.1 low high,
)

-- ---- both

abbrev first_bound_low : Program → ℕ → Option ℚ
first_bound_low M j = if is_integer M j then option_map (λ l. int (ceil l)) (lower M j) else lower M j

abbrev first_bound_high : Program → ℕ → Option ℚ
first_bound_high M j = if is_integer M j then option_map (λ h. int (floor h)) (upper M j) else upper M j

module _ (M : Program) (path : Path) (x : Point) (within : IsWithinRegion M path x) where
  pub within_bounds : (j : ℕ) → j < length M.cols → Within (lower M j) (upper M j) (coordinate x j)
  within_bounds j below = record {
    low = rounded_low (is_integer M j) (lower M j) (coordinate x j) (low_along-from path j (first_bound_low M j) (coordinate x j) (within.low j below));
    high = rounded_high (is_integer M j) (upper M j) (coordinate x j) (high_along-from path j (first_bound_high M j) (coordinate x j) (within.high j below));
  }

  pub inside : NamesColumns M path → InRegion path x
  inside names = in_region M x path (first_bound_low M) (first_bound_high M) names within.low within.high

-- ---- bounds that are there and whole

-- those of an integer column are there
pub integer_bounded : (M : Program) → IsLawful M → (j : ℕ) → j < length M.cols → IsTrue (is_integer M j) → IsSome (lower M j) × IsSome (upper M j)
integer_bounded M lawful j within integer =
    let el = element M.cols j within in
    let column : IsLawfulColumn (length M.rows) el.0 = subst (IsLawfulColumn (length M.rows)) (sym el.1) (lawful.columns j el.0 within) in
    let sides = column.bounded (sym (of_element-get false (λ c. c.int) M.cols j el.0 within el.1) ∙ integer) in (
      subst IsSome (sym (of_element-get None (λ c. c.lo) M.cols j el.0 within el.1)) sides.0,
      subst IsSome (sym (of_element-get None (λ c. c.up) M.cols j el.0 within el.1)) sides.1,
    )

abbrev pub IsWholeBound : Option ℚ → Type 0
IsWholeBound None = ⊥
IsWholeBound (Some q) = IsWhole q

low_after-whole : (s : Side) (b : Option ℚ) (v : ℤ) → IsWholeBound b → IsWholeBound (low_after s b (int v))
low_after-whole Lo None v h = absurd h
low_after-whole Lo (Some l) v h = elim (rational_le l (int v)) as (λ t. IsWhole (if t then int v else l)) [ true ↦ IsWhole-int v | false ↦ h ]
low_after-whole Hi b v h = h

high_after-whole : (s : Side) (b : Option ℚ) (v : ℤ) → IsWholeBound b → IsWholeBound (high_after s b (int v))
high_after-whole Hi None v h = absurd h
high_after-whole Hi (Some l) v h = elim (rational_le l (int v)) as (λ t. IsWhole (if t then l else int v)) [ true ↦ h | false ↦ IsWhole-int v ]
high_after-whole Lo b v h = h

pub low_along-whole : (path : Path) (j : ℕ) (b : Option ℚ) → IsWholeBound b → IsWholeBound (low_along path j b)
low_along-whole [] j b h = h
low_along-whole (c ∷ path) j b h =
    low_along-whole path j (if nat_eq c.col.0 j then low_after c.side b (int c.v) else b)
    (elim (nat_eq c.col.0 j) as (λ t. IsWholeBound (if t then low_after c.side b (int c.v) else b)) [ true ↦ low_after-whole c.side b c.v h | false ↦ h ])

pub high_along-whole : (path : Path) (j : ℕ) (b : Option ℚ) → IsWholeBound b → IsWholeBound (high_along path j b)
high_along-whole [] j b h = h
high_along-whole (c ∷ path) j b h =
    high_along-whole path j (if nat_eq c.col.0 j then high_after c.side b (int c.v) else b)
    (elim (nat_eq c.col.0 j) as (λ t. IsWholeBound (if t then high_after c.side b (int c.v) else b)) [ true ↦ high_after-whole c.side b c.v h | false ↦ h ])

pub first_low : (t : Bool) (b : Option ℚ) → IsTrue t → IsSome b → IsWholeBound (if t then option_map (λ l. int (ceil l)) b else b)
first_low false b t s = absurd (false≢true t)
first_low true None t s = absurd (false≢true s)
first_low true (Some l) t s = IsWhole-int (ceil l)

pub first_high : (t : Bool) (b : Option ℚ) → IsTrue t → IsSome b → IsWholeBound (if t then option_map (λ l. int (floor l)) b else b)
first_high false b t s = absurd (false≢true t)
first_high true None t s = absurd (false≢true s)
first_high true (Some l) t s = IsWhole-int (floor l)
