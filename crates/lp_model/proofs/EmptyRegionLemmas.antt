-- A region without a number for some column: one whose own bounds cross, or one that the path names. And whole numbers are their ceilings.
use Rattle.std.specs.Prelude.{◌≡◌, ◌⊎◌, ℕ, zero, suc, ◌+◌, ◌<◌, ◌≤◌, ℤ, ◌≤ℤ◌, Bool, true, false, if◌then◌else◌, nat_eq, [], ◌∷◌, length, get_or, drop, Option, Some, None}
use Rattle.std.proofs.Common.{inl, inr, refl, sym, subst, ap, ◌∙◌, arith}
use Rattle.std.proofs.lemmas.Bool.{eqb-true}
use Rattle.std.proofs.lemmas.List.{drop_more}
use Rattle.std.proofs.lemmas.Int.{ints}
use Rattle.frac128.specs.Rational.{ℚ, int, ◌≤ℚ◌, ◌<ℚ◌, floor, ceil, IsWhole}
use Rattle.frac128.specs.RationalOrder.{≤ℚ_refl, <ℚ-≤ℚ_trans, ≤ℚ-<ℚ_trans}
use Rattle.frac128.proofs.Division.{min-≤ℚ, ≤ℚ-max}
use Rattle.frac128.proofs.Rounding.{≤ℚ-int, ≤ℚ-ceil, int-floor}
use Rattle.frac128.proofs.Integers.{int-≤ℚ-int}
use Rattle.lp_model.specs.Program.{Program}
use Rattle.lp_model.specs.Regions.{Path, low_after, high_after, low_along, high_along, region_low, region_high, IsCrossed, IsEmptyRegion}
use Rattle.lp_model.specs.declared.types.Side.{Side}
use Rattle.lp_model.specs.declared.types.Side.TheVariants.{Lo, Hi}
use Rattle.lp_model.specs.declared.types.BoundChange.{BoundChange}
use Rattle.lp_model.specs.private.EmptyRegions.{IsNamed, IsEmptyWhereNamed}

pub int-ceil : (x : ℚ) → IsWhole x → int (ceil x) ≡ x
int-ceil x w =
    let is : int (floor x) ≡ x = int-floor x w in
    let below : ceil x ≤ℤ floor x = (≤ℚ-int x (floor x)).0 (subst (λ z. x ≤ℚ z) (sym is) (≤ℚ_refl x)) in
    let above : floor x ≤ℤ ceil x = (int-≤ℚ-int (floor x) (ceil x)).0 (subst (λ z. z ≤ℚ int (ceil x)) (sym is) (≤ℚ-ceil x)) in
    let same : ceil x ≡ floor x = omega (arith, ints) in
    ap int same ∙ is

-- ---- a path's changes, one by one

pub named-next : (path : Path) (k : ℕ) (d : BoundChange) → k < length path → (j : ℕ) → ((get_or path k d).col.0 ≡ j → ⊥) → IsNamed j (drop k path) → IsNamed j (drop (k + 1) path)
named-next path k d within j apart h = by (subst (IsNamed j) (drop_more path k d within) h)
  where
    by : ((get_or path k d).col.0 ≡ j) ⊎ IsNamed j (drop (k + 1) path) → IsNamed j (drop (k + 1) path)
    by (inl here) = absurd (apart here)
    by (inr later) = later

pub named-here : (path : Path) (k : ℕ) (d : BoundChange) → k < length path → IsNamed (get_or path k d).col.0 path
named-here [] k d within = absurd (omega arith)
named-here (c ∷ path) zero d within = inl refl
named-here (c ∷ path) (suc k) d within = inr (named-here path k d (omega arith))

pub named-end : (path : Path) (k : ℕ) → length path ≤ k → (j : ℕ) → IsNamed j (drop k path) → ⊥
named-end [] zero over j h = h
named-end [] (suc k) over j h = h
named-end (d ∷ path) zero over j h = absurd (omega arith)
named-end (d ∷ path) (suc k) over j h = named-end path k (omega arith) j h

-- bounds that cross go on crossing
after_crossed : (s : Side) (b d : Option ℚ) (v : ℚ) → IsCrossed b d → IsCrossed (low_after s b v) (high_after s d v)
after_crossed s None d v h = absurd h
after_crossed s (Some l) None v h = absurd h
after_crossed Lo (Some l) (Some u) v h = <ℚ-≤ℚ_trans h (≤ℚ-max l v).0
after_crossed Hi (Some l) (Some u) v h = ≤ℚ-<ℚ_trans (min-≤ℚ u v).0 h

along_crossed : (path : Path) (j : ℕ) (b d : Option ℚ) → IsCrossed b d → IsCrossed (low_along path j b) (high_along path j d)
along_crossed [] j b d h = h
along_crossed (c ∷ path) j b d h = by (nat_eq c.col.0 j) (λ b d. along_crossed path j b d)
  where
    by : (t : Bool) → ((b d : Option ℚ) → IsCrossed b d → IsCrossed (low_along path j b) (high_along path j d))
        → IsCrossed (low_along path j (if t then low_after c.side b (int c.v) else b)) (high_along path j (if t then high_after c.side d (int c.v) else d))
    by true rest = rest (low_after c.side b (int c.v)) (high_after c.side d (int c.v)) (after_crossed c.side b d (int c.v) h)
    by false rest = rest b d h

-- a column that the path does not name keeps its bounds
record IsLeft (path : Path) (j : ℕ) : Type 0 where
  low : (b : Option ℚ) → low_along path j b ≡ b
  high : (b : Option ℚ) → high_along path j b ≡ b

named_or_left : (path : Path) (j : ℕ) → IsNamed j path ⊎ IsLeft path j
named_or_left [] j = inr (record { low = λ b. refl; high = λ b. refl })
named_or_left (c ∷ path) j = by (nat_eq c.col.0 j) refl (named_or_left path j)
  where
    by : (t : Bool) → nat_eq c.col.0 j ≡ t → IsNamed j path ⊎ IsLeft path j → IsNamed j (c ∷ path) ⊎ IsLeft (c ∷ path) j
    by true e rest = inl (inl (eqb-true c.col.0 j e))
    by false e (inl named) = inl (inr named)
    by false e (inr left) = inr (record {
      low = λ b. ap (λ t. low_along path j (if t then low_after c.side b (int c.v) else b)) e ∙ left.low b;
      high = λ b. ap (λ t. high_along path j (if t then high_after c.side b (int c.v) else b)) e ∙ left.high b;
    })

module _ (M : Program) (path : Path) where
  -- where a column's own bounds cross they cross in each region
  pub empty-own : IsEmptyRegion M [] → IsEmptyRegion M path
  empty-own (j, (below, crossed)) = (j, (below, along_crossed path j (region_low M [] j) (region_high M [] j) crossed))

  pub empty-named : IsEmptyWhereNamed M path → IsEmptyRegion M path
  empty-named (j, (named, empty)) = (j, (empty.below, empty.crossed))

  pub empty-split : IsEmptyRegion M path → IsEmptyRegion M [] ⊎ IsEmptyWhereNamed M path
  empty-split (j, (below, crossed)) = by (named_or_left path j)
    where
      by : IsNamed j path ⊎ IsLeft path j → IsEmptyRegion M [] ⊎ IsEmptyWhereNamed M path
      by (inl named) = inr (j, (named, record { below = below; crossed = crossed }))
      by (inr left) = inl (j, (below, subst (λ d. IsCrossed (region_low M [] j) d) (left.high (region_high M [] j)) (subst (λ b. IsCrossed b (region_high M path j)) (left.low (region_low M [] j)) crossed)))
