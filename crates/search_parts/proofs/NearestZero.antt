-- The number that a point gets for a new column: it is allowed where any is, and none that is allowed is nearer to 0.
use Rattle.std.specs.Prelude.{◌≡◌, Bool, true, false, if◌then◌else◌, not, IsTrue, pos, Option, Some, None}
use Rattle.std.proofs.Common.{refl, sym, ap, subst}
use Rattle.frac128.specs.Rational.{ℚ, int, ◌≤ℚ◌, ◌<ℚ◌, floor, ceil, rational_le, IsWhole}
use Rattle.frac128.specs.RationalOrder.{≤ℚ_refl, ≤ℚ_trans, ≤ℚ_of_<ℚ, <ℚ_from_not, <ℚ_irrefl, <ℚ-≤ℚ_trans, not_both_ℚ}
use Rattle.frac128.proofs.Rounding.{int-≤ℚ, ≤ℚ-int, int-floor, floor-≤ℚ, ≤ℚ-ceil}
use Rattle.frac128.proofs.Integers.{int-≤ℚ-int, IsWhole-int}
use Rattle.frac128.proofs.Comparison.{rational_le-decides}
use Rattle.lp_model.specs.Program.{AtLeast, AtMost, IsAllowed}
use Rattle.search_parts.specs.EditedPoints.{low_allowed, high_allowed, raised, lowered, holds_none, nearest_zero}
use Rattle.search_parts.specs.Nearest.{IsNearestZero, NearestLaw}

le_not : (x y : ℚ) → rational_le x y ≡ false → y <ℚ x
le_not x y e = <ℚ_from_not y x (λ h. let t : rational_le x y ≡ true = (rational_le-decides x y).1 h in cc)

-- ---- bounds, for an integer column the whole numbers next to them

low_holds : (integer : Bool) (lo : Option ℚ) (w : ℚ) → (IsTrue integer → IsWhole w) → AtLeast lo w → AtLeast (low_allowed integer lo) w
low_holds false lo w whole h = h
low_holds true None w whole h = tt
low_holds true (Some l) w whole h =
    let k : l ≤ℚ int (floor w) = subst (λ z. l ≤ℚ z) (sym (int-floor w (whole refl))) h in
    subst (λ z. int (ceil l) ≤ℚ z) (int-floor w (whole refl)) ((int-≤ℚ-int (ceil l) (floor w)).1 ((≤ℚ-int l (floor w)).0 k))

high_holds : (integer : Bool) (up : Option ℚ) (w : ℚ) → (IsTrue integer → IsWhole w) → AtMost up w → AtMost (high_allowed integer up) w
high_holds false up w whole h = h
high_holds true None w whole h = tt
high_holds true (Some u) w whole h =
    let k : int (floor w) ≤ℚ u = subst (λ z. z ≤ℚ u) (sym (int-floor w (whole refl))) h in
    subst (λ z. z ≤ℚ int (floor u)) (int-floor w (whole refl)) ((int-≤ℚ-int (floor w) (floor u)).1 ((int-≤ℚ (floor w) u).0 k))

low_back : (integer : Bool) (lo : Option ℚ) (v : ℚ) → AtLeast (low_allowed integer lo) v → AtLeast lo v
low_back false lo v h = h
low_back true None v h = tt
low_back true (Some l) v h = ≤ℚ_trans (≤ℚ-ceil l) h

high_back : (integer : Bool) (up : Option ℚ) (v : ℚ) → AtMost (high_allowed integer up) v → AtMost up v
high_back false up v h = h
high_back true None v h = tt
high_back true (Some u) v h = ≤ℚ_trans h (floor-≤ℚ u)

-- ---- 0, raised and lowered

raised_from : (low : Option ℚ) → int (pos 0) ≤ℚ raised low (int (pos 0))
raised_from None = ≤ℚ_refl (int (pos 0))
raised_from (Some l) = by (rational_le (int (pos 0)) l) refl
  where
    by : (b : Bool) → rational_le (int (pos 0)) l ≡ b → int (pos 0) ≤ℚ (if b then l else int (pos 0))
    by true e = (rational_le-decides (int (pos 0)) l).0 e
    by false e = ≤ℚ_refl (int (pos 0))

raised_low : (low : Option ℚ) → AtLeast low (raised low (int (pos 0)))
raised_low None = tt
raised_low (Some l) = by (rational_le (int (pos 0)) l) refl
  where
    by : (b : Bool) → rational_le (int (pos 0)) l ≡ b → l ≤ℚ (if b then l else int (pos 0))
    by true e = ≤ℚ_refl l
    by false e = ≤ℚ_of_<ℚ (le_not (int (pos 0)) l e)

raised_least : (low : Option ℚ) (u : ℚ) → int (pos 0) <ℚ raised low (int (pos 0)) → AtLeast low u → raised low (int (pos 0)) ≤ℚ u
raised_least None u some h = <ℚ_irrefl some
raised_least (Some l) u some h = by (rational_le (int (pos 0)) l) some h
  where
    by : (b : Bool) → int (pos 0) <ℚ (if b then l else int (pos 0)) → l ≤ℚ u → (if b then l else int (pos 0)) ≤ℚ u
    by true some h = h
    by false some h = <ℚ_irrefl some

lowered_from : (high : Option ℚ) (r : ℚ) → lowered high r ≤ℚ r
lowered_from None r = ≤ℚ_refl r
lowered_from (Some h) r = by (rational_le r h) refl
  where
    by : (b : Bool) → rational_le r h ≡ b → (if b then r else h) ≤ℚ r
    by true e = ≤ℚ_refl r
    by false e = ≤ℚ_of_<ℚ (le_not r h e)

lowered_high : (high : Option ℚ) (r : ℚ) → AtMost high (lowered high r)
lowered_high None r = tt
lowered_high (Some h) r = by (rational_le r h) refl
  where
    by : (b : Bool) → rational_le r h ≡ b → (if b then r else h) ≤ℚ h
    by true e = (rational_le-decides r h).0 e
    by false e = ≤ℚ_refl h

-- what holds of r and of the bound
lowered_is : (P : ℚ → Type 0) (high : Option ℚ) (r w : ℚ) → P r → ((h : ℚ) → w ≤ℚ h → high ≡ Some h → P h) → AtMost high w → P (lowered high r)
lowered_is P None r w at bound below = at
lowered_is P (Some h) r w at bound below = elim (rational_le r h) as (λ b. P (if b then r else h)) [ true ↦ at | false ↦ bound h below refl ]

lowered_most : (high : Option ℚ) (r u : ℚ) → int (pos 0) ≤ℚ r → lowered high r <ℚ int (pos 0) → AtMost high u → u ≤ℚ lowered high r
lowered_most None r u from some h = not_both_ℚ from some
lowered_most (Some k) r u from some h = by (rational_le r k) some h
  where
    by : (b : Bool) → (if b then r else k) <ℚ int (pos 0) → u ≤ℚ k → u ≤ℚ (if b then r else k)
    by true some h = not_both_ℚ from some
    by false some h = h

at_least-more : (low : Option ℚ) (w h : ℚ) → AtLeast low w → w ≤ℚ h → AtLeast low h
at_least-more None w h k m = tt
at_least-more (Some l) w h k m = ≤ℚ_trans k m

whole_low : (lo : Option ℚ) → IsWhole (raised (low_allowed true lo) (int (pos 0)))
whole_low None = IsWhole-int (pos 0)
whole_low (Some l) = elim (rational_le (int (pos 0)) (int (ceil l))) as (λ b. IsWhole (if b then int (ceil l) else int (pos 0))) [ true ↦ IsWhole-int (ceil l) | false ↦ IsWhole-int (pos 0) ]

whole_bound : (up : Option ℚ) (h : ℚ) → high_allowed true up ≡ Some h → IsWhole h
whole_bound None h e = cc
whole_bound (Some u) h e = let s : int (floor u) ≡ h = cc in subst IsWhole s (IsWhole-int (floor u))

abbrev between : Bool → Option ℚ → Option ℚ → ℚ
between integer lo up = lowered (high_allowed integer up) (raised (low_allowed integer lo) (int (pos 0)))

some_between : (low high : Option ℚ) (w : ℚ) → AtLeast low w → AtMost high w → holds_none low high ≡ false
some_between None high w from to = refl
some_between (Some l) None w from to = refl
some_between (Some l) (Some h) w from to = let t : rational_le l h ≡ true = (rational_le-decides l h).1 (≤ℚ_trans from to) in ap not t

whole_between : (integer : Bool) (lo up : Option ℚ) (w : ℚ) → AtMost (high_allowed integer up) w → IsTrue integer → IsWhole (between integer lo up)
whole_between false lo up w h t = cc
whole_between true lo up w h t = lowered_is IsWhole (high_allowed true up) (raised (low_allowed true lo) (int (pos 0))) w (whole_low lo) (λ k m e. whole_bound up k e) h

nearest_between : (integer : Bool) (lo up : Option ℚ) (w : ℚ) → IsAllowed integer lo up w → IsNearestZero integer lo up (between integer lo up)
nearest_between integer lo up w allowed =
    let low = low_allowed integer lo in
    let high = high_allowed integer up in
    let r = raised low (int (pos 0)) in
    let v = between integer lo up in
    let from : AtLeast low w = low_holds integer lo w allowed.whole allowed.bounds.low in
    let to : AtMost high w = high_holds integer up w allowed.whole allowed.bounds.high in
    record {
      allowed = record {
        bounds = record {
          low = low_back integer lo v (lowered_is (AtLeast low) high r w (raised_low low) (λ h m e. at_least-more low w h from m) to);
          high = high_back integer up v (lowered_high high r);
        };
        whole = whole_between integer lo up w to;
      };
      above = λ u a some. ≤ℚ_trans (lowered_from high r) (raised_least low u (<ℚ-≤ℚ_trans some (lowered_from high r)) (low_holds integer lo u a.whole a.bounds.low));
      below = λ u a some. lowered_most high r u (raised_from low) some (high_holds integer up u a.whole a.bounds.high);
    }

pub nearest : NearestLaw
nearest integer lo up w allowed =
    let low = low_allowed integer lo in
    let high = high_allowed integer up in
    let from : AtLeast low w = low_holds integer lo w allowed.whole allowed.bounds.low in
    let to : AtMost high w = high_holds integer up w allowed.whole allowed.bounds.high in
    let is : nearest_zero integer lo up ≡ between integer lo up = ap (λ (b : Bool). if b then int (pos 0) else between integer lo up) (some_between low high w from to) in
    subst (IsNearestZero integer lo up) (sym is) (nearest_between integer lo up w allowed)
