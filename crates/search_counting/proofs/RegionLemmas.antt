-- The bounds of an integer column in a region of a lawful model are there and whole.
use Rattle.std.specs.Prelude.{◌≡◌, ℕ, ◌<◌, if◌then◌else◌, IsTrue, IsSome, length, pos, ℤ, ◌+ℤ◌, ◌≤ℤ◌, ◌<ℤ◌}
use Rattle.std.specs.Option.{option_map}
use Rattle.std.proofs.Common.{subst, inl, inr, arith}
use Rattle.std.proofs.lemmas.Int.{ints}
use Rattle.frac128.specs.Rational.{ℚ, int, ◌≤ℚ◌, ◌<ℚ◌, floor, ceil, IsWhole}
use Rattle.frac128.specs.RationalOrder.{≤ℚ_refl, ≤ℚ_trans, not_both_ℚ}
use Rattle.frac128.proofs.Rounding.{≤ℚ-int, ≤ℚ-ceil, int-floor, floor-≤ℚ}
use Rattle.frac128.proofs.Integers.{int-≤ℚ-int, int_injective, IsWhole-int, branches}
use Rattle.lp_model.specs.Program.{Program, lower, upper, is_integer}
use Rattle.lp_model.specs.Lawful.{IsLawful}
use Rattle.lp_model.specs.Regions.{Path, region_low, region_high}
use Rattle.model_points.proofs.WithinRegionLemmas.{integer_bounded, IsWholeBound, low_along-whole, high_along-whole, first_low, first_high}

-- ---- whole numbers

pub ceil-int : (z : ℤ) → ceil (int z) ≡ z
ceil-int z =
    let low : ceil (int z) ≤ℤ z = (≤ℚ-int (int z) z).0 (≤ℚ_refl (int z)) in
    let high : z ≤ℤ ceil (int z) = (int-≤ℚ-int z (ceil (int z))).0 (≤ℚ-ceil (int z)) in
    omega (arith, ints)

pub floor-int : (z : ℤ) → floor (int z) ≡ z
floor-int z = int_injective (floor (int z)) z (int-floor (int z) (IsWhole-int z))

pub floor-less : (l h : ℚ) → IsWhole l → IsWhole h → l <ℚ h → floor l <ℤ floor h
floor-less l h u w less = elim (branches l (floor h)) [
  | inl under ↦ not_both_ℚ (subst (λ z. z ≤ℚ l) (int-floor h w) (≤ℚ_trans under (floor-≤ℚ l))) less
  | inr over ↦ let next : (floor l +ℤ pos 1) ≤ℤ floor h = (int-≤ℚ-int (floor l +ℤ pos 1) (floor h)).0 over in omega (arith, ints)
]

-- ---- bounds

module _ (M : Program) (lawful : IsLawful M) (path : Path) (j : ℕ) (within : j < length M.cols) (integer : IsTrue (is_integer M j)) where
  bounded : IsSome (lower M j) × IsSome (upper M j)
  bounded = integer_bounded M lawful j within integer

  pub region_low-whole : IsWholeBound (region_low M path j)
  region_low-whole = low_along-whole path j (if is_integer M j then option_map (λ l. int (ceil l)) (lower M j) else lower M j) (first_low (is_integer M j) (lower M j) integer bounded.0)

  pub region_high-whole : IsWholeBound (region_high M path j)
  region_high-whole = high_along-whole path j (if is_integer M j then option_map (λ h. int (floor h)) (upper M j) else upper M j) (first_high (is_integer M j) (upper M j) integer bounded.1)
