-- A path that changes only columns with a bound leaves the others free.
use Rattle.std.specs.Prelude.{◌≡◌, ℕ, Bool, true, false, if◌then◌else◌, nat_eq, [], ◌∷◌, Option, None}
use Rattle.std.specs.Option.{option_map}
use Rattle.std.proofs.Common.{refl, ap, ◌∙◌}
use Rattle.std.proofs.lemmas.Bool.Decides.{Decides-eqb}
use Rattle.frac128.specs.Rational.{ℚ, int, ceil, floor}
use Rattle.lp_model.specs.Program.{Program, lower, upper, is_integer}
use Rattle.lp_model.specs.Regions.{Path, low_along, high_along, low_after, high_after}
use Rattle.row_tableau.specs.Tilts.{KeepsFree}
use Rattle.dual_simplex.specs.Laws.{ChangesBounded}

module _ (M : Program) (j : ℕ) (no_low : lower M j ≡ None) (no_high : upper M j ≡ None) where
  none_along : (path : Path) → ChangesBounded M path → (low_along path j None ≡ None) × (high_along path j None ≡ None)
  none_along [] h = (refl, refl)
  none_along (c ∷ path) h = go (nat_eq c.col.0 j) refl (none_along path h.1)
    where
      go : (b : Bool) → nat_eq c.col.0 j ≡ b → (low_along path j None ≡ None) × (high_along path j None ≡ None)
          → (low_along path j (if nat_eq c.col.0 j then low_after c.side None (int c.v) else None) ≡ None) × (high_along path j (if nat_eq c.col.0 j then high_after c.side None (int c.v) else None) ≡ None)
      go true e rest = let same : c.col.0 ≡ j = (Decides-eqb c.col.0 j).0 e in absurd (h.0 (ap (lower M) same ∙ no_low, ap (upper M) same ∙ no_high))
      go false e rest = (
        ap (λ b. low_along path j (if b then low_after c.side None (int c.v) else None)) e ∙ rest.0,
        ap (λ b. high_along path j (if b then high_after c.side None (int c.v) else None)) e ∙ rest.1,
      )

  none_first : (b : Bool) (f : ℚ → ℚ) (o : Option ℚ) → o ≡ None → (if b then option_map f o else o) ≡ None
  none_first true f o e = ap (option_map f) e
  none_first false f o e = e

  none_in_region : (path : Path) → ChangesBounded M path
      → (low_along path j (if is_integer M j then option_map (λ l. int (ceil l)) (lower M j) else lower M j) ≡ None) × (high_along path j (if is_integer M j then option_map (λ l. int (floor l)) (upper M j) else upper M j) ≡ None)
  none_in_region path h =
      let rest = none_along path h in (
        ap (low_along path j) (none_first (is_integer M j) (λ l. int (ceil l)) (lower M j) no_low) ∙ rest.0,
        ap (high_along path j) (none_first (is_integer M j) (λ l. int (floor l)) (upper M j) no_high) ∙ rest.1,
      )

pub keeps_free : (M : Program) (path : Path) → ChangesBounded M path → KeepsFree M path
keeps_free M path h j w no_low no_high = none_in_region M j no_low no_high path h
