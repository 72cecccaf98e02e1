-- A bound that the model has is one that each region has.
use Rattle.std.specs.Prelude.{ℕ, Bool, true, false, if◌then◌else◌, nat_eq, [], ◌∷◌, Option, Some, None, IsSome}
use Rattle.std.specs.Option.{option_map}
use Rattle.std.proofs.Common.{refl}
use Rattle.frac128.specs.Rational.{ℚ, int, floor, ceil}
use Rattle.lp_model.specs.Program.{Program, lower, upper, is_integer}
use Rattle.lp_model.specs.Regions.{Path, low_after, high_after, low_along, high_along, region_low, region_high}
use Rattle.lp_model.specs.declared.types.Side.{Side}
use Rattle.lp_model.specs.declared.types.Side.TheVariants.{Lo, Hi}

low_step : (t : Bool) (s : Side) (b : Option ℚ) (v : ℚ) → IsSome b → IsSome (if t then low_after s b v else b)
low_step false s b v h = h
low_step true Lo None v h = refl
low_step true Lo (Some l) v h = refl
low_step true Hi b v h = h

high_step : (t : Bool) (s : Side) (b : Option ℚ) (v : ℚ) → IsSome b → IsSome (if t then high_after s b v else b)
high_step false s b v h = h
high_step true Lo b v h = h
high_step true Hi None v h = refl
high_step true Hi (Some l) v h = refl

low_some : (path : Path) (j : ℕ) (b : Option ℚ) → IsSome b → IsSome (low_along path j b)
low_some [] j b h = h
low_some (c ∷ path) j b h = low_some path j (if nat_eq c.col.0 j then low_after c.side b (int c.v) else b) (low_step (nat_eq c.col.0 j) c.side b (int c.v) h)

high_some : (path : Path) (j : ℕ) (b : Option ℚ) → IsSome b → IsSome (high_along path j b)
high_some [] j b h = h
high_some (c ∷ path) j b h = high_some path j (if nat_eq c.col.0 j then high_after c.side b (int c.v) else b) (high_step (nat_eq c.col.0 j) c.side b (int c.v) h)

first_some : (t : Bool) (f : ℚ → ℚ) (b : Option ℚ) → IsSome b → IsSome (if t then option_map f b else b)
first_some false f b h = h
first_some true f None h = h
first_some true f (Some x) h = refl

pub region_low-some : (M : Program) (path : Path) (j : ℕ) → IsSome (lower M j) → IsSome (region_low M path j)
region_low-some M path j h = low_some path j _ (first_some (is_integer M j) (λ l. int (ceil l)) (lower M j) h)

pub region_high-some : (M : Program) (path : Path) (j : ℕ) → IsSome (upper M j) → IsSome (region_high M path j)
region_high-some M path j h = high_some path j _ (first_some (is_integer M j) (λ l. int (floor l)) (upper M j) h)
