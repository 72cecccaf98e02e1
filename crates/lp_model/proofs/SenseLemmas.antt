-- A number of an objective in least form, and back in the objective's own sense.
use Rattle.std.proofs.Common.{◌≡◌, [], ◌∷◌, refl}
use Rattle.frac128.specs.Rational.{ℚ}
use Rattle.frac128.specs.RationalRing.{ring, reads_ℚ}
use Rattle.lp_model.specs.Program.{in_least_form, in_own_sense}
use Rattle.lp_model.specs.declared.types.Sense.{Sense}
use Rattle.lp_model.specs.declared.types.Sense.TheVariants.{Min, Max}

pub own-least : (s : Sense) (v : ℚ) → in_own_sense s (in_least_form s v) ≡ v
own-least Min v = refl
own-least Max v = ring (v ∷ []) (search reads_ℚ) tt
