-- The signs of sides.
use Rattle.std.specs.Prelude.{◌≡◌, ◌≢◌, [], pos}
use Rattle.std.proofs.Common.{refl, ap, subst, ◌∙◌}
use Rattle.frac128.specs.Rational.{int, ◌*ℚ◌, ◌<ℚ◌}
use Rattle.frac128.specs.RationalRing.{ring, reads_ℚ}
use Rattle.frac128.specs.RationalOrder.{zero-<ℚ-one, <ℚ_irrefl}
use Rattle.table_entries.specs.declared.stand.Stand.{Stand}
use Rattle.table_entries.specs.declared.stand.Stand.TheVariants.{Low, High, Free}
use Rattle.table_entries.specs.States.{sign}

pub low_some : sign Low ≢ int (pos 0)
low_some e = <ℚ_irrefl (subst (λ t. int (pos 0) <ℚ t) e zero-<ℚ-one)

pub high_some : sign High ≢ int (pos 0)
high_some e = <ℚ_irrefl (subst (λ t. int (pos 0) <ℚ t) (ring [] {y = sign High *ℚ sign High} (search reads_ℚ depth 9) tt ∙ ap (λ t. t *ℚ sign High) e ∙ ring [] (search reads_ℚ depth 9) tt) zero-<ℚ-one)

pub sign_some : (stand : Stand) → ¬ (stand ≡ Free) → sign stand ≢ int (pos 0)
sign_some Low some e = low_some e
sign_some High some e = high_some e
sign_some Free some e = some refl

pub low_not_free : ¬ (Low ≡ Free)
low_not_free e = low_some (ap sign e)

pub high_not_free : ¬ (High ≡ Free)
high_not_free e = high_some (ap sign e)
