-- A number that is added again and again passes no side, by its sign.
use Rattle.std.specs.Prelude.{◌≡◌, ◌≢◌, ◌↔◌, Bool, false, true, not, pos, Option, Some, None, IsTrue, is_some, is_none}
use Rattle.std.proofs.Common.{refl, sym, ap}
use Rattle.std.proofs.lemmas.Bool.{false≢true}
use Rattle.frac128.specs.Rational.{ℚ, int, ◌<ℚ◌}
use Rattle.frac128.specs.RationalOrder.{≤ℚ_of_<ℚ, ≤ℚ_from_not, not_both_ℚ}
use Rattle.model_points.specs.Rays.{GoesOn}

some_side : (v : ℚ) → Some v ≢ None
some_side v e = false≢true (ap (λ o. is_none o) e)

pub goes-negative : (low high : Option ℚ) (x : ℚ) (free : Bool) → is_some low ≡ not free → x <ℚ int (pos 0) → IsTrue free ↔ GoesOn low high x
goes-negative None high x true e h = ((λ t. record { above = λ some. absurd (some refl); below = λ some. ≤ℚ_of_<ℚ h }), (λ g. refl))
goes-negative None high x false e h = absurd (false≢true e)
goes-negative (Some l) high x true e h = absurd (false≢true (sym e))
goes-negative (Some l) high x false e h = ((λ t. absurd (false≢true t)), (λ g. not_both_ℚ (g.above (some_side l)) h))

pub goes-positive : (low high : Option ℚ) (x : ℚ) (free : Bool) → is_some high ≡ not free → int (pos 0) <ℚ x → IsTrue free ↔ GoesOn low high x
goes-positive low None x true e h = ((λ t. record { above = λ some. ≤ℚ_of_<ℚ h; below = λ some. absurd (some refl) }), (λ g. refl))
goes-positive low None x false e h = absurd (false≢true e)
goes-positive low (Some l) x true e h = absurd (false≢true (sym e))
goes-positive low (Some l) x false e h = ((λ t. absurd (false≢true t)), (λ g. not_both_ℚ (g.below (some_side l)) h))

pub goes-zero : (low high : Option ℚ) (x : ℚ) → ¬ (x <ℚ int (pos 0)) → ¬ (int (pos 0) <ℚ x) → IsTrue true ↔ GoesOn low high x
goes-zero low high x h k = ((λ t. record { above = λ some. ≤ℚ_from_not (int (pos 0)) x h; below = λ some. ≤ℚ_from_not x (int (pos 0)) k }), (λ g. refl))
