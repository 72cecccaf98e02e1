-- A leaf's entry from the parts that are computed of it.
use Rattle.std.specs.Prelude.{[], ◌∷◌}
use Rattle.std.proofs.Common.{inl, inr}
use Rattle.lp_model.specs.Regions.{Path, IsEmptyRegion}
use Rattle.lp_model.specs.Formulations.{Formulation}
use Rattle.leaf_dual.specs.Dual.{Multipliers}
use Rattle.leaf_totals.specs.declared.keeping.LeafTotals.{LeafTotals}
use Rattle.leaf_judging.specs.declared.closing.LeafNumber.{LeafNumber}
use Rattle.leaf_judging.specs.declared.closing.LeafNumber.TheVariants.{Empty, Lag, Wide}
use Rattle.leaf_judging.specs.Closing.{IsRefuted, IsSetAside, IsNumber}
use Rattle.leaf_judging.specs.Totals.{AreFarkasTotals}
use Rattle.leaf_judging.specs.private.Entries.{HasRefuted, IsLagNumber}

module _ (F : Formulation) (path : Path) (mult farkas : Multipliers) where
  pub number-is : (n : LeafNumber) → (¬ IsSetAside F path farkas) → IsLagNumber F path mult n → IsNumber F path mult farkas n
  number-is Empty not is = absurd is
  number-is (Lag v) not is = (not, is)
  number-is (Wide step) not is = (not, is)

  pub none-aside : (¬ IsEmptyRegion F.model path) → (¬ IsRefuted F path farkas) → ¬ IsSetAside F path farkas
  none-aside empty refuted (inl e) = empty e
  none-aside empty refuted (inr r) = refuted r

pub refuting-is : (F : Formulation) (path : Path) (farkas : Multipliers) (t : LeafTotals) → HasRefuted F path farkas t → AreFarkasTotals F path farkas t
refuting-is F path [] t h = h
refuting-is F path (m ∷ ms) t h = (h.0, λ some. h.1)
