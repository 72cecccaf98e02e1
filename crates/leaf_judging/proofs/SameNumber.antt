-- A leaf's number depends on its region by the bounds alone: two lists of changes that leave the same bounds of each column
-- have the same one.
use Rattle.std.specs.Prelude.{[], ◌∷◌, Ok, Err}
use Rattle.std.proofs.Common.{inl, inr}
use Rattle.lp_model.specs.Regions.{Path}
use Rattle.lp_model.specs.Formulations.{Formulation}
use Rattle.tight_regions.specs.SameBounds.{SameBounds}
use Rattle.leaf_dual.specs.Dual.{Multipliers}
use Rattle.leaf_dual.proofs.SameRegion.{other_way, empty-same, lag-same, farkas-same}
use Rattle.leaf_judging.specs.declared.closing.LeafNumber.{LeafNumber}
use Rattle.leaf_judging.specs.declared.closing.LeafNumber.TheVariants.{Empty, Lag, Wide}
use Rattle.leaf_judging.specs.Closing.{IsRefuted, IsSetAside, IsNumber}

module _ (F : Formulation) (R P : Path) (s : SameBounds R P) where
  refuted-same : (farkas : Multipliers) → IsRefuted F R farkas → IsRefuted F P farkas
  refuted-same [] r = r
  refuted-same (m ∷ ms) (v, (answer, positive)) = (v, (farkas-same F R P s (m ∷ ms) (Ok v) answer, positive))

  aside-same : (farkas : Multipliers) → IsSetAside F R farkas → IsSetAside F P farkas
  aside-same farkas (inl empty) = inl (empty-same F.model R P s empty)
  aside-same farkas (inr refuted) = inr (refuted-same farkas refuted)

module _ (F : Formulation) (R P : Path) (s : SameBounds R P) (mult farkas : Multipliers) where
  pub number-same : (n : LeafNumber) → IsNumber F R mult farkas n → IsNumber F P mult farkas n
  number-same Empty aside = aside-same F R P s farkas aside
  number-same (Lag v) (not, answer) = ((λ aside. not (aside-same F P R (other_way R P s) farkas aside)), lag-same F R P s mult (Ok v) answer)
  number-same (Wide step) (not, answer) = ((λ aside. not (aside-same F P R (other_way R P s) farkas aside)), lag-same F R P s mult (Err step) answer)
