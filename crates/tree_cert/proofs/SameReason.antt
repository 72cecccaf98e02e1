-- Why a leaf is closed depends on its region by the bounds alone: two lists of changes that leave the same bounds of each column
-- have the same reasons.
use Rattle.std.specs.Prelude.{ℕ, [], ◌∷◌, Ok}
use Rattle.lp_model.specs.Regions.{Path}
use Rattle.lp_model.specs.Formulations.{Formulation}
use Rattle.tight_regions.specs.SameBounds.{SameBounds}
use Rattle.leaf_dual.proofs.SameRegion.{other_way, empty-same, farkas-same}
use Rattle.leaf_dual.specs.Dual.{Multipliers}
use Rattle.leaf_judging.specs.Closing.{IsRefuted}
use Rattle.branch_tree.specs.declared.node.LeafData.{LeafData}
use Rattle.cert_text.specs.declared.cert.CertNode.{CertNode}
use Rattle.cert_text.specs.declared.cert.CertNode.TheVariants as node
use Rattle.tree_cert.specs.Certificates.{IsReason}

refuted-same : (F : Formulation) (R P : Path) → SameBounds R P → (farkas : Multipliers) → IsRefuted F R farkas → IsRefuted F P farkas
refuted-same F R P s [] r = r
refuted-same F R P s (m ∷ ms) (v, (answer, positive)) = (v, (farkas-same F R P s (m ∷ ms) (Ok v) answer, positive))

module _ (F : Formulation) (number : ℕ → ℕ) (R P : Path) (s : SameBounds R P) (kept : LeafData) where
  pub reason-same : (n : CertNode) → IsReason F number R kept n → IsReason F number P kept n
  reason-same node.Empty empty = empty-same F.model R P s empty
  reason-same (node.Farkas mults) (not, (refuted, are)) = ((λ empty. not (empty-same F.model P R (other_way R P s) empty)), (refuted-same F R P s kept.farkas refuted, are))
  reason-same (node.Bound mults) (not, (other, are)) = (
    (λ empty. not (empty-same F.model P R (other_way R P s) empty)),
    ((λ refuted. other (refuted-same F P R (other_way R P s) kept.farkas refuted)), are),
  )
  reason-same (node.Split name w) r = absurd r
