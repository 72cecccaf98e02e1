-- What contracts of private functions alone cite, beside specs/Walk.
use Rattle.std.specs.Prelude.{◌≡◌, Bool, true, false, ◌++◌, List, [], ◌∷◌, length, All, pos, ◌+ℤ◌}
use Rattle.frac128.specs.Range.{IsNarrow}
use Rattle.lp_model.specs.Regions.{Path, at_most}
use Rattle.lp_model.specs.Formulations.{Formulation}
use Rattle.lp_model.specs.declared.types.Side.TheVariants.{Hi}
use Rattle.lp_model.specs.declared.types.BoundChange.{BoundChange}
use Rattle.cert_text.specs.declared.cert.Claim.{Claim}
use Rattle.cert_text.specs.declared.cert.Claim.TheVariants.{Optimal, Within, Infeasible, Unbounded}
use Rattle.cert_check.specs.declared.verdict.Judgement.{Judgement}
use Rattle.cert_check.specs.declared.verdict.Judgement.TheVariants.{Breaks}
use Rattle.cert_check.specs.declared.judging.NodeWithPlaces.{NodeWithPlaces}
use Rattle.cert_check.specs.declared.judging.NodeWithPlaces.TheVariants.{Misnamed, Split, Bound, Farkas, Empty}
use Rattle.cert_text.specs.Tree.{CertTree, certificate_nodes}
use Rattle.cert_check.specs.Verdict.{IsNumberJudged, IsFarkasJudged, IsEmptyJudged, IsKindJudged}
use Rattle.cert_text.specs.Whole.{IsNarrowNode}
use Rattle.cert_check.specs.Walk.{after_leaf, AreNodesPlaced}

abbrev pub IsPlacedJudged : Formulation → Claim → Path → NodeWithPlaces → Judgement → Type 0
IsPlacedJudged F claim path Misnamed j = j ≡ Breaks 1
IsPlacedJudged F claim path (Split col v) j = IsKindJudged F.model col.0 j
IsPlacedJudged F claim path (Bound mult) j = IsNumberJudged F claim path mult j
IsPlacedJudged F claim path (Farkas mult) j = IsFarkasJudged F path mult j
IsPlacedJudged F claim path Empty j = IsEmptyJudged F.model path j

-- the side of a change that has another child behind it: its number has a successor
abbrev pub CanTurn : BoundChange → Type 0
CanTurn c = c.side ≡ Hi → IsNarrow (c.v +ℤ pos 1)

-- the path to the node behind a node
abbrev pub after_node : NodeWithPlaces → Path → Path
after_node (Split col v) path = path ++ at_most col.0 v ∷ []
after_node Misnamed path = after_leaf path
after_node (Bound mult) path = after_leaf path
after_node (Farkas mult) path = after_leaf path
after_node Empty path = after_leaf path

-- whether the claim is proved by a tree; where the model is claimed unbounded a point and a ray prove it
abbrev pub has_tree : Claim → Bool
has_tree (Optimal v) = true
has_tree (Within g v) = true
has_tree Infeasible = true
has_tree Unbounded = false

-- the places are those of a tree's nodes, and fractions have room for its splits
pub record IsWalked (F : Formulation) (tree : CertTree) (placed : List NodeWithPlaces) : Type 0 where
  pub places : AreNodesPlaced F.model (length F.cuts) (certificate_nodes tree) placed
  pub narrow : All IsNarrowNode (certificate_nodes tree)
