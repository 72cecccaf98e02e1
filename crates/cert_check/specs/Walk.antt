-- The walk through a certificate's nodes in preorder: the path to each, and the nodes with their names as places.
use Rattle.std.specs.Prelude.{◌≡◌, ℕ, ◌<◌, ◌≤◌, List, [], ◌∷◌, length, get_or, All, Contains, pos, ◌+ℤ◌, Option, MatchOption}
use Rattle.lp_model.specs.Edits.{Named, place_in}
use Rattle.lp_model.specs.Program.{Program, Point}
use Rattle.lp_model.specs.Lawful.{column_names}
use Rattle.lp_model.specs.Regions.{Path, at_least}
use Rattle.lp_model.specs.Formulations.{Formulation}
use Rattle.lp_model.specs.declared.types.Side.{Side}
use Rattle.lp_model.specs.declared.types.Side.TheVariants.{Lo, Hi}
use Rattle.lp_model.specs.declared.types.BoundChange.{BoundChange}
use Rattle.cert_text.specs.declared.cert.Claim.{Claim}
use Rattle.cert_text.specs.declared.cert.CertNode.{CertNode}
use Rattle.cert_text.specs.declared.cert.CertNode.TheVariants as node
use Rattle.cert_text.specs.declared.cert.Cert.{Cert}
use Rattle.cert_check.specs.declared.verdict.Judgement.TheVariants.{Passes, Breaks, NoRoom}
use Rattle.cert_check.specs.declared.verdict.Verdict.{Verdict}
use Rattle.cert_check.specs.declared.verdict.Verdict.TheVariants.{Accepted, Rejected, Wide}
use Rattle.cert_check.specs.declared.judging.NodeWithPlaces.{NodeWithPlaces}
use Rattle.cert_check.specs.declared.judging.NodeWithPlaces.TheVariants.{Misnamed, Split, Bound, Farkas, Empty}
use Rattle.cert_check.specs.declared.checking.RegionBuf.{RegionBuf}
use Rattle.cert_text.specs.Tree.{CertTree}
use Rattle.cert_check.specs.Mults.{AreMults, mults_of}
use Rattle.cert_check.specs.Cuts.{AreCutsFound}
use Rattle.cert_check.specs.Accepted.{AreNames, point_of}
use Rattle.cert_check.specs.Verdict.{visits, IsVisitJudged, IsJudgedAt}
use Rattle.tight_regions.specs.Tight.{IsTrail, room}

-- ---- nodes with places

-- the node with its names and the numbers of some cuts as places; Misnamed where one is unknown or stands twice
abbrev pub IsPlace : Program → ℕ → CertNode → NodeWithPlaces → Type 0
IsPlace M cuts (node.Split col v) Misnamed = ¬ Contains (column_names M) col
IsPlace M cuts (node.Split col v) (Split place w) = (place.0 < length M.cols) × (place.0 ≡ place_in (column_names M) col) × (w ≡ v)
IsPlace M cuts (node.Bound mults) Misnamed = ¬ AreMults M cuts mults
IsPlace M cuts (node.Bound mults) (Bound mult) = AreMults M cuts mults × (mult ≡ mults_of M mults)
IsPlace M cuts (node.Farkas mults) Misnamed = ¬ AreMults M cuts mults
IsPlace M cuts (node.Farkas mults) (Farkas mult) = AreMults M cuts mults × (mult ≡ mults_of M mults)
IsPlace M cuts node.Empty Empty = Unit {0}
IsPlace M cuts n placed = ⊥

-- ---- paths

abbrev pub turned_change : Side → BoundChange → Path
turned_change Hi c = at_least c.col.0 (c.v +ℤ pos 1) ∷ []
turned_change Lo c = []

abbrev pub in_front : BoundChange → Path → Path
in_front c [] = turned_change c.side c
in_front c (d ∷ path) = c ∷ d ∷ path

-- the path to the node behind a leaf: the last change to a left child becomes that to the right one
abbrev pub after_leaf : Path → Path
after_leaf [] = []
after_leaf (c ∷ path) = in_front c (after_leaf path)

-- ---- the buffer

abbrev pub AreNodesPlaced : Program → ℕ → List CertNode → List NodeWithPlaces → Type 0
AreNodesPlaced M cuts nodes placed = (length placed ≡ length nodes) × ((k : ℕ) (n : CertNode) (p : NodeWithPlaces) → k < length nodes → IsPlace M cuts (get_or nodes k n) (get_or placed k p))

-- the verdict on the nodes alone
abbrev pub IsNodesVerdict : Formulation → Claim → CertTree → Verdict → Type 0
IsNodesVerdict F claim tree (Accepted told) = (told ≡ claim) × All (λ p. IsVisitJudged F claim p Passes) (visits F.model [] tree)
IsNodesVerdict F claim tree (Rejected number why) = IsJudgedAt F claim (visits F.model [] tree) number (Breaks why)
IsNodesVerdict F claim tree (Wide number step) = IsJudgedAt F claim (visits F.model [] tree) number (NoRoom step)

-- the numbers beside names as a point, if each name is a column's and none stands twice
abbrev pub IsPointOf : Program → Named → Option Point → Type 0
IsPointOf M named point = MatchOption point (¬ AreNames (column_names M) named) (λ x. AreNames (column_names M) named × (x ≡ point_of M named))

-- the buffer was made for this model and this certificate
pub record IsBufferOf (M : Program) (cert : Cert) (buf : RegionBuf) : Type 0 where
  pub cuts : AreCutsFound M cert.cuts buf.cuts
  pub few : length cert.cuts ≤ 4294967296
  pub nodes : AreNodesPlaced M (length cert.cuts) cert.nodes buf.nodes.items
  pub trail : IsTrail buf.trail
  pub room : length cert.nodes ≤ room buf.trail
  pub point : IsPointOf M cert.point buf.point
  pub ray : IsPointOf M cert.ray buf.ray
