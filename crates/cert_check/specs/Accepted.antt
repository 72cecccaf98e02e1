-- When a certificate is accepted for a model: its point and its ray are so, each of its cuts derives, and the leaves of its tree
-- close by the rows of the model and of the cuts. Names not in this file:
--     lag, farkas        the numbers of a leaf's multipliers in a region, with the costs and without (leaf_dual)
--     CutStands          a cut's names are known, and it derives (specs/Cuts)
--     SplitsLawfully, EachLeaf each split is on an integer column; what holds of each leaf and its path (branch_tree)
use Rattle.std.specs.Prelude.{◌≡◌, ◌≢◌, ℕ, List, [], map, length, All, AllPairs, Contains}
use Rattle.frac128.specs.Rational.{ℚ, ◌-ℚ◌}
use Rattle.lp_model.specs.Program.{Program, Point, value, in_least_form, IsFeasible}
use Rattle.lp_model.specs.Lawful.{column_names}
use Rattle.lp_model.specs.Edits.{Named, number_beside}
use Rattle.lp_model.specs.Regions.{Path, IsEmptyRegion}
use Rattle.lp_model.specs.Formulations.{Formulation}
use Rattle.model_points.specs.Rays.{IsRay}
use Rattle.leaf_dual.specs.Dual.{Multipliers, lag, farkas, IsPositiveNumber, ReachesIn}
use Rattle.branch_tree.specs.Tree.{SplitsLawfully, EachLeaf}
use Rattle.cert_text.specs.declared.cert.Claim.{Claim}
use Rattle.cert_text.specs.declared.cert.Claim.TheVariants.{Optimal, Within, Infeasible, Unbounded}
use Rattle.cert_text.specs.declared.cert.CertNode.{CertNode}
use Rattle.cert_text.specs.declared.cert.CertNode.TheVariants.{Split, Bound, Farkas, Empty}
use Rattle.cert_text.specs.declared.cert.Cert.{Cert}
use Rattle.cert_text.specs.Tree.{CertTree, certificate_nodes}
use Rattle.cert_text.specs.Whole.{HasLawfulGap}
use Rattle.cert_check.specs.Places.{with_places}
use Rattle.cert_check.specs.Mults.{AreMults, mults_of}
use Rattle.cert_check.specs.Cuts.{formulation_by, CutStands}

-- ---- names

-- each name is a known one, and none stands twice
pub record AreNames (known : List (List ℕ)) (named : Named) : Type 0 where
  pub there : All (Contains known) (map (λ e. e.0) named)
  pub once : AllPairs (λ a b. a ≢ b) (map (λ e. e.0) named)

-- the numbers beside names as the point with a number for each column, 0 for one that is not named
abbrev pub point_of : Program → Named → Point
point_of M named = map (λ c. number_beside c.name named) M.cols

-- ---- leaves

-- the claimed value is reached, or, in least form, that value less the gap
abbrev pub ReachesClaim : Formulation → Claim → Path → Multipliers → Type 0
ReachesClaim F (Optimal v) path mult = ReachesIn F.model (lag F path mult) (in_least_form F.model.sense v)
ReachesClaim F (Within g v) path mult = ReachesIn F.model (lag F path mult) (in_least_form F.model.sense v -ℚ g)
ReachesClaim F Infeasible path mult = ⊥
ReachesClaim F Unbounded path mult = ⊥

-- the leaf of a region closes as it says; a split closes nothing
abbrev pub Closes : Formulation → Claim → Path → CertNode → Type 0
Closes F claim path (Bound mults) = AreMults F.model (length F.cuts) mults × ReachesClaim F claim path (mults_of F.model mults)
Closes F claim path (Farkas mults) = AreMults F.model (length F.cuts) mults × IsPositiveNumber (farkas F path (mults_of F.model mults))
Closes F claim path Empty = IsEmptyRegion F.model path
Closes F claim path (Split col v) = ⊥

-- ---- certificates

-- the point is feasible and has the claimed value
pub record HasValue (M : Program) (named : Named) (v : ℚ) : Type 0 where
  pub names : AreNames (column_names M) named
  pub feasible : IsFeasible M (point_of M named)
  pub is : value M 1 (point_of M named) ≡ v

-- the point is feasible
pub record IsFeasibleNamed (M : Program) (named : Named) : Type 0 where
  pub names : AreNames (column_names M) named
  pub feasible : IsFeasible M (point_of M named)

-- a claim that no point is feasible has no point
abbrev pub HasPoint : Program → Claim → Named → Type 0
HasPoint M (Optimal v) named = HasValue M named v
HasPoint M (Within g v) named = HasValue M named v
HasPoint M Infeasible named = named ≡ []
HasPoint M Unbounded named = IsFeasibleNamed M named

-- the numbers beside names are a ray's
pub record IsRayNamed (M : Program) (named : Named) : Type 0 where
  pub names : AreNames (column_names M) named
  pub is_ray : IsRay M (point_of M named)

-- only a claim that the model is unbounded has a ray
abbrev pub HasRay : Program → Claim → Named → Type 0
HasRay M (Optimal v) named = named ≡ []
HasRay M (Within g v) named = named ≡ []
HasRay M Infeasible named = named ≡ []
HasRay M Unbounded named = IsRayNamed M named

-- the nodes are those of a lawful tree, each of whose leaves closes as it says
pub record IsClosedTree (F : Formulation) (claim : Claim) (nodes : List CertNode) : Type 0 where
  pub tree : CertTree
  pub nodes_are : certificate_nodes tree ≡ nodes
  pub splits : SplitsLawfully F.model (with_places F.model tree)
  pub leaves : EachLeaf (Closes F claim) [] (with_places F.model tree)

-- nothing else stands under a claim that the model is unbounded
abbrev pub HasClosedTree : Formulation → Claim → List CertNode → Type 0
HasClosedTree F (Optimal v) nodes = IsClosedTree F (Optimal v) nodes
HasClosedTree F (Within g v) nodes = IsClosedTree F (Within g v) nodes
HasClosedTree F Infeasible nodes = IsClosedTree F Infeasible nodes
HasClosedTree F Unbounded nodes = nodes ≡ []

-- a gap is at least 0
pub record Accepts (M : Program) (cert : Cert) : Type 0 where
  pub point : HasPoint M cert.claim cert.point
  pub ray : HasRay M cert.claim cert.ray
  pub cuts : All (CutStands M) cert.cuts
  pub nodes : HasClosedTree (formulation_by M cert.cuts) cert.claim cert.nodes
  pub gap : HasLawfulGap cert.claim
