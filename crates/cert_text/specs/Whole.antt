-- Which certificates are judged: those that a text states.
use Rattle.std.specs.Prelude.{◌≡◌, ℕ, zero, suc, List, [], ◌∷◌, All, pos, ◌+ℤ◌, Option, Some, None}
use Rattle.frac128.specs.Rational.{int, ◌≤ℚ◌}
use Rattle.frac128.specs.Range.{IsNarrow}
use Rattle.lp_model.specs.Edits.{Named}
use Rattle.cert_text.specs.declared.cert.Claim.{Claim}
use Rattle.cert_text.specs.declared.cert.Claim.TheVariants.{Optimal, Within, Infeasible, Unbounded}
use Rattle.cert_text.specs.declared.cert.NamedCut.{NamedCut}
use Rattle.cert_text.specs.declared.cert.CertNode.{CertNode}
use Rattle.cert_text.specs.declared.cert.CertNode.TheVariants as node
use Rattle.cert_text.specs.declared.cert.Cert.{Cert}
use Rattle.cert_text.specs.declared.line.Statement.{Statement}
use Rattle.cert_text.specs.declared.line.Statement.TheVariants as says
use Rattle.cert_text.specs.Tree.{CertTree, certificate_nodes}

-- a fraction has room for both numbers of a split
abbrev pub IsNarrowNode : CertNode → Type 0
IsNarrowNode (node.Split col v) = IsNarrow v × IsNarrow (v +ℤ pos 1)
IsNarrowNode (node.Bound mults) = Unit {0}
IsNarrowNode (node.Farkas mults) = Unit {0}
IsNarrowNode node.Empty = Unit {0}

-- a gap is at least 0
abbrev pub HasLawfulGap : Claim → Type 0
HasLawfulGap (Optimal v) = Unit {0}
HasLawfulGap (Within g v) = int (pos 0) ≤ℚ g
HasLawfulGap Infeasible = Unit {0}
HasLawfulGap Unbounded = Unit {0}

-- a claim that no point is feasible has none
abbrev pub HasNoPoint : Claim → Named → Type 0
HasNoPoint (Optimal v) named = Unit {0}
HasNoPoint (Within g v) named = Unit {0}
HasNoPoint Infeasible named = named ≡ []
HasNoPoint Unbounded named = Unit {0}

-- a ray stands only where the model is claimed unbounded
abbrev pub HasNoRay : Claim → Named → Type 0
HasNoRay (Optimal v) named = named ≡ []
HasNoRay (Within g v) named = named ≡ []
HasNoRay Infeasible named = named ≡ []
HasNoRay Unbounded named = Unit {0}

-- cuts stand only under a claim that has nodes
abbrev pub HasNoCuts : Claim → List NamedCut → Type 0
HasNoCuts (Optimal v) cuts = Unit {0}
HasNoCuts (Within g v) cuts = Unit {0}
HasNoCuts Infeasible cuts = Unit {0}
HasNoCuts Unbounded cuts = cuts ≡ []

-- the nodes in preorder of one tree
pub record AreOneTree (nodes : List CertNode) : Type 0 where
  pub tree : CertTree
  pub nodes_are : certificate_nodes tree ≡ nodes

-- the nodes are one whole tree; where the model is claimed unbounded there are none
abbrev pub HasTree : Claim → List CertNode → Type 0
HasTree (Optimal v) nodes = AreOneTree nodes
HasTree (Within g v) nodes = AreOneTree nodes
HasTree Infeasible nodes = AreOneTree nodes
HasTree Unbounded nodes = nodes ≡ []

-- the parts of the claim are there and no others, its gap is at least 0, and splits have room
pub record IsCertificate (cert : Cert) : Type 0 where
  pub tree : HasTree cert.claim cert.nodes
  pub narrow : All IsNarrowNode cert.nodes
  pub point : HasNoPoint cert.claim cert.point
  pub ray : HasNoRay cert.claim cert.ray
  pub cuts : HasNoCuts cert.claim cert.cuts
  pub gap : HasLawfulGap cert.claim

-- ---- on the way through a text

-- fractions have room for a split, and a gap is at least 0
abbrev pub IsLawfulStatement : Statement → Type 0
IsLawfulStatement (says.Node n) = IsNarrowNode n
IsLawfulStatement says.Header = Unit {0}
IsLawfulStatement (says.Claims claim) = HasLawfulGap claim
IsLawfulStatement (says.Point named) = Unit {0}
IsLawfulStatement says.End = Unit {0}
IsLawfulStatement (says.Ray named) = Unit {0}
IsLawfulStatement (says.Cut cut) = Unit {0}
IsLawfulStatement says.Foreign = Unit {0}

-- each node stands where one of some trees is still due
abbrev pub TakesAll : ℕ → List CertNode → Type 0
TakesAll due [] = Unit {0}
TakesAll zero (n ∷ nodes) = ⊥
TakesAll (suc due) (node.Split col v ∷ nodes) = TakesAll (suc (suc due)) nodes
TakesAll (suc due) (node.Bound mults ∷ nodes) = TakesAll due nodes
TakesAll (suc due) (node.Farkas mults ∷ nodes) = TakesAll due nodes
TakesAll (suc due) (node.Empty ∷ nodes) = TakesAll due nodes

-- there is a point only where a value is claimed, or that the model is unbounded
abbrev pub IsPointed : Option Claim → Option Named → Type 0
IsPointed (Some (Optimal v)) point = Unit {0}
IsPointed (Some (Within g v)) point = Unit {0}
IsPointed (Some Infeasible) point = point ≡ None
IsPointed (Some Unbounded) point = Unit {0}
IsPointed None point = point ≡ None

-- there is a ray only where the model is claimed unbounded
abbrev pub IsDirected : Option Claim → Option Named → Type 0
IsDirected (Some (Optimal v)) ray = ray ≡ None
IsDirected (Some (Within g v)) ray = ray ≡ None
IsDirected (Some Infeasible) ray = ray ≡ None
IsDirected (Some Unbounded) ray = Unit {0}
IsDirected None ray = ray ≡ None

-- there are cuts only where something else is claimed
abbrev pub AreCutsDue : Option Claim → List NamedCut → Type 0
AreCutsDue (Some (Optimal v)) cuts = Unit {0}
AreCutsDue (Some (Within g v)) cuts = Unit {0}
AreCutsDue (Some Infeasible) cuts = Unit {0}
AreCutsDue (Some Unbounded) cuts = cuts ≡ []
AreCutsDue None cuts = cuts ≡ []

-- so are nodes
abbrev pub IsRooted : Option Claim → List CertNode → Type 0
IsRooted (Some (Optimal v)) nodes = Unit {0}
IsRooted (Some (Within g v)) nodes = Unit {0}
IsRooted (Some Infeasible) nodes = Unit {0}
IsRooted (Some Unbounded) nodes = nodes ≡ []
IsRooted None nodes = nodes ≡ []

-- the gap of a claim that is there is at least 0
abbrev pub IsGapped : Option Claim → Type 0
IsGapped None = Unit {0}
IsGapped (Some claim) = HasLawfulGap claim
