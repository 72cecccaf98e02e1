-- What the judging of a certificate answers. Its point comes first, then the difference of its value and its gap, then its ray, then
-- its cuts, then the nodes in preorder; the first that does not pass decides. Node 0 is what stands before the nodes, and nodes are counted from 1. What does not pass
-- breaks for a reason
--     1   a name is unknown, or stands twice on a line; a cut's number is not there, or stands twice
--     2   the point is not feasible
--     3   its value is not the claimed one
--     4   the ray moves an integer column, passes a bound or a side, or does not improve
--     5   a cut does not derive
--     6   a split on a column that is not integer
--     7   a leaf does not close as it says
-- or has a step of arithmetic without room.
use Rattle.std.specs.Prelude.{◌≡◌, ◌≢◌, ◌⊎◌, ℕ, suc, ◌++◌, true, false, IsTrue, List, [], ◌∷◌, length, Contains, All, None, Ok, Err}
use Rattle.frac128.specs.Rational.{ℚ, ◌-ℚ◌, neg_ℚ}
use Rattle.frac128.specs.Range.{SumFits}
use Rattle.lp_model.specs.Program.{Program, Point, is_integer, in_least_form}
use Rattle.lp_model.specs.Lawful.{column_names}
use Rattle.lp_model.specs.Edits.{Named, place_in}
use Rattle.lp_model.specs.Regions.{Path, IsEmptyRegion}
use Rattle.lp_model.specs.Formulations.{Formulation}
use Rattle.lp_model.specs.declared.types.WideStep.TheVariants.{Value}
use Rattle.model_points.specs.Answers.{IsValueAnswer, IsFeasibilityAnswer}
use Rattle.model_points.specs.Rays.{IsRayJudged}
use Rattle.leaf_dual.specs.Dual.{Multipliers, IsPositiveNumber, ReachesIn}
use Rattle.leaf_dual.specs.Answers.{IsLagAnswer, IsFarkasAnswer}
use Rattle.leaf_dual.specs.declared.dual.LagValue.{LagValue}
use Rattle.branch_tree.specs.Tree.{left_path, right_path}
use Rattle.cert_text.specs.declared.cert.Claim.{Claim}
use Rattle.cert_text.specs.declared.cert.Claim.TheVariants.{Optimal, Within, Infeasible, Unbounded}
use Rattle.cert_text.specs.declared.cert.NamedCut.{NamedCut}
use Rattle.cert_text.specs.declared.cert.CertNode.{CertNode}
use Rattle.cert_text.specs.declared.cert.CertNode.TheVariants as node
use Rattle.cert_text.specs.declared.cert.Cert.{Cert}
use Rattle.cert_check.specs.declared.verdict.Judgement.{Judgement}
use Rattle.cert_check.specs.declared.verdict.Judgement.TheVariants.{Passes, Breaks, NoRoom}
use Rattle.cert_check.specs.declared.verdict.Verdict.{Verdict}
use Rattle.cert_check.specs.declared.verdict.Verdict.TheVariants.{Accepted, Rejected, Wide}
use Rattle.cert_text.specs.Tree.{CertTree, Bound, Farkas, Empty, Split, certificate_nodes}
use Rattle.cert_check.specs.Mults.{AreMults, mults_of}
use Rattle.cert_check.specs.Cuts.{formulation_by, AreCutsJudged}
use Rattle.cert_check.specs.Accepted.{AreNames, point_of}

-- where what the line names is there, and stands once, what holds of the judgement; else it breaks for that
abbrev pub WhereThere : Type 0 → (Judgement → Type 0) → Judgement → Type 0
WhereThere there P j = (there × P j) ⊎ ((¬ there) × (j ≡ Breaks 1))

-- the second is judged where the first passes
abbrev pub InOrder : (Judgement → Type 0) → (Judgement → Type 0) → Judgement → Type 0
InOrder P Q j = (P Passes × Q j) ⊎ (P j × (j ≢ Passes))

-- ---- the target of a gap

-- the claimed value in least form less the gap has room with each number on the way; else that step is one of a value, without a column
abbrev pub IsDifferenceJudged : Program → ℚ → ℚ → Judgement → Type 0
IsDifferenceJudged M g v Passes = SumFits (in_least_form M.sense v) (neg_ℚ g)
IsDifferenceJudged M g v (Breaks why) = ⊥
IsDifferenceJudged M g v (NoRoom step) = (¬ SumFits (in_least_form M.sense v) (neg_ℚ g)) × (step ≡ Value None)

-- ---- a leaf's number

abbrev pub IsBoundJudged : Formulation → ℚ → Path → Multipliers → Judgement → Type 0
IsBoundJudged F t path mult Passes = (q : LagValue) × (IsLagAnswer F path mult (Ok q) × ReachesIn F.model q t)
IsBoundJudged F t path mult (Breaks why) = (q : LagValue) × (IsLagAnswer F path mult (Ok q) × ((¬ ReachesIn F.model q t) × (why ≡ 7)))
IsBoundJudged F t path mult (NoRoom step) = IsLagAnswer F path mult (Err step)

-- with a gap the difference is the target; where no value is claimed a number reaches nothing
abbrev pub IsNumberJudged : Formulation → Claim → Path → Multipliers → Judgement → Type 0
IsNumberJudged F (Optimal v) path mult j = IsBoundJudged F (in_least_form F.model.sense v) path mult j
IsNumberJudged F (Within g v) path mult j = InOrder (IsDifferenceJudged F.model g v) (IsBoundJudged F (in_least_form F.model.sense v -ℚ g) path mult) j
IsNumberJudged F Infeasible path mult j = j ≡ Breaks 7
IsNumberJudged F Unbounded path mult j = j ≡ Breaks 7

abbrev pub IsFarkasJudged : Formulation → Path → Multipliers → Judgement → Type 0
IsFarkasJudged F path mult Passes = (q : LagValue) × (IsFarkasAnswer F path mult (Ok q) × IsPositiveNumber q)
IsFarkasJudged F path mult (Breaks why) = (q : LagValue) × (IsFarkasAnswer F path mult (Ok q) × ((¬ IsPositiveNumber q) × (why ≡ 7)))
IsFarkasJudged F path mult (NoRoom step) = IsFarkasAnswer F path mult (Err step)

abbrev pub IsEmptyJudged : Program → Path → Judgement → Type 0
IsEmptyJudged M path Passes = IsEmptyRegion M path
IsEmptyJudged M path (Breaks why) = (¬ IsEmptyRegion M path) × (why ≡ 7)
IsEmptyJudged M path (NoRoom step) = ⊥

-- ---- a node

abbrev pub IsKindJudged : Program → ℕ → Judgement → Type 0
IsKindJudged M col Passes = IsTrue (is_integer M col)
IsKindJudged M col (Breaks why) = (¬ IsTrue (is_integer M col)) × (why ≡ 6)
IsKindJudged M col (NoRoom step) = ⊥

abbrev pub IsSplitJudged : Program → List ℕ → Judgement → Type 0
IsSplitJudged M col j =
    (Contains (column_names M) col × IsKindJudged M (place_in (column_names M) col) j) ⊎ ((¬ Contains (column_names M) col) × (j ≡ Breaks 1))

abbrev pub IsNodeJudged : Formulation → Claim → Path → CertNode → Judgement → Type 0
IsNodeJudged F claim path (node.Split col v) j = IsSplitJudged F.model col j
IsNodeJudged F claim path (node.Bound mults) j = WhereThere (AreMults F.model (length F.cuts) mults) (IsNumberJudged F claim path (mults_of F.model mults)) j
IsNodeJudged F claim path (node.Farkas mults) j = WhereThere (AreMults F.model (length F.cuts) mults) (IsFarkasJudged F path (mults_of F.model mults)) j
IsNodeJudged F claim path node.Empty j = IsEmptyJudged F.model path j

-- ---- the point and the ray

abbrev pub IsPointJudged : Program → ℚ → Point → Judgement → Type 0
IsPointJudged M v x Passes = IsFeasibilityAnswer M x (Ok true) × IsValueAnswer M 1 x (Ok v)
IsPointJudged M v x (Breaks why) =
    (IsFeasibilityAnswer M x (Ok false) × (why ≡ 2))
    ⊎ (IsFeasibilityAnswer M x (Ok true) × ((w : ℚ) × (IsValueAnswer M 1 x (Ok w) × ((w ≢ v) × (why ≡ 3)))))
IsPointJudged M v x (NoRoom step) = IsFeasibilityAnswer M x (Err step) ⊎ (IsFeasibilityAnswer M x (Ok true) × IsValueAnswer M 1 x (Err step))

-- where no value is claimed none is computed
abbrev pub IsFeasibleJudged : Program → Point → Judgement → Type 0
IsFeasibleJudged M x Passes = IsFeasibilityAnswer M x (Ok true)
IsFeasibleJudged M x (Breaks why) = IsFeasibilityAnswer M x (Ok false) × (why ≡ 2)
IsFeasibleJudged M x (NoRoom step) = IsFeasibilityAnswer M x (Err step)

-- columns, then rows, then the cost: the first breach or step without room
abbrev pub IsDirectionJudged : Program → Point → Judgement → Type 0
IsDirectionJudged M d Passes = IsRayJudged M d (Ok true)
IsDirectionJudged M d (Breaks why) = IsRayJudged M d (Ok false) × (why ≡ 4)
IsDirectionJudged M d (NoRoom step) = IsRayJudged M d (Err step)

-- the numbers beside names, as the claim has them, and the difference where it has a gap
abbrev pub IsClaimJudged : Program → Claim → Named → Named → Judgement → Type 0
IsClaimJudged M (Optimal v) point ray j = WhereThere (AreNames (column_names M) point) (IsPointJudged M v (point_of M point)) j
IsClaimJudged M (Within g v) point ray j =
    InOrder (WhereThere (AreNames (column_names M) point) (IsPointJudged M v (point_of M point))) (IsDifferenceJudged M g v) j
IsClaimJudged M Infeasible point ray j = j ≡ Passes
IsClaimJudged M Unbounded point ray j =
    InOrder
    (WhereThere (AreNames (column_names M) point) (IsFeasibleJudged M (point_of M point)))
    (WhereThere (AreNames (column_names M) ray) (IsDirectionJudged M (point_of M ray))) j

-- the point and the ray, and then the cuts
abbrev pub IsHeadJudged : Program → Claim → Named → Named → List NamedCut → Judgement → Type 0
IsHeadJudged M claim point ray cuts j = InOrder (IsClaimJudged M claim point ray) (AreCutsJudged M cuts) j

-- ---- the certificate

-- the nodes in preorder, each with its path
abbrev pub visits : Program → Path → CertTree → List (Path × CertNode)
visits M path (Bound mults) = (path, node.Bound mults) ∷ []
visits M path (Farkas mults) = (path, node.Farkas mults) ∷ []
visits M path Empty = (path, node.Empty) ∷ []
visits M path (Split col v left right) =
    (path, node.Split col v)
    ∷ (visits M (left_path path (place_in (column_names M) col) v) left
    ++ visits M (right_path path (place_in (column_names M) col) v) right)

abbrev pub IsVisitJudged : Formulation → Claim → (Path × CertNode) → Judgement → Type 0
IsVisitJudged F claim visit j = IsNodeJudged F claim visit.0 visit.1 j

-- the nodes are those of one whole tree, with their paths
pub record AreTreeVisits (M : Program) (nodes : List CertNode) (visited : List (Path × CertNode)) : Type 0 where
  pub tree : CertTree
  pub nodes_are : certificate_nodes tree ≡ nodes
  pub are : visited ≡ visits M [] tree

-- the nodes that are judged, with their paths: none where the model is claimed unbounded
abbrev pub AreVisits : Program → Claim → List CertNode → List (Path × CertNode) → Type 0
AreVisits M (Optimal v) nodes visited = AreTreeVisits M nodes visited
AreVisits M (Within g v) nodes visited = AreTreeVisits M nodes visited
AreVisits M Infeasible nodes visited = AreTreeVisits M nodes visited
AreVisits M Unbounded nodes visited = (nodes ≡ []) × (visited ≡ [])

-- some of the nodes pass, and then there is one that is judged so; it has this number
pub record IsJudgedAt (F : Formulation) (claim : Claim) (visited : List (Path × CertNode)) (number : ℕ) (j : Judgement) : Type 0 where
  pub before : List (Path × CertNode)
  pub visit : Path × CertNode
  pub behind : List (Path × CertNode)
  pub parts : visited ≡ before ++ visit ∷ behind
  pub pass : All (λ p. IsVisitJudged F claim p Passes) before
  pub judged : IsVisitJudged F claim visit j
  pub counted : number ≡ suc (length before)

-- The judgement j of node `number`, 0 being what stands before the nodes, is the first that is no pass.
abbrev pub IsFirstFailing : Program → Cert → List (Path × CertNode) → ℕ → Judgement → Type 0
IsFirstFailing M cert visited number j =
    ((number ≡ 0) × IsHeadJudged M cert.claim cert.point cert.ray cert.cuts j)
    ⊎ (IsHeadJudged M cert.claim cert.point cert.ray cert.cuts Passes × IsJudgedAt (formulation_by M cert.cuts) cert.claim visited number j)

abbrev pub IsVerdictOn : Program → Cert → List (Path × CertNode) → Verdict → Type 0
IsVerdictOn M cert visited (Accepted claim) =
    (claim ≡ cert.claim) × IsHeadJudged M cert.claim cert.point cert.ray cert.cuts Passes × All (λ p. IsVisitJudged (formulation_by M cert.cuts) cert.claim p Passes) visited
IsVerdictOn M cert visited (Rejected number why) = IsFirstFailing M cert visited number (Breaks why)
IsVerdictOn M cert visited (Wide number step) = IsFirstFailing M cert visited number (NoRoom step)

pub record IsVerdict (M : Program) (cert : Cert) (verdict : Verdict) : Type 0 where
  pub visited : List (Path × CertNode)
  pub are : AreVisits M cert.claim cert.nodes visited
  pub is : IsVerdictOn M cert visited verdict
