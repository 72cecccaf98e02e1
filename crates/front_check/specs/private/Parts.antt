-- The inner models of a front with their trees, by place.
use Rattle.std.specs.Prelude.{◌≡◌, ◌≢◌, ◌⊎◌, ℕ, zero, suc, List, length, get_or}
use Rattle.frac128.specs.Rational.{int}
use Rattle.lp_model.specs.Program.{Program}
use Rattle.cert_text.specs.declared.cert.Claim.TheVariants.{Optimal}
use Rattle.cert_check.specs.declared.verdict.Judgement.{Judgement}
use Rattle.cert_check.specs.declared.verdict.Judgement.TheVariants.{Passes, Breaks, NoRoom}
use Rattle.cert_check.specs.declared.verdict.Verdict.{Verdict}
use Rattle.cert_check.specs.Cuts.{formulation_by, AreCutsJudged}
use Rattle.cert_check.specs.Verdict.{InOrder}
use Rattle.cert_check.specs.Trees.{IsTreeVerdict}
use Rattle.frontier.specs.Laws.{last_of}
use Rattle.front_text.specs.declared.front.TreeOf.{TreeOf}
use Rattle.front_text.specs.declared.front.TreeOf.TheVariants.{Least1, Least2, Gap}
use Rattle.front_text.specs.declared.front.FrontTree.{FrontTree}
use Rattle.front_check.specs.declared.verdict.FrontVerdict.{FrontVerdict}
use Rattle.front_check.specs.declared.verdict.FrontVerdict.TheVariants.{Accepted, Rejected, Wide}
use Rattle.front_check.specs.declared.outcomes.BareOutcomes.{BareOutcomes}
use Rattle.front_check.specs.declared.trees.Part.{Part}
use Rattle.front_check.specs.Accepted.{TargetedModel, front_parts}
use Rattle.front_check.specs.Verdict.{FitGaps, AreTreesJudged, AreAllCutsJudged, DoTreesPass, IsNodeFailing}

-- the name that is due at a place from 0
abbrev pub tree_name_at : ℕ → TreeOf
tree_name_at zero = Least1
tree_name_at (suc zero) = Least2
tree_name_at (suc (suc k)) = Gap (suc k)

abbrev pub parts_by_outcomes : Program → BareOutcomes → List TargetedModel
parts_by_outcomes N b = front_parts N b.first b.rest.items

-- the numbers of all gaps have room
abbrev pub DoGapsFit : Program → BareOutcomes → Type 0
DoGapsFit N b = FitGaps N b.first.f1 (last_of b.first b.rest.items).f2 b.first b.rest.items

-- the claim that no feasible point of the inner model is below the target
pub record IsPart (t : TargetedModel) (part : Part) : Type 0 where
  pub model : part.model ≡ t.model
  pub claim : part.claim ≡ Optimal (int t.target)

-- of the inner model at a place
pub record AreCutsJudgedAt (N : Program) (b : BareOutcomes) (k : ℕ) (tree : FrontTree) (j : Judgement) : Type 0 where
  pub part : Part
  pub is : (t : TargetedModel) → IsPart (get_or (parts_by_outcomes N b) k t) part
  pub judged : AreCutsJudged part.model tree.cuts j

pub record IsTreeJudgedAt (N : Program) (b : BareOutcomes) (k : ℕ) (tree : FrontTree) (v : Verdict) : Type 0 where
  pub part : Part
  pub is : (t : TargetedModel) → IsPart (get_or (parts_by_outcomes N b) k t) part
  pub verdict : IsTreeVerdict (formulation_by part.model tree.cuts) part.claim tree.nodes v

-- ---- the trees of outcomes that pass

abbrev pub AreHeadsOf : Program → BareOutcomes → List FrontTree → Judgement → Type 0
AreHeadsOf N b trees j = InOrder (AreTreesJudged N b.first b.rest.items trees) (AreAllCutsJudged (parts_by_outcomes N b) trees) j

-- the verdict on the nodes, where the heads pass
abbrev pub IsNodesOutcome : Program → BareOutcomes → List FrontTree → FrontVerdict → Type 0
IsNodesOutcome N b trees (Accepted k) = (k ≡ suc (length b.rest.items)) × DoTreesPass (parts_by_outcomes N b) trees
IsNodesOutcome N b trees (Rejected number why) = IsNodeFailing 0 (parts_by_outcomes N b) trees number (Breaks why)
IsNodesOutcome N b trees (Wide number step) = IsNodeFailing 0 (parts_by_outcomes N b) trees number (NoRoom step)

abbrev pub AreTreesFailing : Program → BareOutcomes → List FrontTree → ℕ → Judgement → Type 0
AreTreesFailing N b trees number j = ((number ≡ 0) × AreHeadsOf N b trees j × (j ≢ Passes)) ⊎ (AreHeadsOf N b trees Passes × IsNodeFailing 0 (parts_by_outcomes N b) trees number j)

abbrev pub IsTreesOutcome : Program → BareOutcomes → List FrontTree → FrontVerdict → Type 0
IsTreesOutcome N b trees (Accepted k) = (k ≡ suc (length b.rest.items)) × (AreHeadsOf N b trees Passes × DoTreesPass (parts_by_outcomes N b) trees)
IsTreesOutcome N b trees (Rejected number why) = AreTreesFailing N b trees number (Breaks why)
IsTreesOutcome N b trees (Wide number step) = AreTreesFailing N b trees number (NoRoom step)
