-- What the judging of a certificate of a front answers. In this order:
--     both objectives are whole                                                          else reason 9
--     there is an outcome; of each its point passes (1, 2), its two values are those of its point, and it stands behind the one before it    8
--     the trees are those of the least values and of the gaps, and the numbers of the gaps have room                                     10
--     the cuts of all trees                                                              1, 5
--     the nodes of all trees, counted from 1 through all of them                         1, 6, 7
-- The first that does not pass decides, or has a step of arithmetic without room. What stands before the nodes is node 0.
use Rattle.std.specs.Prelude.{◌≡◌, ◌≢◌, ◌⊎◌, ℕ, ◌+◌, ℤ, ◌-ℤ◌, List, [], ◌∷◌, map, length, None, Ok, Err}
use Rattle.frac128.specs.Rational.{ℚ, int, ◌+ℚ◌}
use Rattle.frac128.specs.Range.{SumFits}
use Rattle.lp_model.specs.Program.{Program, Point, constant, in_least_form, HasWholeObjective}
use Rattle.lp_model.specs.Lawful.{column_names}
use Rattle.lp_model.specs.declared.types.WideStep.TheVariants.{Value}
use Rattle.model_points.specs.Answers.{IsValueAnswer}
use Rattle.cert_text.specs.declared.cert.Claim.{Claim}
use Rattle.cert_text.specs.declared.cert.Claim.TheVariants.{Optimal}
use Rattle.cert_check.specs.declared.verdict.Judgement.{Judgement}
use Rattle.cert_check.specs.declared.verdict.Judgement.TheVariants.{Passes, Breaks, NoRoom}
use Rattle.cert_check.specs.declared.verdict.Verdict.{Verdict}
use Rattle.cert_check.specs.declared.verdict.Verdict.TheVariants as tree
use Rattle.cert_check.specs.Accepted.{AreNames, point_of}
use Rattle.cert_check.specs.Cuts.{formulation_by, AreCutsJudged}
use Rattle.cert_check.specs.Verdict.{WhereThere, IsFeasibleJudged, InOrder}
use Rattle.cert_check.specs.Trees.{IsTreeVerdict}
use Rattle.frontier.specs.declared.outcomes.Outcome.{Outcome}
use Rattle.frontier.specs.Covers.{IsAhead}
use Rattle.frontier.specs.Laws.{last_of}
use Rattle.inner_models.specs.Inner.{bare_model}
use Rattle.gap_models.specs.Gaps.{FitsGap}
use Rattle.front_text.specs.declared.front.FrontTree.{FrontTree}
use Rattle.front_text.specs.declared.front.FrontOutcome.{FrontOutcome}
use Rattle.front_text.specs.declared.front.FrontCert.{FrontCert}
use Rattle.front_check.specs.declared.verdict.FrontVerdict.{FrontVerdict}
use Rattle.front_check.specs.declared.verdict.FrontVerdict.TheVariants.{Accepted, Rejected, Wide}
use Rattle.front_check.specs.Accepted.{outcome_of, without_constants, TargetedModel, front_parts, tree_names}

-- ---- the objectives

abbrev pub HasWholeObjectives : Program → Type 0
HasWholeObjectives M = HasWholeObjective M 1 × HasWholeObjective M 2

abbrev pub AreObjectivesJudged : Program → Judgement → Type 0
AreObjectivesJudged M Passes = HasWholeObjectives M
AreObjectivesJudged M (Breaks why) = (¬ HasWholeObjectives M) × (why ≡ 9)
AreObjectivesJudged M (NoRoom step) = ⊥

-- ---- an outcome

abbrev pub IsPointLineJudged : Program → FrontOutcome → Judgement → Type 0
IsPointLineJudged M o j = WhereThere (AreNames (column_names M) o.point) (IsFeasibleJudged M (point_of M o.point)) j

abbrev pub least_constant_of : Program → ℕ → ℚ
least_constant_of M w = in_least_form M.sense (constant M w)

-- a value is summed from 0 in least form, and the constant is added last
abbrev pub IsStatedValueJudged : Program → ℕ → Point → ℤ → Judgement → Type 0
IsStatedValueJudged M w x v Passes = (f : ℚ) × (IsValueAnswer (bare_model M) w x (Ok f) × (SumFits f (least_constant_of M w) × (f +ℚ least_constant_of M w ≡ int v)))
IsStatedValueJudged M w x v (Breaks why) =
    (f : ℚ) × (IsValueAnswer (bare_model M) w x (Ok f) × (SumFits f (least_constant_of M w) × ((f +ℚ least_constant_of M w ≢ int v) × (why ≡ 8))))
IsStatedValueJudged M w x v (NoRoom step) =
    IsValueAnswer (bare_model M) w x (Err step) ⊎ ((f : ℚ) × (IsValueAnswer (bare_model M) w x (Ok f) × ((¬ SumFits f (least_constant_of M w)) × (step ≡ Value None))))

abbrev pub IsOutcomeJudged : Program → FrontOutcome → Judgement → Type 0
IsOutcomeJudged M o j =
    InOrder (IsPointLineJudged M o) (InOrder (IsStatedValueJudged M 1 (point_of M o.point) o.v1) (IsStatedValueJudged M 2 (point_of M o.point) o.v2)) j

-- it stands behind the outcome before it
abbrev pub IsOrderJudged : Outcome → Outcome → Judgement → Type 0
IsOrderJudged p q Passes = IsAhead p q
IsOrderJudged p q (Breaks why) = (¬ IsAhead p q) × (why ≡ 8)
IsOrderJudged p q (NoRoom step) = ⊥

abbrev pub AreLaterJudged : Program → Outcome → List FrontOutcome → Judgement → Type 0
AreLaterJudged M p [] j = j ≡ Passes
AreLaterJudged M p (o ∷ l) j = InOrder (InOrder (IsOutcomeJudged M o) (IsOrderJudged p (outcome_of o))) (AreLaterJudged M (outcome_of o) l) j

abbrev pub AreOutcomesJudged : Program → List FrontOutcome → Judgement → Type 0
AreOutcomesJudged M [] j = j ≡ Breaks 8
AreOutcomesJudged M (o ∷ l) j = InOrder (IsOutcomeJudged M o) (AreLaterJudged M (outcome_of o) l) j

-- ---- the trees

-- the numbers of each gap between neighbours have room
abbrev pub FitGaps : Program → ℤ → ℤ → Outcome → List Outcome → Type 0
FitGaps N i1 i2 p [] = Unit {0}
FitGaps N i1 i2 p (q ∷ l) = FitsGap N (p.f2 -ℤ i2) (q.f1 -ℤ i1) i1 i2 × FitGaps N i1 i2 q l

-- the trees are named as they have to be, and the inner models have room; outcomes are without constants
pub record AreTreesThere (N : Program) (p : Outcome) (l : List Outcome) (trees : List FrontTree) : Type 0 where
  pub names : map (λ t. t.of) trees ≡ tree_names l
  pub room : FitGaps N p.f1 (last_of p l).f2 p l

abbrev pub AreTreesJudged : Program → Outcome → List Outcome → List FrontTree → Judgement → Type 0
AreTreesJudged N p l trees Passes = AreTreesThere N p l trees
AreTreesJudged N p l trees (Breaks why) = (¬ AreTreesThere N p l trees) × (why ≡ 10)
AreTreesJudged N p l trees (NoRoom step) = ⊥

-- the cuts of each tree at its inner model, where each inner model has its tree
abbrev pub AreAllCutsJudged : List TargetedModel → List FrontTree → Judgement → Type 0
AreAllCutsJudged [] [] j = j ≡ Passes
AreAllCutsJudged [] (t ∷ trees) j = ⊥
AreAllCutsJudged (part ∷ parts) [] j = ⊥
AreAllCutsJudged (part ∷ parts) (t ∷ trees) j = InOrder (AreCutsJudged part.model t.cuts) (AreAllCutsJudged parts trees) j

-- the verdict on the nodes of a tree against the target of its inner model
abbrev pub IsPartVerdict : TargetedModel → FrontTree → Verdict → Type 0
IsPartVerdict part t verdict = IsTreeVerdict (formulation_by part.model t.cuts) (Optimal (int part.target)) t.nodes verdict

abbrev pub DoesTreePass : TargetedModel → FrontTree → Type 0
DoesTreePass part t = (told : Claim) × IsPartVerdict part t (tree.Accepted told)

-- each inner model has its tree, and these pass
abbrev pub DoTreesPass : List TargetedModel → List FrontTree → Type 0
DoTreesPass [] [] = Unit {0}
DoTreesPass [] (t ∷ trees) = ⊥
DoTreesPass (part ∷ parts) [] = ⊥
DoTreesPass (part ∷ parts) (t ∷ trees) = DoesTreePass part t × DoTreesPass parts trees

-- a node of a tree, with this number there, does not pass
abbrev pub IsTreeFailing : TargetedModel → FrontTree → ℕ → Judgement → Type 0
IsTreeFailing part t number Passes = ⊥
IsTreeFailing part t number (Breaks why) = IsPartVerdict part t (tree.Rejected number why)
IsTreeFailing part t number (NoRoom step) = IsPartVerdict part t (tree.Wide number step)

-- Behind `before` nodes: the first node of these trees that does not pass has this number, and is judged so.
abbrev pub IsNodeFailing : ℕ → List TargetedModel → List FrontTree → ℕ → Judgement → Type 0
IsNodeFailing before [] trees number j = ⊥
IsNodeFailing before (part ∷ parts) [] number j = ⊥
IsNodeFailing before (part ∷ parts) (t ∷ trees) number j =
    ((n : ℕ) × (IsTreeFailing part t n j × (number ≡ before + n)))
    ⊎ (DoesTreePass part t × IsNodeFailing (before + length t.nodes) parts trees number j)

-- ---- the whole

-- the trees and their cuts, where these are the outcomes without constants
abbrev pub AreTreeHeadsJudged : Program → FrontCert → Outcome → List Outcome → Judgement → Type 0
AreTreeHeadsJudged M cert p l j = InOrder (AreTreesJudged (bare_model M) p l cert.trees) (AreAllCutsJudged (front_parts (bare_model M) p l) cert.trees) j

-- the outcomes without constants
abbrev pub bare_outcomes : Program → List FrontOutcome → List Outcome
bare_outcomes M l = map (without_constants M) (map outcome_of l)

-- where there is no outcome no tree is judged
abbrev pub AreHeadsJudged : Program → FrontCert → List FrontOutcome → Judgement → Type 0
AreHeadsJudged M cert [] j = ⊥
AreHeadsJudged M cert (o ∷ l) j = AreTreeHeadsJudged M cert (without_constants M (outcome_of o)) (bare_outcomes M l) j

abbrev pub IsFrontHeadJudged : Program → FrontCert → Judgement → Type 0
IsFrontHeadJudged M cert j = InOrder (AreObjectivesJudged M) (InOrder (AreOutcomesJudged M cert.outcomes) (AreHeadsJudged M cert cert.outcomes)) j

-- the inner models of a certificate with their targets
abbrev pub parts_in : Program → List FrontOutcome → List TargetedModel
parts_in M [] = []
parts_in M (o ∷ l) = front_parts (bare_model M) (without_constants M (outcome_of o)) (bare_outcomes M l)

-- the judgement j of node `number`, 0 being what stands before the nodes, is the first that is no pass
abbrev pub IsFrontFailing : Program → FrontCert → ℕ → Judgement → Type 0
IsFrontFailing M cert number j =
    ((number ≡ 0) × IsFrontHeadJudged M cert j × (j ≢ Passes))
    ⊎ (IsFrontHeadJudged M cert Passes × IsNodeFailing 0 (parts_in M cert.outcomes) cert.trees number j)

abbrev pub IsFrontVerdict : Program → FrontCert → FrontVerdict → Type 0
IsFrontVerdict M cert (Accepted outcomes) =
    (outcomes ≡ length cert.outcomes) × (IsFrontHeadJudged M cert Passes × DoTreesPass (parts_in M cert.outcomes) cert.trees)
IsFrontVerdict M cert (Rejected number why) = IsFrontFailing M cert number (Breaks why)
IsFrontVerdict M cert (Wide number step) = IsFrontFailing M cert number (NoRoom step)

-- a number of a gap has no room
abbrev pub LacksRoom : Program → List FrontOutcome → Type 0
LacksRoom M [] = ⊥
LacksRoom M (o ∷ l) =
    ¬ FitGaps (bare_model M) (without_constants M (outcome_of o)).f1 (last_of (without_constants M (outcome_of o)) (bare_outcomes M l)).f2 (without_constants M (outcome_of o)) (bare_outcomes M l)
