-- A certificate of a front whose parts pass the judging one by one is judged accepted.
--     IsOutcomeJudged, FitGaps, DoesTreePass     the judging of an outcome, of the numbers of the gaps and of a tree's nodes (specs/Verdict)
use Rattle.std.specs.Prelude.{◌≡◌, List, ◌∷◌, map, length, All}
use Rattle.std.specs.List.{AllZip}
use Rattle.lp_model.specs.Program.{Program, HasWholeObjective}
use Rattle.cert_check.specs.declared.verdict.Judgement.TheVariants.{Passes}
use Rattle.cert_check.specs.Cuts.{AreCutsJudged}
use Rattle.frontier.specs.declared.outcomes.Outcome.{Outcome}
use Rattle.frontier.specs.Covers.{IsFront}
use Rattle.frontier.specs.Laws.{last_of}
use Rattle.inner_models.specs.Inner.{bare_model}
use Rattle.front_text.specs.declared.front.FrontTree.{FrontTree}
use Rattle.front_text.specs.declared.front.FrontCert.{FrontCert}
use Rattle.front_check.specs.declared.verdict.FrontVerdict.TheVariants.{Accepted}
use Rattle.front_check.specs.Accepted.{outcomes_of, without_constants, TargetedModel, front_parts, tree_names}
use Rattle.front_check.specs.Verdict.{IsOutcomeJudged, FitGaps, DoesTreePass, IsFrontVerdict}

-- the tree's cuts pass at the inner model, and its nodes against the target
pub record IsPassingTree (part : TargetedModel) (tree : FrontTree) : Type 0 where
  pub cuts : AreCutsJudged part.model tree.cuts Passes
  pub nodes : DoesTreePass part tree

-- Both objectives are whole. Each outcome passes, and stands behind the one before it. The trees are those that have to be there, the
-- numbers of the gaps have room, and each tree passes for its inner model.
pub record HasPassingParts (M : Program) (cert : FrontCert) : Type 0 where
  pub first_whole : HasWholeObjective M 1
  pub second_whole : HasWholeObjective M 2
  pub first : Outcome
  pub rest : List Outcome
  pub outcomes : outcomes_of cert ≡ first ∷ rest
  pub judged : All (λ o. IsOutcomeJudged M o Passes) cert.outcomes
  pub apart : IsFront (first ∷ rest)
  pub named : map (λ t. t.of) cert.trees ≡ tree_names rest
  pub fit :
      FitGaps (bare_model M) (without_constants M first).f1 (last_of (without_constants M first) (map (without_constants M) rest)).f2 (without_constants M first) (map (without_constants M) rest)
  pub passed : AllZip IsPassingTree (front_parts (bare_model M) (without_constants M first) (map (without_constants M) rest)) cert.trees

abbrev pub PassingPartsLaw : Type 0
PassingPartsLaw = (M : Program) (cert : FrontCert) → HasPassingParts M cert → IsFrontVerdict M cert (Accepted (length cert.outcomes))
