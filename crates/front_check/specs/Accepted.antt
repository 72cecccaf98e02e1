-- When a certificate of a front is accepted for a model: both objectives are whole, its outcomes are those of its points, none of
-- them covers another, and for each inner model of the front there is a tree that closes against its target. Names not in this file:
--     bare_model, least2_model, gap_model     the inner models (inner_models)
--     CutStands, IsClosedTree                 a cut that derives, a tree whose leaves close as they say (cert_check)
use Rattle.std.specs.Prelude.{◌≡◌, ℕ, suc, ℤ, ◌-ℤ◌, ◌*ℤ◌, List, [], ◌∷◌, map, All}
use Rattle.std.specs.List.{AllZip}
use Rattle.frac128.specs.Rational.{int, floor}
use Rattle.lp_model.specs.Program.{Program, constant, in_least_form, IsFeasible, HasWholeObjective}
use Rattle.lp_model.specs.Lawful.{column_names}
use Rattle.cert_text.specs.declared.cert.Claim.TheVariants.{Optimal}
use Rattle.cert_check.specs.Accepted.{AreNames, point_of, IsClosedTree}
use Rattle.cert_check.specs.Cuts.{formulation_by, CutStands}
use Rattle.frontier.specs.declared.outcomes.Outcome.{Outcome}
use Rattle.frontier.specs.Covers.{IsFront}
use Rattle.frontier.specs.Outcomes.{HasLeastOutcome}
use Rattle.frontier.specs.Laws.{last_of}
use Rattle.inner_models.specs.Inner.{bare_model, least2_model, gap_model}
use Rattle.front_text.specs.declared.front.TreeOf.{TreeOf}
use Rattle.front_text.specs.declared.front.TreeOf.TheVariants.{Least1, Least2, Gap}
use Rattle.front_text.specs.declared.front.FrontTree.{FrontTree}
use Rattle.front_text.specs.declared.front.FrontOutcome.{FrontOutcome}
use Rattle.front_text.specs.declared.front.FrontCert.{FrontCert}

-- ---- outcomes

abbrev pub outcome_of : FrontOutcome → Outcome
outcome_of o = record { f1 = o.v1; f2 = o.v2 }

abbrev pub outcomes_of : FrontCert → List Outcome
outcomes_of cert = map outcome_of cert.outcomes

-- each name is a column's, and none stands twice; the point is feasible and has the outcome
pub record HasItsPoint (M : Program) (o : FrontOutcome) : Type 0 where
  pub names : AreNames (column_names M) o.point
  pub feasible : IsFeasible M (point_of M o.point)
  pub outcome : HasLeastOutcome M (point_of M o.point) (outcome_of o)

-- ---- inner models

-- the constant of an objective in least form, which is whole
abbrev pub whole_constant : Program → ℕ → ℤ
whole_constant M w = floor (in_least_form M.sense (constant M w))

abbrev pub without_constants : Program → Outcome → Outcome
without_constants M o = record { f1 = o.f1 -ℤ whole_constant M 1; f2 = o.f2 -ℤ whole_constant M 2 }

-- an inner model, and its target: no feasible point of it has a value below that
pub record TargetedModel : Type 0 where
  pub model : Program
  pub target : ℤ

abbrev pub gap_part : Program → ℤ → ℤ → Outcome → Outcome → TargetedModel
gap_part N i1 i2 p q = record { model = gap_model N (p.f2 -ℤ i2) (q.f1 -ℤ i1) i1 i2; target = (p.f2 -ℤ i2) *ℤ (q.f1 -ℤ i1) }

-- the gaps between neighbours, in rising order
abbrev pub gap_parts : Program → ℤ → ℤ → Outcome → List Outcome → List TargetedModel
gap_parts N i1 i2 p [] = []
gap_parts N i1 i2 p (q ∷ l) = gap_part N i1 i2 p q ∷ gap_parts N i1 i2 q l

-- those of the least values, and of the gaps between outcomes without constants
abbrev pub front_parts : Program → Outcome → List Outcome → List TargetedModel
front_parts N p l =
    record { model = N; target = p.f1 } ∷ record { model = least2_model N; target = (last_of p l).f2 } ∷ gap_parts N p.f1 (last_of p l).f2 p l

-- ---- trees

abbrev pub gap_names : ℕ → List Outcome → List TreeOf
gap_names k [] = []
gap_names k (q ∷ l) = Gap k ∷ gap_names (suc k) l

-- the names of the trees: of the least values, and of the gaps from 1
abbrev pub tree_names : List Outcome → List TreeOf
tree_names l = Least1 ∷ Least2 ∷ gap_names 1 l

-- the tree's cuts derive at the inner model, and its leaves close as they say against the target
pub record IsProvedBy (part : TargetedModel) (tree : FrontTree) : Type 0 where
  pub cuts : All (CutStands part.model) tree.cuts
  pub nodes : IsClosedTree (formulation_by part.model tree.cuts) (Optimal (int part.target)) tree.nodes

pub record AcceptsFront (M : Program) (cert : FrontCert) : Type 0 where
  pub first_whole : HasWholeObjective M 1
  pub second_whole : HasWholeObjective M 2
  pub first : Outcome
  pub rest : List Outcome
  pub outcomes : outcomes_of cert ≡ first ∷ rest
  pub points : All (HasItsPoint M) cert.outcomes
  pub apart : IsFront (first ∷ rest)
  pub named : map (λ t. t.of) cert.trees ≡ tree_names rest
  pub proved : AllZip IsProvedBy (front_parts (bare_model M) (without_constants M first) (map (without_constants M) rest)) cert.trees
