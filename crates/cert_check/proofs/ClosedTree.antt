-- A lawful tree whose leaves close as they say proves the claim.
use Rattle.std.specs.Prelude.{◌≡◌, ℕ, true, false, List, [], All}
use Rattle.std.proofs.Common.{subst, sym, inl, inr}
use Rattle.frac128.specs.Rational.{ℚ, ◌-ℚ◌, ◌≤ℚ◌}
use Rattle.frac128.specs.RationalOrder.{not_both_ℚ}
use Rattle.lp_model.specs.Program.{Program, Point, least_value, in_least_form, IsFeasible, IsEmpty}
use Rattle.lp_model.specs.Edits.{Named}
use Rattle.lp_model.specs.Regions.{Path, InRegion}
use Rattle.lp_model.specs.Formulations.{Formulation, IsValid}
use Rattle.lp_model.proofs.RegionLemmas.{empty_region}
use Rattle.model_points.proofs.UnboundedLemmas.{unbounded}
use Rattle.leaf_dual.specs.Dual.{Multipliers, lag, ReachesIn}
use Rattle.leaf_dual.proofs.WeakDuality.{farkas-none, reached-bound}
use Rattle.branch_tree.specs.Tree.{Tree, SplitsLawfully, EachLeaf}
use Rattle.branch_tree.proofs.TreeLemmas.{point_in_one_leaf, leaf_with_both}
use Rattle.cert_text.specs.declared.cert.Claim.{Claim}
use Rattle.cert_text.specs.declared.cert.Claim.TheVariants.{Optimal, Within, Infeasible, Unbounded}
use Rattle.cert_text.specs.declared.cert.NamedCut.{NamedCut}
use Rattle.cert_text.specs.declared.cert.CertNode.{CertNode}
use Rattle.cert_text.specs.declared.cert.CertNode.TheVariants.{Split, Bound, Farkas, Empty}
use Rattle.cert_text.specs.declared.cert.Cert.{Cert}
use Rattle.cert_check.specs.Places.{with_places}
use Rattle.cert_check.specs.Mults.{mults_of}
use Rattle.cert_check.specs.Accepted.{Closes, HasPoint, HasRay, IsClosedTree, HasClosedTree, Accepts, point_of}
use Rattle.cert_check.specs.Laws.{IsTrueClaim}
use Rattle.cert_check.specs.Cuts.{formulation_by, CutStands}
use Rattle.cert_check.proofs.ValidCuts.{valid}

module _ (F : Formulation) (is_valid : IsValid F) where
  module _ (y : Point) (feasible : IsFeasible F.model y) (path : Path) (inside : InRegion path y) where
    -- no feasible point of a region whose number reaches a value is below it
    reaches_value-bound : (mult : Multipliers) (t : ℚ) → ReachesIn F.model (lag F path mult) t → t ≤ℚ least_value F.model 1 y
    reaches_value-bound mult t reaches =
        elim reaches [
          | inl plain ↦ reached-bound F path mult y is_valid feasible inside t false (λ never. let f : false ≡ true = never in absurd cc) plain
          | inr rounded ↦ reached-bound F path mult y is_valid feasible inside t true (λ _. rounded.0) rounded.1
        ]

    -- a leaf that closes has no feasible point with a value below the claimed one
    closes-bound : (v : ℚ) (n : CertNode) → Closes F (Optimal v) path n → in_least_form F.model.sense v ≤ℚ least_value F.model 1 y
    closes-bound v (Bound mults) closes = reaches_value-bound (mults_of F.model mults) (in_least_form F.model.sense v) closes.1
    closes-bound v (Farkas mults) closes = absurd (farkas-none F path (mults_of F.model mults) y is_valid feasible inside closes.1)
    closes-bound v Empty closes = absurd (empty_region F.model y path closes feasible inside)
    closes-bound v (Split col w) closes = absurd closes

    -- or below that less the gap
    closes-within : (g v : ℚ) (n : CertNode) → Closes F (Within g v) path n → in_least_form F.model.sense v -ℚ g ≤ℚ least_value F.model 1 y
    closes-within g v (Bound mults) closes = reaches_value-bound (mults_of F.model mults) (in_least_form F.model.sense v -ℚ g) closes.1
    closes-within g v (Farkas mults) closes = absurd (farkas-none F path (mults_of F.model mults) y is_valid feasible inside closes.1)
    closes-within g v Empty closes = absurd (empty_region F.model y path closes feasible inside)
    closes-within g v (Split col w) closes = absurd closes

    -- and none at all where none is claimed feasible
    closes-none : (n : CertNode) → Closes F Infeasible path n → ⊥
    closes-none (Bound mults) closes = closes.1
    closes-none (Farkas mults) closes = farkas-none F path (mults_of F.model mults) y is_valid feasible inside closes.1
    closes-none Empty closes = empty_region F.model y path closes feasible inside
    closes-none (Split col w) closes = closes

    no_bound-none : (n : CertNode) → Closes F Unbounded path n → ⊥
    no_bound-none (Bound mults) closes = closes.1
    no_bound-none (Farkas mults) closes = farkas-none F path (mults_of F.model mults) y is_valid feasible inside closes.1
    no_bound-none Empty closes = empty_region F.model y path closes feasible inside
    no_bound-none (Split col w) closes = closes

  module _ (tree : Tree (List ℕ) CertNode) (lawful : SplitsLawfully F.model tree) where
    tree-bound : (v : ℚ) → EachLeaf (Closes F (Optimal v)) [] tree → (y : Point) → IsFeasible F.model y → in_least_form F.model.sense v ≤ℚ least_value F.model 1 y
    tree-bound v closed y feasible =
        let found = leaf_with_both (λ path leaf. InRegion path y) (Closes F (Optimal v)) [] tree closed (point_in_one_leaf F.model tree y lawful feasible) in
        closes-bound y feasible found.0 found.1.1.0 v found.1.0 found.1.1.1

    tree-within : (g v : ℚ) → EachLeaf (Closes F (Within g v)) [] tree → (y : Point) → IsFeasible F.model y → in_least_form F.model.sense v -ℚ g ≤ℚ least_value F.model 1 y
    tree-within g v closed y feasible =
        let found = leaf_with_both (λ path leaf. InRegion path y) (Closes F (Within g v)) [] tree closed (point_in_one_leaf F.model tree y lawful feasible) in
        closes-within y feasible found.0 found.1.1.0 g v found.1.0 found.1.1.1

    tree-empty : EachLeaf (Closes F Infeasible) [] tree → IsEmpty F.model
    tree-empty closed y feasible =
        let found = leaf_with_both (λ path leaf. InRegion path y) (Closes F Infeasible) [] tree closed (point_in_one_leaf F.model tree y lawful feasible) in
        closes-none y feasible found.0 found.1.1.0 found.1.0 found.1.1.1

    -- no tree closes where the model is claimed unbounded: there is a feasible point
    tree-unbounded : EachLeaf (Closes F Unbounded) [] tree → IsEmpty F.model
    tree-unbounded closed y feasible =
        let found = leaf_with_both (λ path leaf. InRegion path y) (Closes F Unbounded) [] tree closed (point_in_one_leaf F.model tree y lawful feasible) in
        no_bound-none y feasible found.0 found.1.1.0 found.1.0 found.1.1.1

    tree-claim : (claim : Claim) (named : Named) → HasPoint F.model claim named → EachLeaf (Closes F claim) [] tree → IsTrueClaim F.model claim
    tree-claim (Optimal v) named point closed = (
      point_of F.model named,
      (
        record {
          feasible = point.feasible;
          unbeaten = λ y y_feasible beats.
              not_both_ℚ (subst (λ w. in_least_form F.model.sense w ≤ℚ least_value F.model 1 y) (sym point.is) (tree-bound v closed y y_feasible)) beats.better;
        },
        point.is,
      ),
    )
    tree-claim (Within g v) named point closed = (
      point_of F.model named,
      (
        record {
          feasible = point.feasible;
          unbeaten = λ y y_feasible. subst (λ w. in_least_form F.model.sense w -ℚ g ≤ℚ least_value F.model 1 y) (sym point.is) (tree-within g v closed y y_feasible);
        },
        point.is,
      ),
    )
    tree-claim Infeasible named point closed = tree-empty closed
    tree-claim Unbounded named point closed = absurd (tree-unbounded closed (point_of F.model named) point.feasible)

closed_tree-claim : (M : Program) (claim : Claim) (point : Named) → HasPoint M claim point → (cuts : List NamedCut) → All (CutStands M) cuts → (nodes : List CertNode) → IsClosedTree (formulation_by M cuts) claim nodes → IsTrueClaim M claim
closed_tree-claim M claim point has cuts stand nodes t = tree-claim (formulation_by M cuts) (valid M cuts stand) (with_places M t.tree) t.splits claim point has t.leaves

-- no feasible point of a model has a value below one against which a lawful tree closes
pub closed_tree-bound : (M : Program) (cuts : List NamedCut) → All (CutStands M) cuts → (v : ℚ) (nodes : List CertNode) → IsClosedTree (formulation_by M cuts) (Optimal v) nodes
    → (y : Point) → IsFeasible M y → in_least_form M.sense v ≤ℚ least_value M 1 y
closed_tree-bound M cuts stand v nodes t y feasible = tree-bound (formulation_by M cuts) (valid M cuts stand) (with_places M t.tree) t.splits v t.leaves y feasible

parts-claim : (M : Program) (claim : Claim) (point ray : Named) (cuts : List NamedCut) (nodes : List CertNode) → HasPoint M claim point → HasRay M claim ray → All (CutStands M) cuts → HasClosedTree (formulation_by M cuts) claim nodes → IsTrueClaim M claim
parts-claim M (Optimal v) point ray cuts nodes has no_ray stand tree = closed_tree-claim M (Optimal v) point has cuts stand nodes tree
parts-claim M (Within g v) point ray cuts nodes has no_ray stand tree = closed_tree-claim M (Within g v) point has cuts stand nodes tree
parts-claim M Infeasible point ray cuts nodes has no_ray stand tree = closed_tree-claim M Infeasible point has cuts stand nodes tree
parts-claim M Unbounded point ray cuts nodes has is stand none = unbounded M (point_of M point) (point_of M ray) has.feasible is.is_ray

pub accepted_claim : (M : Program) (cert : Cert) → Accepts M cert → IsTrueClaim M cert.claim
accepted_claim M cert accepts = parts-claim M cert.claim cert.point cert.ray cert.cuts cert.nodes accepts.point accepts.ray accepts.cuts accepts.nodes
