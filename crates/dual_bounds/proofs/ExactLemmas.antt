-- Where no leaf of a sound search is open, both bounds at its own model are the value of its incumbent: each leaf closes against
-- it, so no number is below it but by rounding; and no bound is past it.
use Rattle.std.specs.Prelude.{◌≡◌, List, [], Option, Some, None, unwrap_or}
use Rattle.std.proofs.Common.{ap, subst, ◌∙◌, inl, inr}
use Rattle.std.proofs.lemmas.List.Elements.{All-get_or}
use Rattle.frac128.specs.Rational.{ℚ, int, ceil}
use Rattle.frac128.specs.RationalOrder.{≤ℚ_antisymm}
use Rattle.lp_model.specs.Program.{Point, least_value, IsFeasible}
use Rattle.lp_model.specs.Formulations.{formulation}
use Rattle.lp_model.specs.declared.types.CutRow.{CutRow}
use Rattle.branch_tree.specs.Tree.{EachLeaf}
use Rattle.branch_tree.specs.Leaves.{region_leaves}
use Rattle.branch_tree.specs.declared.node.LeafState.TheVariants.{IsClosed}
use Rattle.leaf_judging.specs.Closing.{NumberCloses, ClosesBy, StateSays, IsJudgedLeaf}
use Rattle.search_parts.specs.Points.{IsKeepable, target, IsIncumbent, IsIncumbentAt}
use Rattle.sound_searches.specs.Laws.{HasNoOpenLeaf}
use Rattle.sound_searches.specs.Sound.{PlainSearch, formulation_of, IsSound}
use Rattle.sound_searches.proofs.ClosedTree.{each_both, valid-sound}
use Rattle.sound_searches.proofs.SoundLemmas.{each-weaker}
use Rattle.search_parts.proofs.PointLemmas.{target-at}
use Rattle.dual_bounds.specs.declared.answers.LowerBound.{LowerBound}
use Rattle.dual_bounds.specs.declared.answers.LowerBound.TheVariants as lower
use Rattle.dual_bounds.specs.declared.answers.UpperBound.{UpperBound}
use Rattle.dual_bounds.specs.declared.answers.UpperBound.TheVariants as upper
use Rattle.dual_bounds.specs.TreeBounds.{least_of_numbers, value_or_infeasible, IsRoundedBound, IsTreeBound, IsTreeBoundAt, upper_bound, IsPointBound}
use Rattle.dual_bounds.specs.Laws.{IsTrueLowerBound, ExactLaw}
use Rattle.dual_bounds.proofs.CutLemmas.{derived-same}
use Rattle.dual_bounds.proofs.NumberLists.{AllClose, LeastCloses, closes-undecided, closes-least, closes-ceil, closes-plain}
use Rattle.dual_bounds.proofs.WalkLemmas.{LeafCloses, list-leaved, numbers-close}
use Rattle.dual_bounds.proofs.PointLemmas.{keepable-same}
use Rattle.dual_bounds.proofs.BoundLemmas.{tree-bound}

module _ (S : PlainSearch) (sound : IsSound S) (closed : HasNoOpenLeaf S) (x : Point) (best : IsIncumbent S.model S.points (Some x)) where
  feasible : IsFeasible S.model x
  feasible =
      let at : IsIncumbentAt S.model S.points x best.0 = best.1 in
      let kept : IsKeepable S.model x = subst (IsKeepable S.model) at.is (All-get_or (IsKeepable S.model) S.points best.0 x at.within sound.points) in
      kept.feasible.0

  target-is : target S.model S.points ≡ Some (least_value S.model 1 x)
  target-is = target-at S.model S.points x best.0 best.1

  -- each leaf closes against the incumbent's value
  leaves-closed : EachLeaf (λ p l. ClosesBy (formulation_of S) (Some (least_value S.model 1 x)) p l.kept) [] S.tree.root
  leaves-closed =
      each-weaker (λ p l. IsJudgedLeaf (formulation_of S) (target S.model S.points) p l.kept × (l.kept.state ≡ IsClosed)) (λ p l. ClosesBy (formulation_of S) (Some (least_value S.model 1 x)) p l.kept)
      (λ p l h. (h.0.number, (h.0.number_is, subst (λ t. NumberCloses S.model t h.0.number) target-is (subst (λ s. StateSays s (NumberCloses S.model (target S.model S.points) h.0.number)) h.1 h.0.says))))
      [] S.tree.root
      (each_both (λ p l. IsJudgedLeaf (formulation_of S) (target S.model S.points) p l.kept) (λ p l. l.kept.state ≡ IsClosed) [] S.tree.root sound.judged closed)

  module _ (bound : LowerBound) (h : IsTreeBound (formulation_of S) S.tree.root bound) where
    all-close : AllClose S.model (Some (least_value S.model 1 x)) h.numbers
    all-close =
        numbers-close (formulation_of S) (Some (least_value S.model 1 x)) (region_leaves [] S.tree.root) h.numbers h.numbers_are
        (list-leaved (LeafCloses (formulation_of S) (Some (least_value S.model 1 x))) [] S.tree.root leaves-closed)

    -- the bound is not past it
    under : IsTrueLowerBound S.model bound
    under = tree-bound (formulation_of S) S.tree.root bound (valid-sound S sound) sound.tree.lawful h

    rounded : IsRoundedBound S.model (value_or_infeasible (least_of_numbers h.numbers)) bound
    rounded = subst (λ d. IsRoundedBound S.model (unwrap_or d (value_or_infeasible (least_of_numbers h.numbers))) bound) (closes-undecided S.model (least_value S.model 1 x) 0 h.numbers all-close) h.rounded

    by-least : (o : Option ℚ) → LeastCloses S.model (least_value S.model 1 x) o → IsRoundedBound S.model (value_or_infeasible o) bound → bound ≡ lower.Value (least_value S.model 1 x)
    by-least None closes e = let empty : IsTrueLowerBound S.model lower.Infeasible = subst (IsTrueLowerBound S.model) e under in absurd (empty x feasible)
    by-least (Some q) closes (inl up) =
        let below : IsTrueLowerBound S.model (lower.Value (int (ceil q))) = subst (IsTrueLowerBound S.model) up.1 under in
        up.1 ∙ ap (λ r. lower.Value r) (≤ℚ_antisymm (below x feasible) (closes-ceil S.model (least_value S.model 1 x) q closes))
    by-least (Some q) closes (inr plain) =
        let below : IsTrueLowerBound S.model (lower.Value q) = subst (IsTrueLowerBound S.model) plain.1 under in
        plain.1 ∙ ap (λ r. lower.Value r) (≤ℚ_antisymm (below x feasible) (closes-plain S.model (least_value S.model 1 x) plain.0 q closes))

    exact-lower : bound ≡ lower.Value (least_value S.model 1 x)
    exact-lower = by-least (least_of_numbers h.numbers) (closes-least S.model (least_value S.model 1 x) h.numbers all-close) rounded

  exact-upper : (bound : UpperBound) → IsPointBound S.model S.points bound → bound ≡ upper.Value (least_value S.model 1 x)
  exact-upper bound h =
      let same : h.feasible ≡ S.points = keepable-same S.model S.points h.feasible sound.points h.feasible_are in
      h.is ∙ ap (λ ys. upper_bound (target S.model ys)) same ∙ ap upper_bound target-is

-- derived again at the search's own model its cuts are themselves
own-bound : (S : PlainSearch) → IsSound S → (bound : LowerBound) → IsTreeBoundAt S.model S.cuts S.tree.root bound → IsTreeBound (formulation_of S) S.tree.root bound
own-bound S sound bound h = subst (λ (cuts : List CutRow). IsTreeBound (formulation S.model cuts) S.tree.root bound) (derived-same S.model S.cuts h.again sound.pool h.derived) h.is

pub exact : ExactLaw
exact S sound = (
  (λ bound h closed x best. exact-lower S sound closed x best bound (own-bound S sound bound h)),
  (λ bound h closed x best. exact-upper S sound closed x best bound h),
)
