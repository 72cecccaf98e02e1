-- A leaf has one number, so a tree has one bound, with the cuts as they are and with each derived again; and some points have one least value of those that are feasible.
use Rattle.std.specs.Prelude.{◌≡◌, List, [], ◌∷◌, Ok, Err, Result}
use Rattle.std.proofs.Common.{refl, sym, ap, subst, ◌∙◌, inl, inr}
use Rattle.lp_model.specs.Program.{Program, Point}
use Rattle.lp_model.specs.Regions.{Path}
use Rattle.lp_model.specs.Formulations.{Formulation, formulation}
use Rattle.lp_model.specs.declared.types.CutRow.{CutRow}
use Rattle.lp_model.specs.declared.types.WideStep.{WideStep}
use Rattle.leaf_dual.specs.Dual.{Multipliers}
use Rattle.leaf_dual.specs.declared.dual.LagValue.{LagValue}
use Rattle.leaf_dual.proofs.WeakDuality.{lag_answer-is}
use Rattle.leaf_dual.proofs.OneAnswer.{lag_one}
use Rattle.branch_tree.specs.Leaves.{region_leaves}
use Rattle.branch_tree.specs.Plain.{Plain}
use Rattle.branch_tree.specs.declared.node.RegionLeaf.{RegionLeaf}
use Rattle.leaf_judging.specs.declared.closing.LeafNumber.{LeafNumber}
use Rattle.leaf_judging.specs.declared.closing.LeafNumber.TheVariants.{Empty, Lag, Wide as WideNumber}
use Rattle.leaf_judging.specs.Closing.{IsNumber}
use Rattle.search_parts.specs.Points.{target}
use Rattle.search_parts.specs.EditedPoints.{AreKeepable}
use Rattle.dual_bounds.specs.declared.answers.LowerBound.{LowerBound}
use Rattle.dual_bounds.specs.declared.answers.LowerBound.TheVariants.{Value, NoValue, Infeasible, Wide}
use Rattle.dual_bounds.specs.TreeBounds.{AreLeafNumbers, bound_of_numbers, IsRoundedBound, IsTreeBound, IsTreeBoundAt, upper_bound}
use Rattle.dual_bounds.specs.Laws.{OneBoundLaw}
use Rattle.dual_bounds.proofs.CutLemmas.{derived-one}

-- ---- numbers

ok_err : (v : LagValue) (step : WideStep) → Ok v ≡ Err step → ⊥
ok_err v step e = cc

abbrev err_step : WideStep → Result LagValue WideStep → WideStep
err_step d (Ok v) = d
err_step d (Err step) = step

number-one : (F : Formulation) (path : Path) (mult farkas : Multipliers) (n k : LeafNumber) → IsNumber F path mult farkas n → IsNumber F path mult farkas k → n ≡ k
number-one F path mult farkas Empty Empty is also = refl
number-one F path mult farkas Empty (Lag w) is also = absurd (also.0 is)
number-one F path mult farkas Empty (WideNumber step) is also = absurd (also.0 is)
number-one F path mult farkas (Lag v) Empty is also = absurd (is.0 also)
number-one F path mult farkas (Lag v) (Lag w) is also = ap Lag (lag_answer-is F path mult v is.1 ∙ sym (lag_answer-is F path mult w also.1))
number-one F path mult farkas (Lag v) (WideNumber step) is also = absurd (ok_err v step (lag_one F path mult (Ok v) (Err step) is.1 also.1))
number-one F path mult farkas (WideNumber step) Empty is also = absurd (is.0 also)
number-one F path mult farkas (WideNumber step) (Lag w) is also = absurd (ok_err w step (lag_one F path mult (Ok w) (Err step) also.1 is.1))
number-one F path mult farkas (WideNumber step) (WideNumber other) is also = ap (λ r. WideNumber (err_step step r)) (lag_one F path mult (Err step) (Err other) is.1 also.1)

numbers-one : (F : Formulation) (ls : List RegionLeaf) (ns ks : List LeafNumber) → AreLeafNumbers F ls ns → AreLeafNumbers F ls ks → ns ≡ ks
numbers-one F [] [] [] h g = refl
numbers-one F [] [] (k ∷ ks) h g = absurd g
numbers-one F [] (n ∷ ns) ks h g = absurd h
numbers-one F (l ∷ ls) [] ks h g = absurd h
numbers-one F (l ∷ ls) (n ∷ ns) [] h g = absurd g
numbers-one F (l ∷ ls) (n ∷ ns) (k ∷ ks) h g = λ i. number-one F l.region l.kept.mult l.kept.farkas n k h.0 g.0 i ∷ numbers-one F ls ns ks h.1 g.1 i

rounded-one : (M : Program) (q a b : LowerBound) → IsRoundedBound M q a → IsRoundedBound M q b → a ≡ b
rounded-one M (Value q) a b (inl h) (inl k) = h.1 ∙ sym k.1
rounded-one M (Value q) a b (inl h) (inr k) = absurd (k.0 h.0)
rounded-one M (Value q) a b (inr h) (inl k) = absurd (h.0 k.0)
rounded-one M (Value q) a b (inr h) (inr k) = h.1 ∙ sym k.1
rounded-one M NoValue a b h k = h ∙ sym k
rounded-one M Infeasible a b h k = h ∙ sym k
rounded-one M (Wide leaf step) a b h k = h ∙ sym k

-- ---- points

keepable-one : (M : Program) (xs ys zs : List Point) → AreKeepable M xs ys → AreKeepable M xs zs → ys ≡ zs
keepable-one M [] ys zs h k = h ∙ sym k
keepable-one M (x ∷ xs) ys zs (inl h) (inl k) = keepable-one M xs ys zs h.1 k.1
keepable-one M (x ∷ xs) ys zs (inl h) (inr k) = absurd (h.0 k.0)
keepable-one M (x ∷ xs) ys zs (inr h) (inl k) = absurd (k.0 h.0)
keepable-one M (x ∷ xs) ys zs (inr h) (inr k) = h.1.1.0 ∙ ap (λ l. x ∷ l) (keepable-one M xs h.1.0 k.1.0 h.1.1.1 k.1.1.1) ∙ sym k.1.1.0

-- ---- bounds

tree-one : (F : Formulation) (t : Plain) (a b : LowerBound) → IsTreeBound F t a → IsTreeBound F t b → a ≡ b
tree-one F t a b h k =
    let same = numbers-one F (region_leaves [] t) h.numbers k.numbers h.numbers_are k.numbers_are in
    rounded-one F.model (bound_of_numbers k.numbers) a b (subst (λ ns. IsRoundedBound F.model (bound_of_numbers ns) a) same h.rounded) k.rounded

at-one : (M : Program) (cuts : List CutRow) (t : Plain) (a b : LowerBound) → IsTreeBoundAt M cuts t a → IsTreeBoundAt M cuts t b → a ≡ b
at-one M cuts t a b h k =
    let same = derived-one M cuts h.again k.again h.derived k.derived in
    tree-one (formulation M k.again) t a b (subst (λ (again : List CutRow). IsTreeBound (formulation M again) t a) same h.is) k.is

pub one-bound : OneBoundLaw
one-bound = (
  tree-one,
  at-one,
  (λ M points a b h k. h.is ∙ ap (λ ys. upper_bound (target M ys)) (keepable-one M points h.feasible k.feasible h.feasible_are k.feasible_are) ∙ sym k.is),
)
