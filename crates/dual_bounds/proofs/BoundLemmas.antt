-- What the bounds prove of the feasible points: the region of each such point is a leaf's, and each leaf closes against the bound.
use Rattle.std.specs.Prelude.{◌≡◌, ℕ, ◌<◌, IsTrue, List, [], ◌∷◌, length, All, Option, Some, None, ℤ}
use Rattle.std.proofs.Common.{refl, sym, subst}
use Rattle.frac128.specs.Rational.{ℚ}
use Rattle.lp_model.specs.Program.{Program, Point, is_integer, IsFeasible}
use Rattle.lp_model.specs.Regions.{InRegion}
use Rattle.lp_model.specs.Formulations.{Formulation, formulation, IsValid}
use Rattle.branch_tree.specs.Tree.{Tree, Leaf, Split, EachSplit, SplitsLawfully, EachLeaf}
use Rattle.branch_tree.specs.Plain.{Plain}
use Rattle.branch_tree.specs.Leaves.{region_leaves}
use Rattle.branch_tree.proofs.TreeLemmas.{point_in_one_leaf, leaf_with_both}
use Rattle.leaf_judging.specs.Closing.{ClosesBy}
use Rattle.search_parts.specs.Points.{IsKeepable, target}
use Rattle.sound_searches.specs.Laws.{IsNoBetter}
use Rattle.sound_searches.proofs.ClosedTree.{number-bound}
use Rattle.search_parts.proofs.KeepableLemmas.{keepable-all}
use Rattle.sound_searches.proofs.TakenLemmas.{least_is}
use Rattle.dual_bounds.specs.declared.answers.LowerBound.{LowerBound}
use Rattle.dual_bounds.specs.declared.answers.LowerBound.TheVariants.{Value, NoValue, Infeasible, Wide}
use Rattle.dual_bounds.specs.declared.answers.UpperBound.{UpperBound}
use Rattle.dual_bounds.specs.NewNumbers.{with_new_sides, with_new_costs}
use Rattle.dual_bounds.specs.declared.new_numbers.OtherNumbers.TheVariants.{Sides, Costs}
use Rattle.dual_bounds.specs.TreeBounds.{IsPointBound, upper_bound}
use Rattle.dual_bounds.specs.Laws.{IsTrueLowerBound, IsTrueUpperBound, TreeBoundLaw, PointBoundLaw, NewNumbersLaw}
use Rattle.dual_bounds.proofs.CutLemmas.{pool-valid}
use Rattle.dual_bounds.proofs.ModelLemmas.{costs-integer}
use Rattle.dual_bounds.proofs.NumberLists.{AllClose, BoundCloses, bound-closes}
use Rattle.dual_bounds.proofs.WalkLemmas.{LeafCloses, leaf-listed, leaves-close}

-- ---- lower bounds

-- where each leaf closes, no feasible point is better
closed-tree : (F : Formulation) (t : Option ℚ) (u : Plain) → IsValid F → SplitsLawfully F.model u → EachLeaf (λ p l. ClosesBy F t p l.kept) [] u → (y : Point) → IsFeasible F.model y → IsNoBetter F.model t y
closed-tree F t u valid lawful each y feasible =
    let one = point_in_one_leaf F.model u y lawful feasible in
    let both = leaf_with_both (λ path l. InRegion path y) (λ path l. ClosesBy F t path l.kept) [] u each one in
    let closes = both.1.1.1 in
    number-bound F valid y feasible both.0 both.1.1.0 t both.1.0.kept.mult both.1.0.kept.farkas closes.0 closes.1.0 closes.1.1

pub tree-bound : TreeBoundLaw
tree-bound F u bound valid lawful h = by bound (bound-closes F.model h.numbers bound h.rounded)
  where
    each : (t : Option ℚ) → AllClose F.model t h.numbers → (y : Point) → IsFeasible F.model y → IsNoBetter F.model t y
    each t closes = closed-tree F t u valid lawful (leaf-listed (LeafCloses F t) [] u (leaves-close F t (region_leaves [] u) h.numbers h.numbers_are closes))

    by : (b : LowerBound) → BoundCloses F.model h.numbers b → IsTrueLowerBound F.model b
    by (Value r) closes = each (Some r) closes
    by NoValue closes = tt
    by Infeasible closes = each None closes
    by (Wide leaf step) closes = tt

-- ---- upper bounds

pub point-bound : PointBoundLaw
point-bound M points bound h = subst (IsTrueUpperBound M) (sym h.is) (by h.feasible (keepable-all M points h.feasible h.feasible_are))
  where
    by : (ys : List Point) → All (IsKeepable M) ys → IsTrueUpperBound M (upper_bound (target M ys))
    by [] all = tt
    by (y ∷ ys) all =
        let (z, (keepable, (is, least))) = least_is M (IsKeepable M) y ys all in
        subst (λ t. IsTrueUpperBound M (upper_bound t)) (sym is) (z, (keepable.feasible.0, refl))

-- ---- other sides and costs: the splits stay on integer columns

each_split-weaker : {S L : Type 0} (P Q : ℕ → ℤ → Type 0) → ((j : ℕ) (v : ℤ) → P j v → Q j v) → (t : Tree S L) → EachSplit P t → EachSplit Q t
each_split-weaker P Q w (Leaf kept) h = tt
each_split-weaker P Q w (Split kept j v left right) h = (w j v h.0, (each_split-weaker P Q w left h.1.0, each_split-weaker P Q w right h.1.1))

pub new-numbers : NewNumbersLaw
new-numbers S (Sides sides) bound sound h =
    let M = with_new_sides S.model sides in
    tree-bound (formulation M h.again) S.tree.root bound (pool-valid M h.again h.derived.pool) sound.tree.lawful h.is
new-numbers S (Costs costs) bound sound h =
    let M = with_new_costs S.model costs in
    let lawful : SplitsLawfully M S.tree.root =
    each_split-weaker (λ j v. (j < length S.model.cols) × IsTrue (is_integer S.model j)) (λ j v. (j < length M.cols) × IsTrue (is_integer M j)) (λ j v k. costs-integer S.model costs j k) S.tree.root sound.tree.lawful in
    tree-bound (formulation M h.again) S.tree.root bound (pool-valid M h.again h.derived.pool) lawful h.is

-- ---- what the calls compute is said of the search

pub point-bound-of : (made M : Program) (xs ys : List Point) (bound : UpperBound) → made ≡ M → xs ≡ ys → IsPointBound made xs bound → IsPointBound M ys bound
point-bound-of made M xs ys bound m p h = subst (λ P. P) (λ i. IsPointBound (m i) (p i) bound) h
