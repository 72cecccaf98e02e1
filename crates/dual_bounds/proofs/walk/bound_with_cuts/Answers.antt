use Rattle.std.proofs.Common.{[], List, refl, sym, subst}
use Rattle.branch_tree.specs.Tree.{HasNarrowSplits}
use Rattle.branch_tree.specs.Leaves.{region_leaves}
use Rattle.branch_tree.specs.Numbered.{NumberedTree}
use Rattle.branch_tree.specs.Visits.{Visits}
use Rattle.leaf_judging.specs.declared.closing.LeafNumber.{LeafNumber}
use Rattle.dual_bounds.specs.declared.walk.Listing.{Listing}
use Rattle.dual_bounds.specs.private.Walk.{ListsLeaf}
use Rattle.dual_bounds.specs.TreeBounds.{bound_of_numbers, IsRoundedBound}
use Rattle.dual_bounds.proofs.SparedLeaves.{leaves-stand}
use Rattle.dual_bounds.proofs.WalkLemmas.{listed-leaves}
use Rattle.dual_bounds.proofs.walk.bound_with_cuts.Goals as goal

pub visit_leaves-requires : goal.visit_leaves-requires
visit_leaves-requires c = subst (λ (T : NumberedTree). HasNarrowSplits T.root) (sym c.tree.ensures.tree) c.tree.ensures.sound.tree.narrow

pub returns-in-Ok : goal.returns-in-Ok
returns-in-Ok c =
    let M = c.args.model.now in
    let S = c.args.search.now in
    let again = c.args.pool.now in
    let given = c.args.given.now in
    let old : Listing = record { model = c.args.model; pool = c.args.pool; search = c.args.search; given = c.args.given; numbers = c.new.result } in
    let new : Listing = c.visit_leaves.new.visitor in
    let walk = subst (λ (T : NumberedTree). Visits ListsLeaf (region_leaves [] T.root) old new) c.tree.ensures.tree c.in-Ok.ensures.visits in
    record {
      numbers = new.numbers.items;
      numbers_are = listed-leaves S M again given (region_leaves [] S.tree.root) old new (leaves-stand S c.tree.ensures.sound M again c.requires.derived given c.requires.given) (refl, refl, refl, refl) c.new.ensures.items walk;
      rounded = subst (λ (numbers : List LeafNumber). IsRoundedBound M (bound_of_numbers numbers) c.proved_bound-bound.result) c.deref.ensures.value c.proved_bound-bound.ensures;
    }
