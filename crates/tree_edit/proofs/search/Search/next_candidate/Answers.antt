use Rattle.std.proofs.Common.{[], subst}
use Rattle.branch_tree.specs.Leaves.{region_leaves}
use Rattle.leaf_judging.specs.Choosing.{IsFirstCandidate}
use Rattle.sound_searches.specs.Sound.{PlainSearch, formulation_of}
use Rattle.tree_edit.proofs.NextLemmas.{first-of}
use Rattle.tree_edit.proofs.search.Search.next_candidate.Goals as goal

pub returns : goal.returns
returns c =
    let i = c.self.inside in
    let S : PlainSearch = record { model = i.model; cuts = i.pool; tree = i.tree; points = i.points.items } in
    subst (λ (T : PlainSearch). IsFirstCandidate (formulation_of T) (region_leaves [] T.tree.root) c.first_candidate.result) c.self.view_is (first-of S i.queue c.first_candidate.result c.self.invariant.queue_is c.first_candidate.ensures)
