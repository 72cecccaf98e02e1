use Rattle.std.proofs.Common.{◌≡◌, Some, IfOk, sym, subst}
use Rattle.std.specs.Option.{MatchOption}
use Rattle.std.proofs.lemmas.Bool.{MatchBool-at_false}
use Rattle.lp_model.specs.Regions.{Path}
use Rattle.branch_tree.specs.Plain.{data_of}
use Rattle.branch_tree.specs.declared.node.LeafData.{LeafData}
use Rattle.branch_tree.specs.declared.node.LeafState.TheVariants.{IsOpen}
use Rattle.sound_searches.specs.Sound.{PlainSearch}
use Rattle.sound_searches.specs.Placing.{IsStale, IsOpenPlace}
use Rattle.sound_searches.proofs.PlaceLemmas.{open-found}
use Rattle.tree_edit.proofs.search.Search.open_region.Goals as goal

pub returns : goal.returns
returns c =
    let i = c.self.inside in
    let S : PlainSearch = record { model = i.model; cuts = i.pool; tree = i.tree; points = i.points.items } in
    let kept : LeafData = c.in-Some.leaf.now in
    let is_open : kept.state ≡ IsOpen = MatchBool-at_false _ _ c.if-is_closed.false c.is_closed.ensures in
    let data_is : data_of c.args.id S.tree.root ≡ Some kept = sym c.in-Some.ensures.data in
    subst (λ (R : PlainSearch). IfOk c.region_of.result (λ p. MatchOption p (IsStale R c.args.id) (λ (path : Path). IsOpenPlace R c.args.id path))) c.self.view_is
    (open-found S c.args.id kept c.self.invariant.sound c.in-Some.ensures.found data_is is_open c.region_of.result c.region_of.ensures.region c.region_of.ensures.found)
