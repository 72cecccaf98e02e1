use Rattle.tree_edit.proofs.SplitLemmas.{narrow-left, narrow-right}
use Rattle.std.proofs.Common.{sym, subst, ◌++◌, ◌∷◌, []}
use Rattle.lp_model.specs.Regions.{AreNarrow}
use Rattle.lp_model.specs.declared.types.BoundChange.{BoundChange}
use Rattle.sound_searches.specs.Sound.{PlainSearch}
use Rattle.tree_edit.specs.private.PlacingSteps.{IsEnteredChild}
use Rattle.tree_edit.proofs.search.Search.children.Goals as goal

pub child-requires : goal.child-requires
child-requires c =
    let path = c.args.region.now in
    let split = c.args.split.now in
    let room = c.requires.room in
    subst (λ (b : BoundChange). AreNarrow (path ++ b ∷ [])) (sym c.up_to.ensures) (narrow-left path split.col.0 split.v c.requires.narrow room.0 room.1)

pub child-requires-2 : goal.child-requires-2
child-requires-2 c =
    let path = c.args.region.now in
    let split = c.args.split.now in
    let room = c.requires.room in
    subst (λ (b : BoundChange). AreNarrow (path ++ b ∷ [])) (sym c.above.ensures) (narrow-right path split.col.0 split.v c.requires.narrow room.0 room.1)

pub returns-in-Ok-child-clause-left : goal.returns-in-Ok-child-clause-left
returns-in-Ok-child-clause-left c =
    let S : PlainSearch = c.args.self.now in
    let path = c.args.region.now in
    let split = c.args.split.now in
    subst (λ (b : BoundChange). IsEnteredChild S (path ++ b ∷ []) split.mult split.basis c.in-Ok.left) c.up_to.ensures c.in-Ok.ensures

pub returns-in-Ok-child-clause-right : goal.returns-in-Ok-child-clause-right
returns-in-Ok-child-clause-right c =
    let S : PlainSearch = c.args.self.now in
    let path = c.args.region.now in
    let split = c.args.split.now in
    subst (λ (b : BoundChange). IsEnteredChild S (path ++ b ∷ []) split.mult split.basis c.in-Ok-child.right) c.above.ensures c.in-Ok-child.ensures
