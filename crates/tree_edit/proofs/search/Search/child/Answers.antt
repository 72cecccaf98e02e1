use Rattle.std.specs.Prelude.{IfOk}
use Rattle.std.proofs.Common.{◌≡◌, ◌++◌, ◌∷◌, [], sym, subst}
use Rattle.lp_model.specs.Regions.{AreNarrow, Path}
use Rattle.sound_searches.specs.Sound.{PlainSearch}
use Rattle.tree_edit.specs.private.PlacingSteps.{IsEnteredChild}
use Rattle.tree_edit.proofs.search.Search.child.Goals as goal

pub judged_child-requires : goal.judged_child-requires
judged_child-requires c = subst (λ (path : Path). AreNarrow path) (sym c.in-Ok.ensures) c.requires

pub returns-in-Ok-copy_lists : goal.returns-in-Ok-copy_lists
returns-in-Ok-copy_lists c =
    let S : PlainSearch = c.args.self.now in
    let path : c.in-Ok.path ≡ c.args.region.now ++ c.args.change ∷ [] = c.in-Ok.ensures in
    let mult : c.in-Ok-copy_lists.mult ≡ c.args.mult.now = c.in-Ok-copy_lists.ensures.mult in
    let basis : c.in-Ok-copy_lists.basis ≡ c.args.basis.now = c.in-Ok-copy_lists.ensures.basis in
    subst (λ P. P) (λ k. IfOk c.judged_child.result (λ child. IsEnteredChild S (path k) (mult k) (basis k) child)) c.judged_child.ensures
