use Rattle.std.proofs.Common.{◌≡◌, ◌∙◌, List, sym, subst, ap}
use Rattle.lp_model.specs.Edits.{edited, EditFits}
use Rattle.lp_model.specs.declared.types.CutId.{CutId}
use Rattle.branch_tree.specs.Following.{after_edit}
use Rattle.kept_cuts.specs.Kept.{gone_with, IsPoolAfter}
use Rattle.sound_searches.specs.Sound.{PlainSearch}
use Rattle.tree_edit.proofs.search.Search.followed.Goals as goal

pub returns-in-Ok-followed-clause-pool : goal.returns-in-Ok-followed-clause-pool
returns-in-Ok-followed-clause-pool c = subst (λ (R : PlainSearch). IsPoolAfter R.model c.args.edit.now R.cuts c.args.model.now c.in-Ok-pool_after.pool) c.self.view_is c.in-Ok-pool_after.ensures

pub pool_after-requires-clause-pool : goal.pool_after-requires-clause-pool
pool_after-requires-clause-pool c = c.self.invariant.sound.pool

pub returns-in-Ok-followed-clause-tree : goal.returns-in-Ok-followed-clause-tree
returns-in-Ok-followed-clause-tree c =
    let i = c.self.inside in
    let e = c.args.edit.now in
    subst (λ (R : PlainSearch). c.in-Ok-followed.tree ≡ after_edit R.tree R.model (gone_with R.model e R.cuts) e) c.self.view_is
    (c.in-Ok-followed.ensures ∙ ap (λ (gone : List CutId). after_edit i.tree i.model gone e) (c.deref.ensures.value ∙ c.in-Ok.ensures))

pub gone_with-requires : goal.gone_with-requires
gone_with-requires c = subst (λ (R : PlainSearch). EditFits R.model c.args.edit.now) (sym c.self.view_is) c.requires.fits

pub pool_after-requires-clause-fits : goal.pool_after-requires-clause-fits
pool_after-requires-clause-fits c = subst (λ (R : PlainSearch). EditFits R.model c.args.edit.now) (sym c.self.view_is) c.requires.fits

pub pool_after-requires-clause-edited : goal.pool_after-requires-clause-edited
pool_after-requires-clause-edited c = c.requires.edited ∙ ap (λ (R : PlainSearch). edited R.model c.args.edit.now) (sym c.self.view_is)

pub followed-requires : goal.followed-requires
followed-requires c = subst (λ (R : PlainSearch). EditFits R.model c.args.edit.now) (sym c.self.view_is) c.requires.fits
