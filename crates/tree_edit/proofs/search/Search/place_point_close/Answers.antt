use Rattle.std.proofs.Common.{◌≡◌, refl, subst, sym}
use Rattle.std.proofs.lemmas.Result.{IfOk-weaker}
use Rattle.search_parts.specs.Points.{IsKeepable}
use Rattle.sound_searches.specs.declared.taken.Taken.{Taken}
use Rattle.sound_searches.specs.declared.taken.Taken.TheVariants.{Refused}
use Rattle.sound_searches.specs.Sound.{PlainSearch}
use Rattle.sound_searches.specs.Placing.{TakesPointClose}
use Rattle.tree_edit.proofs.CloseLemmas.{on-err}
use Rattle.tree_edit.proofs.search.Search.place_point_close.Goals as goal

pub place_joined_close-requires-clause-leaf : goal.place_joined_close-requires-clause-leaf
place_joined_close-requires-clause-leaf c = c.requires.leaf

pub place_joined_close-requires-clause-narrow : goal.place_joined_close-requires-clause-narrow
place_joined_close-requires-clause-narrow c = c.requires.narrow

pub place_joined_close-requires-clause-closed : goal.place_joined_close-requires-clause-closed
place_joined_close-requires-clause-closed c = c.requires.closed

pub place_joined_close-requires-clause-joined : goal.place_joined_close-requires-clause-joined
place_joined_close-requires-clause-joined c = c.in-Ok.ensures.joins

pub returns-in-Ok-clause-taken : goal.returns-in-Ok-clause-taken
returns-in-Ok-clause-taken c = c.place_joined_close.ensures.taken

pub returns-in-Ok-clause-kept : goal.returns-in-Ok-clause-kept
returns-in-Ok-clause-kept c = c.place_joined_close.ensures.kept

pub returns-in-Err-clause-taken : goal.returns-in-Err-clause-taken
returns-in-Err-clause-taken c =
    let S : PlainSearch = c.args.self.now in
    let x = c.args.point in
    let path = c.args.region.now in
    let kept = c.args.kept in
    IfOk-weaker c.in-Err.answer (λ (taken : Taken). (taken ≡ Refused) × (¬ IsKeepable S.model x)) (λ (taken : Taken). TakesPointClose S c.args.id path x kept S taken)
    (λ taken h. subst (λ (t : Taken). TakesPointClose S c.args.id path x kept S t) (sym h.0) ((λ k. h.1 k.0), refl)) c.in-Err.ensures.refused

pub returns-in-Err-clause-kept : goal.returns-in-Err-clause-kept
returns-in-Err-clause-kept c = on-err c.in-Err.answer refl
