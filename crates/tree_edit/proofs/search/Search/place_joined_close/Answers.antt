use Rattle.std.proofs.Common.{refl}
use Rattle.std.proofs.lemmas.Result.{IfOk-weaker}
use Rattle.sound_searches.specs.declared.taken.Taken.{Taken}
use Rattle.sound_searches.specs.Sound.{PlainSearch, formulation_of}
use Rattle.sound_searches.specs.Placing.{TakesPointClose}
use Rattle.tree_edit.specs.private.PlacingSteps.{StaysOpen}
use Rattle.tree_edit.proofs.CloseLemmas.{stays-open_with, on-err}
use Rattle.tree_edit.proofs.search.Search.place_joined_close.Goals as goal

pub put_joined_close-requires-clause-leaf : goal.put_joined_close-requires-clause-leaf
put_joined_close-requires-clause-leaf c = c.requires.leaf

pub put_joined_close-requires-clause-entry : goal.put_joined_close-requires-clause-entry
put_joined_close-requires-clause-entry c = c.in-Ok.ensures.closes.entry_is

pub put_joined_close-requires-clause-closed : goal.put_joined_close-requires-clause-closed
put_joined_close-requires-clause-closed c = c.requires.closed

pub put_joined_close-requires-clause-joined : goal.put_joined_close-requires-clause-joined
put_joined_close-requires-clause-joined c = c.requires.joined

pub put_joined_close-requires-clause-lists : goal.put_joined_close-requires-clause-lists
put_joined_close-requires-clause-lists c = c.in-Ok.ensures.closes.lists

pub put_joined_close-requires-clause-closes : goal.put_joined_close-requires-clause-closes
put_joined_close-requires-clause-closes c = c.in-Ok.ensures.closes.closes

pub returns-in-Ok-clause-taken : goal.returns-in-Ok-clause-taken
returns-in-Ok-clause-taken c = c.put_joined_close.ensures.taken

pub returns-in-Ok-clause-kept : goal.returns-in-Ok-clause-kept
returns-in-Ok-clause-kept c = c.put_joined_close.ensures.kept

pub returns-in-Err-clause-taken : goal.returns-in-Err-clause-taken
returns-in-Err-clause-taken c =
    let S : PlainSearch = c.args.self.now in
    let x = c.args.point in
    let path = c.args.region.now in
    let kept = c.args.kept in
    let j = c.args.joined in
    IfOk-weaker c.in-Err.answer (λ (taken : Taken). StaysOpen (formulation_of S) j.target path kept taken) (λ (taken : Taken). TakesPointClose S c.args.id path x kept S taken) (stays-open_with S c.args.id path kept x j c.requires.joined) c.in-Err.ensures.open

pub returns-in-Err-clause-kept : goal.returns-in-Err-clause-kept
returns-in-Err-clause-kept c = on-err c.in-Err.answer refl
