use Rattle.std.specs.Prelude.{Option}
use Rattle.std.proofs.Common.{refl, subst}
use Rattle.std.proofs.lemmas.Result.{IfOk-weaker}
use Rattle.frac128.specs.Rational.{ℚ}
use Rattle.leaf_judging.specs.Closing.{ClosesBy}
use Rattle.search_parts.specs.Points.{target}
use Rattle.sound_searches.specs.declared.taken.Taken.{Taken}
use Rattle.sound_searches.specs.Sound.{PlainSearch, formulation_of}
use Rattle.sound_searches.specs.Placing.{TakesClose}
use Rattle.tree_edit.specs.private.PlacingSteps.{StaysOpen}
use Rattle.tree_edit.proofs.CloseLemmas.{judged-closed, stays-open, on-err}
use Rattle.tree_edit.proofs.search.Search.place_close.Goals as goal

pub put_closed-requires-clause-leaf : goal.put_closed-requires-clause-leaf
put_closed-requires-clause-leaf c = c.requires.leaf

pub put_closed-requires-clause-entry : goal.put_closed-requires-clause-entry
put_closed-requires-clause-entry c = c.in-Ok.ensures.closes.entry_is

pub put_closed-requires-clause-lists : goal.put_closed-requires-clause-lists
put_closed-requires-clause-lists c = c.in-Ok.ensures.closes.lists

pub put_closed-requires-clause-judged : goal.put_closed-requires-clause-judged
put_closed-requires-clause-judged c =
    let S : PlainSearch = c.args.self.now in
    let path = c.args.region.now in
    let kept = c.args.kept in
    judged-closed (formulation_of S) (target S.model S.points) path kept (subst (λ (t : Option ℚ). ClosesBy (formulation_of S) t path kept) c.target-target.ensures c.in-Ok.ensures.closes.closes) c.requires.closed

pub put_closed-requires-clause-closed : goal.put_closed-requires-clause-closed
put_closed-requires-clause-closed c = c.requires.closed

pub returns-in-Ok-clause-taken : goal.returns-in-Ok-clause-taken
returns-in-Ok-clause-taken c =
    let S : PlainSearch = c.args.self.now in
    let path = c.args.region.now in
    let kept = c.args.kept in
    (c.in-Ok.ensures.closes.lists, subst (λ (t : Option ℚ). ClosesBy (formulation_of S) t path kept) c.target-target.ensures c.in-Ok.ensures.closes.closes, c.put_closed.ensures)

pub returns-in-Err-clause-taken : goal.returns-in-Err-clause-taken
returns-in-Err-clause-taken c =
    let S : PlainSearch = c.args.self.now in
    let path = c.args.region.now in
    let kept = c.args.kept in
    IfOk-weaker c.in-Err.answer (λ (taken : Taken). StaysOpen (formulation_of S) c.target-target.result path kept taken) (λ (taken : Taken). TakesClose S c.args.id path kept S taken)
    (λ taken h. stays-open S c.args.id path kept taken (subst (λ (t : Option ℚ). StaysOpen (formulation_of S) t path kept taken) c.target-target.ensures h)) c.in-Err.ensures.open

pub returns-in-Err-clause-kept : goal.returns-in-Err-clause-kept
returns-in-Err-clause-kept c = on-err c.in-Err.answer refl
