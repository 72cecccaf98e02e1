use Rattle.std.proofs.Common.{sym, subst}
use Rattle.leaf_judging.specs.Closing.{ClosesBy}
use Rattle.leaf_judging.specs.Totals.{IsEntryOf}
use Rattle.search_parts.specs.Lists.{HasLists}
use Rattle.sound_searches.specs.Sound.{PlainSearch, formulation_of}
use Rattle.search_parts.specs.Points.{target}
use Rattle.tree_edit.proofs.CloseLemmas.{judged-closed}
use Rattle.tree_edit.proofs.PointTaken.{leaf-taken}
use Rattle.tree_edit.proofs.search.Search.put_joined_close.Goals as goal
use Rattle.lp_model.specs.Formulations.{formulation}

pub put_closed-requires-clause-closed : goal.put_closed-requires-clause-closed
put_closed-requires-clause-closed c = c.requires.closed

pub put_closed-requires-clause-leaf : goal.put_closed-requires-clause-leaf
put_closed-requires-clause-leaf c = leaf-taken c.args.self.now c.args.point c.take_point.new.self c.args.id c.args.region.now c.in-Ok.ensures.taken c.requires.leaf

pub put_closed-requires-clause-entry : goal.put_closed-requires-clause-entry
put_closed-requires-clause-entry c =
    subst (λ P. P) (λ k. IsEntryOf (formulation (sym c.in-Ok.ensures.taken.model k) (sym c.in-Ok.ensures.taken.cuts k)) c.args.region.now c.args.kept.mult c.args.kept.farkas c.args.entry) c.requires.entry

pub put_closed-requires-clause-lists : goal.put_closed-requires-clause-lists
put_closed-requires-clause-lists c =
    subst (λ P. P) (λ k. HasLists (formulation (sym c.in-Ok.ensures.taken.model k) (sym c.in-Ok.ensures.taken.cuts k)) c.args.kept) c.requires.lists

pub put_closed-requires-clause-judged : goal.put_closed-requires-clause-judged
put_closed-requires-clause-judged c =
    let new : PlainSearch = c.take_point.new.self in
    let path = c.args.region.now in
    let kept = c.args.kept in
    judged-closed (formulation_of new) (target new.model new.points) path kept
    (subst (λ P. P) (λ k. ClosesBy (formulation (sym c.in-Ok.ensures.taken.model k) (sym c.in-Ok.ensures.taken.cuts k)) (sym c.in-Ok.ensures.target k) path kept) c.requires.closes) c.requires.closed
