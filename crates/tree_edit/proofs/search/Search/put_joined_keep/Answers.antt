use Rattle.std.proofs.Common.{sym, subst}
use Rattle.lp_model.specs.Formulations.{formulation}
use Rattle.search_parts.specs.Lists.{HasLists}
use Rattle.tree_edit.proofs.PointTaken.{leaf-taken, own-taken}
use Rattle.tree_edit.proofs.search.Search.put_joined_keep.Goals as goal

pub put_judged-requires-clause-leaf : goal.put_judged-requires-clause-leaf
put_judged-requires-clause-leaf c = leaf-taken c.args.self.now c.args.point c.take_point.new.self c.args.id c.args.region.now c.in-Ok.ensures.taken c.requires.leaf

pub put_judged-requires-clause-own : goal.put_judged-requires-clause-own
put_judged-requires-clause-own c = own-taken c.args.self.now c.args.point c.take_point.new.self c.args.id c.args.kept c.in-Ok.ensures.taken c.requires.own

pub put_judged-requires-clause-lists : goal.put_judged-requires-clause-lists
put_judged-requires-clause-lists c =
    subst (λ P. P) (λ k. HasLists (formulation (sym c.in-Ok.ensures.taken.model k) (sym c.in-Ok.ensures.taken.cuts k)) c.args.kept) c.requires.lists

pub returns-in-Ok-clause-taken : goal.returns-in-Ok-clause-taken
returns-in-Ok-clause-taken c = (c.requires.joined.keepable, c.requires.lists.basis, (c.take_point.new.self, (c.in-Ok.ensures.taken, c.put_judged.ensures)))
