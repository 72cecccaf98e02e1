use Rattle.std.proofs.Common.{refl}
use Rattle.tree_edit.proofs.FreshSearch.{fresh-indexed}
use Rattle.tree_edit.proofs.search.Search.new.Goals as goal

pub invariant_of-result : goal.invariant_of-result
invariant_of-result c =
    fresh-indexed c.args.model 1000000 c.in-Ok.tree c.in-Ok.index.numbers c.in-Ok.index.queue c.in-Ok.ensures.judged c.in-Ok.ensures.numbers c.in-Ok.ensures.queue c.new.result c.new-in-Ok.result.items c.new-in-Ok-2.result.items c.new.ensures c.new-in-Ok.ensures.items c.new-in-Ok-2.ensures.items

pub returns-in-Ok : goal.returns-in-Ok
returns-in-Ok c = record { model = refl; cuts = c.new.ensures; tree = c.in-Ok.ensures.judged; points = c.new-in-Ok.ensures.items }
