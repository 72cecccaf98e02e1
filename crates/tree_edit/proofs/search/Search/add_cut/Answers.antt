use Rattle.std.specs.Prelude.{OnOk}
use Rattle.std.proofs.Common.{subst}
use Rattle.sound_searches.specs.Sound.{PlainSearch}
use Rattle.sound_searches.specs.Pool.{AddsCut}
use Rattle.tree_edit.proofs.CutAdded.{indexed-add, adds-cut}
use Rattle.tree_edit.proofs.search.Search.add_cut.Goals as goal

pub invariant_of-self : goal.invariant_of-self
invariant_of-self c =
    let i = c.self.inside in
    let S : PlainSearch = record { model = i.model; cuts = i.pool; tree = i.tree; points = i.points.items } in
    indexed-add S c.args.derivation i.values.items i.numbers i.queue c.add.new.self c.self.invariant c.add.result c.add.ensures.added c.add.ensures.room c.add.ensures.kept

pub returns-clause-added : goal.returns-clause-added
returns-clause-added c =
    let i = c.self.inside in
    let S : PlainSearch = record { model = i.model; cuts = i.pool; tree = i.tree; points = i.points.items } in
    let new : PlainSearch = record { model = i.model; cuts = c.add.new.self; tree = i.tree; points = i.points.items } in
    subst (λ (R : PlainSearch). OnOk c.add.result (AddsCut R c.args.derivation new)) c.self.view_is (adds-cut S c.args.derivation c.add.new.self c.add.result c.add.ensures.added)
