use Rattle.std.proofs.Common.{◌<◌, ◌≤◌, length, slice_index_or, ap, subst, ◌∙◌, arith}
use Rattle.std.specs.Option.{option_map}
use Rattle.branch_tree.specs.declared.table.IdKey.{IdKey}
use Rattle.branch_tree.specs.Table.{node_under, node_at}
use Rattle.branch_tree.specs.private.Table.{PutsNode}
use Rattle.branch_tree.specs.private.Relisted.{node_left_by}
use Rattle.branch_tree.proofs.RelistLemmas.{relisted-more, relisted-all}
use Rattle.branch_tree.proofs.table.NodeTable.relist.Goals as goal

pub loop-place-preserved : goal.loop-place-preserved
loop-place-preserved c =
    let keys = c.args.self.now.keys in
    let f = node_left_by c.args.gone.now in
    let now = node_at c.loop-place.self in
    let new = node_at c.relist_at.new.self in
    let place = c.loop-place.place in
    let within : place < length keys.items = omega (arith, c.loop-place-test.true, c.len-place-end.ensures, keys.ok.0) in
    let put : (d : IdKey) → PutsNode now (slice_index_or keys.items place d).id (option_map f (now (slice_index_or keys.items place d).id)) new =
    subst (λ (v : _). (d : IdKey) → PutsNode now (slice_index_or v.items place d).id (option_map f (now (slice_index_or v.items place d).id)) new) c.loop-place.invariant.keys c.in-Ok.ensures.put in
    let e = c.in-Ok.ensures in
    record {
      relisted = relisted-more f (node_at c.args.self.now) keys.items now new place c.requires.table.rising within c.loop-place.invariant.relisted put;
      table = e.table;
      live = e.live;
      len = e.len ∙ c.loop-place.invariant.len;
      keys = e.keys ∙ c.loop-place.invariant.keys;
    }

pub returns-clause-all : goal.returns-clause-all
returns-clause-all c =
    let t = c.args.self.now in
    let whole : length t.keys.items ≤ c.loop-place.place = omega (arith, c.loop-place-test.false, c.len-place-end.ensures, t.keys.ok.0) in
    relisted-all (node_left_by c.args.gone.now) (node_at t) (node_at c.loop-place.self) t.keys.items c.loop-place.place c.loop-place.invariant.relisted whole (λ id none. ap (node_under t.nodes id) none)
