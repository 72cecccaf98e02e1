use Rattle.std.proofs.Common.{◌≡◌, ◌<◌, Some, None, length, refl, sym, ap, subst, ◌∙◌, arith}
use Rattle.std.specs.Option.{option_copied}
use Rattle.slab.specs.Slab.{get, Updates}
use Rattle.branch_tree.specs.declared.stored.TreeNode.{TreeNode}
use Rattle.branch_tree.specs.private.Relisted.{node_left_by}
use Rattle.branch_tree.proofs.RelistLemmas.{entry-node, entry-live, entry-puts}
use Rattle.branch_tree.proofs.table.NodeTable.relist_at.Goals as goal

pub unreachable-requires : goal.unreachable-requires
unreachable-requires c =
    let nodes = c.args.self.now.nodes in
    let es = c.args.self.now.keys in
    let within : c.args.place < length es.items = omega (arith, c.requires.within, es.ok.0) in
    let x = c.index.result.now in
    let some = (entry-node nodes es.items c.requires.live c.args.place within x c.index.ensures).1.0 in
    let none : get nodes x.key ≡ None = sym c.get.ensures ∙ ap option_copied c.in_default.is in
    cc

pub returns-clause-put : goal.returns-clause-put
returns-clause-put c =
    let nodes = c.args.self.now.nodes in
    let es = c.args.self.now.keys in
    let within : c.args.place < length es.items = omega (arith, c.requires.within, es.ok.0) in
    let f = node_left_by c.args.gone.now in
    let u : Updates nodes c.put_at.new.nodes c.index.result.now.key (Some (f c.in-Some.node.now)) = subst (λ (n : TreeNode). Updates nodes c.put_at.new.nodes c.index.result.now.key (Some n)) c.in-Ok.ensures c.put_at.ensures.put in
    entry-puts nodes es.items c.requires.live c.args.place within c.index.result.now c.index.ensures c.requires.table.rising f (λ n. refl) c.put_at.new.nodes c.in-Some.node.now c.in-Some.ensures u

pub returns-clause-live : goal.returns-clause-live
returns-clause-live c =
    let nodes = c.args.self.now.nodes in
    let es = c.args.self.now.keys in
    let within : c.args.place < length es.items = omega (arith, c.requires.within, es.ok.0) in
    let f = node_left_by c.args.gone.now in
    let u : Updates nodes c.put_at.new.nodes c.index.result.now.key (Some (f c.in-Some.node.now)) = subst (λ (n : TreeNode). Updates nodes c.put_at.new.nodes c.index.result.now.key (Some n)) c.in-Ok.ensures c.put_at.ensures.put in
    entry-live nodes es.items c.requires.live c.args.place within c.index.result.now c.index.ensures c.requires.table.rising f (λ n. refl) c.put_at.new.nodes c.in-Some.node.now c.in-Some.ensures u
