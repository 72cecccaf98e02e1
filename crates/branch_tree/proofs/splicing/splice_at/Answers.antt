use Rattle.std.proofs.Common.{◌≡◌, ◌+◌, [], ◌∷◌, vec_capacity, is_some, IsSome, sym, ap, subst, ◌∙◌, arith}
use Rattle.slab.specs.Slab.{slab_len}
use Rattle.branch_tree.specs.Table.{node_at}
use Rattle.branch_tree.specs.private.Due.{node_total, AreCut}
use Rattle.branch_tree.specs.private.Spliced.{going}
use Rattle.branch_tree.proofs.SpliceTable.{node-found, stay-found, stay-apart, parent-there, are-cut, spliced-around, spliced-of}
use Rattle.branch_tree.proofs.splicing.splice_at.Goals as goal

pub take-node-requires-clause-there : goal.take-node-requires-clause-there
take-node-requires-clause-there c = ap is_some (node-found c.args.table.now c.args.root.now c.args.opens.now c.args.cut.now.items (vec_capacity c.args.cut.now) c.args.id c.args.stay c.args.go c.requires.0 c.requires.1)

pub set_up-requires-clause-there : goal.set_up-requires-clause-there
set_up-requires-clause-there c =
    subst (λ o. IsSome o) (sym (c.take-node.ensures.put.others c.args.stay (stay-apart c.args.table.now c.args.root.now c.args.opens.now c.args.cut.now.items (vec_capacity c.args.cut.now) c.args.id c.args.stay c.args.go c.requires.0 c.requires.1)))
    (stay-found c.args.table.now c.args.root.now c.args.opens.now c.args.cut.now.items (vec_capacity c.args.cut.now) c.args.id c.args.stay c.args.go c.requires.0 c.requires.1)

pub relink-requires-clause-there : goal.relink-requires-clause-there
relink-requires-clause-there c = λ way is.
    parent-there c.args.table.now c.args.root.now c.args.opens.now c.args.cut.now.items (vec_capacity c.args.cut.now) c.args.id c.args.stay c.args.go c.requires.0 c.requires.1 c.take-node.result c.take-node.ensures.node c.take-node.new.self c.set_up.new.self c.take-node.ensures.put c.set_up.ensures.put way is

pub cut_below-requires-clause-trees : goal.cut_below-requires-clause-trees
cut_below-requires-clause-trees c = (
  going c.requires.0 ∷ [],
  subst (λ r. AreCut (node_at c.relink.new.table) c.push_reserved.new.self.items r c.args.opens.now (going c.requires.0 ∷ [])) (sym c.push_reserved.ensures.capacity)
      (are-cut c.args.table.now c.args.root.now c.args.opens.now c.args.cut.now.items (vec_capacity c.args.cut.now) c.args.id c.args.stay c.args.go c.requires.0 c.requires.1 c.take-node.result c.take-node.ensures.node c.take-node.new.self c.set_up.new.self c.take-node.ensures.put c.set_up.ensures.put c.relink.new.table c.relink.new.root c.relink.ensures.top c.relink.ensures.below c.push_reserved.new.self.items c.push_reserved.ensures.items),
)

pub returns-clause-tree : goal.returns-clause-tree
returns-clause-tree c = λ s h.
    let cut = subst (λ r. AreCut (node_at c.relink.new.table) c.push_reserved.new.self.items r c.args.opens.now (going s ∷ [])) (sym c.push_reserved.ensures.capacity)
    (are-cut c.args.table.now c.args.root.now c.args.opens.now c.args.cut.now.items (vec_capacity c.args.cut.now) c.args.id c.args.stay c.args.go s h c.take-node.result c.take-node.ensures.node c.take-node.new.self c.set_up.new.self c.take-node.ensures.put c.set_up.ensures.put c.relink.new.table c.relink.new.root c.relink.ensures.top c.relink.ensures.below c.push_reserved.new.self.items c.push_reserved.ensures.items) in
    let len : slab_len c.cut_below.new.table.nodes + node_total (going s ∷ []) ≡ slab_len c.relink.new.table.nodes = c.cut_below.ensures.len (going s ∷ []) cut in
    spliced-of c.args.table.now c.args.root.now c.args.opens.now c.args.cut.now.items (vec_capacity c.args.cut.now) c.args.id c.args.stay c.args.go s h c.take-node.result c.take-node.ensures.node c.take-node.new.self c.set_up.new.self c.take-node.ensures.put c.set_up.ensures.put c.relink.new.table c.relink.new.root c.relink.ensures.top c.relink.ensures.below
    c.cut_below.new.table (c.cut_below.ensures.gone (going s ∷ []) cut) (c.cut_below.ensures.stay (going s ∷ []) cut) c.cut_below.ensures.table (omega (arith, len, c.relink.ensures.len, c.set_up.ensures.len, c.take-node.ensures.len)) (c.cut_below.ensures.keys ∙ c.relink.ensures.keys ∙ c.set_up.ensures.keys ∙ c.take-node.ensures.keys) c.cut_below.new.opens (c.cut_below.ensures.open (going s ∷ []) cut)

pub returns-clause-others : goal.returns-clause-others
returns-clause-others c = λ s h.
    let cut = subst (λ r. AreCut (node_at c.relink.new.table) c.push_reserved.new.self.items r c.args.opens.now (going s ∷ [])) (sym c.push_reserved.ensures.capacity)
    (are-cut c.args.table.now c.args.root.now c.args.opens.now c.args.cut.now.items (vec_capacity c.args.cut.now) c.args.id c.args.stay c.args.go s h c.take-node.result c.take-node.ensures.node c.take-node.new.self c.set_up.new.self c.take-node.ensures.put c.set_up.ensures.put c.relink.new.table c.relink.new.root c.relink.ensures.top c.relink.ensures.below c.push_reserved.new.self.items c.push_reserved.ensures.items) in
    spliced-around c.args.table.now c.args.root.now c.args.opens.now c.args.cut.now.items (vec_capacity c.args.cut.now) c.args.id c.args.stay c.args.go s h c.take-node.result c.take-node.ensures.node c.take-node.new.self c.set_up.new.self c.take-node.ensures.put c.set_up.ensures.put c.relink.new.table c.relink.new.root c.relink.ensures.top c.relink.ensures.below
    c.cut_below.new.table (c.cut_below.ensures.gone (going s ∷ []) cut) (c.cut_below.ensures.stay (going s ∷ []) cut)
