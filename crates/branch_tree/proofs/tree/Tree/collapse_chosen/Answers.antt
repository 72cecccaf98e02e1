use Rattle.std.proofs.Common.{◌≡◌, ◌∙◌, ap}
use Rattle.branch_tree.specs.Numbered.{NumberedTree}
use Rattle.branch_tree.specs.Held.{plain_of, numbered_of}
use Rattle.branch_tree.specs.private.Trimming.{after_chosen}
use Rattle.branch_tree.proofs.HeldLemmas.{held, seen}
use Rattle.branch_tree.proofs.TrimHeld.{can-trim, means-chosen}
use Rattle.branch_tree.proofs.tree.Tree.collapse_chosen.Goals as goal

pub collapse_all-self-inside-requires : goal.collapse_all-self-inside-requires
collapse_all-self-inside-requires c = record { tree = (plain_of c.self.inside, can-trim c.self.inside c.self.invariant c.args.chosen c.args.depth) }

pub sweep-requires : goal.sweep-requires
sweep-requires c = (c.collapse_all-self-inside.ensures.tree _ (can-trim c.self.inside c.self.invariant c.args.chosen c.args.depth)).table

pub invariant_of-self : goal.invariant_of-self
invariant_of-self c =
    let can = can-trim c.self.inside c.self.invariant c.args.chosen c.args.depth in
    let a = c.collapse_all-self-inside in
    let s = c.sweep.ensures in
    held _ _ (means-chosen c.self.inside c.self.invariant c.args.chosen c.args.depth a.new.table c.sweep.new.self a.new.root a.new.opens a.result (a.ensures.tree _ can) (a.ensures.last _ can) a.ensures.below s.table s.same s.live s.below s.nodes s.fewer s.capacity a.new.lists a.ensures.due a.ensures.cut a.ensures.due_room a.ensures.cut_room c.len.result c.len.ensures)

pub returns : goal.returns
returns c =
    let can = can-trim c.self.inside c.self.invariant c.args.chosen c.args.depth in
    let a = c.collapse_all-self-inside in
    let s = c.sweep.ensures in
    let last : a.result ≡ (after_chosen (numbered_of c.self.inside) c.args.chosen c.args.depth).last = a.ensures.last _ can in
    seen _ _ (means-chosen c.self.inside c.self.invariant c.args.chosen c.args.depth a.new.table c.sweep.new.self a.new.root a.new.opens a.result (a.ensures.tree _ can) (a.ensures.last _ can) a.ensures.below s.table s.same s.live s.below s.nodes s.fewer s.capacity a.new.lists a.ensures.due a.ensures.cut a.ensures.due_room a.ensures.cut_room c.len.result c.len.ensures)
    ∙ (λ k. record { root = (after_chosen (numbered_of c.self.inside) c.args.chosen c.args.depth).root; last = last k; limit = c.self.inside.limit })
    ∙ ap (λ (T : NumberedTree). after_chosen T c.args.chosen c.args.depth) c.self.view_is
