use Rattle.std.proofs.Common.{◌∷◌, refl, sym, ap, ◌∙◌, arith}
use Rattle.branch_tree.specs.private.Spliced.{due_ids}
use Rattle.branch_tree.proofs.SpliceWalk.{due_ids-push, due_ids-length, step-leaf, step-split, step-room, spot, can-splice, step-splice}
use Rattle.branch_tree.proofs.splicing.splice_next.Goals as goal

pub returns-in_default-kind-clause-walk : goal.returns-in_default-kind-clause-walk
returns-in_default-kind-clause-walk c = λ target h. (step-leaf c.args.table.now c.args.root.now c.args.opens.now c.args.id (due_ids c.args.lists.now.due.items) c.args.lists.now c.args.col target h c.in-Some.node.now (sym c.in-Some.ensures) c.in_default-kind.field-0 c.in_default-kind.is).walk

-- ---- a split on another column

pub push_reserved-requires : goal.push_reserved-requires
push_reserved-requires c =
    let room = step-room c.args.table.now c.args.root.now c.args.opens.now c.args.id (due_ids c.args.lists.now.due.items) c.args.lists.now c.args.col c.requires.0 c.requires.1 c.in-Some.node.now (sym c.in-Some.ensures) c.in-Split.split c.in-Split.is in
    omega (arith, room, due_ids-length c.args.lists.now.due.items, c.args.lists.now.due.ok.0)

pub push_reserved-requires-then-split-col : goal.push_reserved-requires-then-split-col
push_reserved-requires-then-split-col c =
    let room = step-room c.args.table.now c.args.root.now c.args.opens.now c.args.id (due_ids c.args.lists.now.due.items) c.args.lists.now c.args.col c.requires.0 c.requires.1 c.in-Some.node.now (sym c.in-Some.ensures) c.in-Split.split c.in-Split.is in
    omega (arith, room, due_ids-length c.args.lists.now.due.items, c.args.lists.now.due.ok.0, c.push_reserved.ensures.len, c.push_reserved.ensures.capacity)

pub returns-then-split-col-clause-walk : goal.returns-then-split-col-clause-walk
returns-then-split-col-clause-walk c = λ target h.
    let ids = ap due_ids (c.push_reserved-then-split-col.ensures.items) ∙ due_ids-push c.push_reserved.new.self.items _ ∙ ap (λ l. c.in-Split.split.left ∷ l) (ap due_ids c.push_reserved.ensures.items ∙ due_ids-push c.args.lists.now.due.items _) in
    (step-split c.args.table.now c.args.root.now c.args.opens.now c.args.id (due_ids c.args.lists.now.due.items) c.args.lists.now c.args.col target h c.in-Some.node.now (sym c.in-Some.ensures) c.in-Split.split c.in-Split.is c.if-split-col.true (record { due = c.push_reserved-then-split-col.new.self; cut = c.args.lists.now.cut }) (c.push_reserved-then-split-col.ensures.capacity ∙ c.push_reserved.ensures.capacity) refl (due_ids c.push_reserved-then-split-col.new.self.items) ids).walk

pub returns-then-split-col-clause-fewer : goal.returns-then-split-col-clause-fewer
returns-then-split-col-clause-fewer c =
    let ids = ap due_ids (c.push_reserved-then-split-col.ensures.items) ∙ due_ids-push c.push_reserved.new.self.items _ ∙ ap (λ l. c.in-Split.split.left ∷ l) (ap due_ids c.push_reserved.ensures.items ∙ due_ids-push c.args.lists.now.due.items _) in
    (step-split c.args.table.now c.args.root.now c.args.opens.now c.args.id (due_ids c.args.lists.now.due.items) c.args.lists.now c.args.col c.requires.0 c.requires.1 c.in-Some.node.now (sym c.in-Some.ensures) c.in-Split.split c.in-Split.is c.if-split-col.true (record { due = c.push_reserved-then-split-col.new.self; cut = c.args.lists.now.cut }) (c.push_reserved-then-split-col.ensures.capacity ∙ c.push_reserved.ensures.capacity) refl (due_ids c.push_reserved-then-split-col.new.self.items) ids).fewer

-- ---- a split on the column

pub splice_at-requires : goal.splice_at-requires
splice_at-requires c = (
  spot c.args.table.now c.args.root.now c.args.opens.now c.args.id (due_ids c.args.lists.now.due.items) c.args.lists.now c.args.col c.requires.0 c.requires.1 c.in-Some.node.now (sym c.in-Some.ensures) c.in-Split.split c.in-Split.is,
  can-splice c.args.table.now c.args.root.now c.args.opens.now c.args.id (due_ids c.args.lists.now.due.items) c.args.lists.now c.args.col c.requires.0 c.requires.1 c.in-Some.node.now (sym c.in-Some.ensures) c.in-Split.split c.in-Split.is c.sides-stay.result.0 c.sides-stay.result.1 (ap (λ p. p.0) c.sides-stay.ensures) (ap (λ p. p.1) c.sides-stay.ensures),
)

pub push_reserved-requires-2 : goal.push_reserved-requires-2
push_reserved-requires-2 c =
    let room = step-room c.args.table.now c.args.root.now c.args.opens.now c.args.id (due_ids c.args.lists.now.due.items) c.args.lists.now c.args.col c.requires.0 c.requires.1 c.in-Some.node.now (sym c.in-Some.ensures) c.in-Split.split c.in-Split.is in
    omega (arith, room, due_ids-length c.args.lists.now.due.items, c.args.lists.now.due.ok.0)

pub returns-clause-walk : goal.returns-clause-walk
returns-clause-walk c = λ target h.
    let at = spot c.args.table.now c.args.root.now c.args.opens.now c.args.id (due_ids c.args.lists.now.due.items) c.args.lists.now c.args.col target h c.in-Some.node.now (sym c.in-Some.ensures) c.in-Split.split c.in-Split.is in
    let can = can-splice c.args.table.now c.args.root.now c.args.opens.now c.args.id (due_ids c.args.lists.now.due.items) c.args.lists.now c.args.col target h c.in-Some.node.now (sym c.in-Some.ensures) c.in-Split.split c.in-Split.is c.sides-stay.result.0 c.sides-stay.result.1 (ap (λ p. p.0) c.sides-stay.ensures) (ap (λ p. p.1) c.sides-stay.ensures) in
    let ids = ap due_ids c.push_reserved-2.ensures.items ∙ due_ids-push c.args.lists.now.due.items _ in
    (step-splice c.args.table.now c.args.root.now c.args.opens.now c.args.id (due_ids c.args.lists.now.due.items) c.args.lists.now c.args.col target h c.in-Some.node.now (sym c.in-Some.ensures) c.in-Split.split c.in-Split.is c.sides-stay.result.0 c.sides-stay.result.1 (ap (λ p. p.0) c.sides-stay.ensures) (ap (λ p. p.1) c.sides-stay.ensures) (sym c.if-split-col.false) c.splice_at.new.table c.splice_at.new.root c.splice_at.new.opens
    (c.splice_at.ensures.tree at can) (c.splice_at.ensures.others at can) (record { due = c.push_reserved-2.new.self; cut = c.splice_at.new.cut }) c.push_reserved-2.ensures.capacity c.splice_at.ensures.empty c.splice_at.ensures.room (due_ids c.push_reserved-2.new.self.items) ids).walk

pub returns-clause-fewer : goal.returns-clause-fewer
returns-clause-fewer c =
    let at = spot c.args.table.now c.args.root.now c.args.opens.now c.args.id (due_ids c.args.lists.now.due.items) c.args.lists.now c.args.col c.requires.0 c.requires.1 c.in-Some.node.now (sym c.in-Some.ensures) c.in-Split.split c.in-Split.is in
    let can = can-splice c.args.table.now c.args.root.now c.args.opens.now c.args.id (due_ids c.args.lists.now.due.items) c.args.lists.now c.args.col c.requires.0 c.requires.1 c.in-Some.node.now (sym c.in-Some.ensures) c.in-Split.split c.in-Split.is c.sides-stay.result.0 c.sides-stay.result.1 (ap (λ p. p.0) c.sides-stay.ensures) (ap (λ p. p.1) c.sides-stay.ensures) in
    let ids = ap due_ids c.push_reserved-2.ensures.items ∙ due_ids-push c.args.lists.now.due.items _ in
    (step-splice c.args.table.now c.args.root.now c.args.opens.now c.args.id (due_ids c.args.lists.now.due.items) c.args.lists.now c.args.col c.requires.0 c.requires.1 c.in-Some.node.now (sym c.in-Some.ensures) c.in-Split.split c.in-Split.is c.sides-stay.result.0 c.sides-stay.result.1 (ap (λ p. p.0) c.sides-stay.ensures) (ap (λ p. p.1) c.sides-stay.ensures) (sym c.if-split-col.false) c.splice_at.new.table c.splice_at.new.root c.splice_at.new.opens
    (c.splice_at.ensures.tree at can) (c.splice_at.ensures.others at can) (record { due = c.push_reserved-2.new.self; cut = c.splice_at.new.cut }) c.push_reserved-2.ensures.capacity c.splice_at.ensures.empty c.splice_at.ensures.room (due_ids c.push_reserved-2.new.self.items) ids).fewer
