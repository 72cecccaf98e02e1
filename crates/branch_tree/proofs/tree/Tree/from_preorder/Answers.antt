use Rattle.std.proofs.Common.{◌≡◌, ◌∙◌, sym, subst, length, All}
use Rattle.branch_tree.specs.Preorder.{HasNodeBound, numbered_from}
use Rattle.branch_tree.proofs.HeldLemmas.{held, seen}
use Rattle.branch_tree.proofs.BuildingLemmas.{count-is, are-planned, means-built}
use Rattle.branch_tree.proofs.tree.Tree.from_preorder.Goals as goal

pub build-requires : goal.build-requires
build-requires c =
    let nodes = c.into_vec-nodes.result.items in
    let (t, is) = c.requires.whole in
    let counted : c.len-count.result ≡ length nodes = c.len-count.ensures ∙ c.into_vec-nodes.result.ok.0 in
    let bounds : All HasNodeBound nodes = subst (All HasNodeBound) (sym c.into_vec-nodes.ensures) c.requires.bounds in
    (t, are-planned t nodes c.len-count.result (is ∙ sym c.into_vec-nodes.ensures) counted c.if-count-gt-MOST_NODES.false bounds c.in-Ok-empty_table.table c.in-Ok-planned_of.planned.items c.in-Ok-empty_table.ensures c.in-Ok-planned_of.ensures)

pub invariant_of-result : goal.invariant_of-result
invariant_of-result c =
    let nodes = c.into_vec-nodes.result.items in
    let (t, is) = c.requires.whole in
    let counted : c.len-count.result ≡ length nodes = c.len-count.ensures ∙ c.into_vec-nodes.result.ok.0 in
    let bounds : All HasNodeBound nodes = subst (All HasNodeBound) (sym c.into_vec-nodes.ensures) c.requires.bounds in
    let planned = are-planned t nodes c.len-count.result (is ∙ sym c.into_vec-nodes.ensures) counted c.if-count-gt-MOST_NODES.false bounds c.in-Ok-empty_table.table c.in-Ok-planned_of.planned.items c.in-Ok-empty_table.ensures c.in-Ok-planned_of.ensures in
    held _ _ (means-built t nodes c.len-count.result (is ∙ sym c.into_vec-nodes.ensures) counted c.if-count-gt-MOST_NODES.false bounds c.build.new.table c.in-Ok-build.still_open c.args.limit c.reserve.new.self c.args.alloc (c.in-Ok-build.ensures t planned) c.reserve.ensures.due c.reserve.ensures.cut c.in-Ok.ensures.due_room c.in-Ok.ensures.cut_room)

pub returns : goal.returns
returns c t is =
    let nodes = c.into_vec-nodes.result.items in
    let counted : c.len-count.result ≡ length nodes = c.len-count.ensures ∙ c.into_vec-nodes.result.ok.0 in
    let bounds : All HasNodeBound nodes = subst (All HasNodeBound) (sym c.into_vec-nodes.ensures) c.requires.bounds in
    let planned = are-planned t nodes c.len-count.result (is ∙ sym c.into_vec-nodes.ensures) counted c.if-count-gt-MOST_NODES.false bounds c.in-Ok-empty_table.table c.in-Ok-planned_of.planned.items c.in-Ok-empty_table.ensures c.in-Ok-planned_of.ensures in
    seen _ _ (means-built t nodes c.len-count.result (is ∙ sym c.into_vec-nodes.ensures) counted c.if-count-gt-MOST_NODES.false bounds c.build.new.table c.in-Ok-build.still_open c.args.limit c.reserve.new.self c.args.alloc (c.in-Ok-build.ensures t planned) c.reserve.ensures.due c.reserve.ensures.cut c.in-Ok.ensures.due_room c.in-Ok.ensures.cut_room)
    ∙ (λ i. record { root = numbered_from 1 t; last = count-is t nodes c.len-count.result (is ∙ sym c.into_vec-nodes.ensures) counted c.if-count-gt-MOST_NODES.false bounds i; limit = c.args.limit })
