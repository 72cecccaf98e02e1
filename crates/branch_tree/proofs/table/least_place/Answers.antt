use Rattle.std.proofs.Common.{ap, arith, ◌-◌, ◌≡◌, length, get_or}
use Rattle.branch_tree.specs.declared.table.IdKey.{IdKey}
use Rattle.branch_tree.proofs.TableLemmas.{last-few, last-before}
use Rattle.branch_tree.proofs.table.least_place.Goals as goal

pub returns-clause-few : goal.returns-clause-few
returns-clause-few c =
    let e : IdKey = c.in-Some.last.now in
    let at = c.in-Some.ensures.item.3 in
    let last : e.id ≡ (get_or c.args.keys.now (length c.args.keys.now - 1) e).id = ap (λ (x : IdKey). x.id) (at.1 e) in
    omega (arith, c.saturating_sub.ensures, last, last-few c.args.keys.now c.requires c.args.id e at.0 (omega (arith, last, c.if-last-id.false)))

pub returns-clause-before : goal.returns-clause-before
returns-clause-before c k d lt =
    let e : IdKey = c.in-Some.last.now in
    let at = c.in-Some.ensures.item.3 in
    let last : e.id ≡ (get_or c.args.keys.now (length c.args.keys.now - 1) e).id = ap (λ (x : IdKey). x.id) (at.1 e) in
    last-before c.args.keys.now c.requires c.args.id e at.0 (omega (arith, last, c.if-last-id.false)) k d (omega (arith, lt, c.saturating_sub.ensures, last))
