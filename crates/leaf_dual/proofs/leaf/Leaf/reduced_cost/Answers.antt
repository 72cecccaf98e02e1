use Rattle.std.proofs.Common.{◌∙◌, sym, ap, subst, Err}
use Rattle.leaf_dual.specs.Dual.{multiplier}
use Rattle.leaf_dual.specs.Parts.{cost_of}
use Rattle.leaf_dual.specs.private.Parts.{IsReducedCost}
use Rattle.leaf_dual.proofs.DualLemmas.{reduced-ok, reduced-wide}
use Rattle.leaf_dual.proofs.leaf.Leaf.reduced_cost.Goals as goal

pub returns-in-Ok : goal.returns-in-Ok
returns-in-Ok c =
    let M = c.args.self.now.model.now in
    let col = c.index-cols-col.result in
    reduced-ok M c.cols.ensures.lawful (multiplier c.args.self.now.mult.now) (cost_of c.args.self.now.costed M) c.args.col c.requires c.cols.result.now col c.cols.ensures.items c.index-cols-col.is
    c.as_slice-entries.result.now c.cost.result (c.as_slice-entries.ensures ∙ ap (λ d. d.rows) (sym c.index-cols-col.is)) c.cost.ensures c.in-Ok.left c.in-Ok.ensures

pub returns-in-Err : goal.returns-in-Err
returns-in-Err c =
    let M = c.args.self.now.model.now in
    let y = multiplier c.args.self.now.mult.now in
    let costs = cost_of c.args.self.now.costed M in
    let col = c.index-cols-col.result in
    subst (λ e. IsReducedCost M y costs c.args.col (Err e.0)) c.index-entries-place.is
    (reduced-wide M c.cols.ensures.lawful y costs c.args.col c.requires c.cols.result.now col c.cols.ensures.items c.index-cols-col.is
    c.as_slice-entries.result.now c.cost.result (c.as_slice-entries.ensures ∙ ap (λ d. d.rows) (sym c.index-cols-col.is)) c.cost.ensures c.in-Err.place c.index-entries-place.result c.index-entries-place.is c.in-Err.ensures)
