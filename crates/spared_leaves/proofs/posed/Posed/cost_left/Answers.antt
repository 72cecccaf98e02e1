use Rattle.std.proofs.Common.{◌≡◌, length}
use Rattle.lp_model.specs.Formulations.{formulation, cut_coefficient}
use Rattle.leaf_dual.specs.Dual.{multiplier, cut_weight, column_reduced_cost}
use Rattle.leaf_dual.specs.Answers.{EntriesFit}
use Rattle.leaf_dual.specs.Parts.{cost_of}
use Rattle.spared_leaves.specs.private.Sums.{IsLeftOf}
use Rattle.spared_leaves.proofs.ColumnLemmas.{cost-left, some-too}
use Rattle.spared_leaves.proofs.posed.Posed.cost_left.Goals as goal

pub returns-in-Some-clause-fits : goal.returns-in-Some-clause-fits
returns-in-Some-clause-fits c =
    let M = c.args.self.now.model.now in
    let cuts = c.args.self.now.cuts.now in
    let y = multiplier c.args.mult.now in
    let z = cut_weight cuts c.args.mult.now in
    let costs = cost_of c.args.costed M in
    let j = c.args.col in
    some-too c.after_cuts.result (λ v. IsLeftOf c.in-Some.left z (λ k. cut_coefficient cuts k j) (length cuts) v) (λ v. EntriesFit (formulation M cuts) y z costs j)
    (λ v after. (cost-left M cuts y z costs j c.cost.result c.cost.ensures c.in-Some.left c.in-Some.ensures v after).0) c.after_cuts.ensures

pub returns-in-Some-clause-value : goal.returns-in-Some-clause-value
returns-in-Some-clause-value c =
    let M = c.args.self.now.model.now in
    let cuts = c.args.self.now.cuts.now in
    let y = multiplier c.args.mult.now in
    let z = cut_weight cuts c.args.mult.now in
    let costs = cost_of c.args.costed M in
    let j = c.args.col in
    some-too c.after_cuts.result (λ v. IsLeftOf c.in-Some.left z (λ k. cut_coefficient cuts k j) (length cuts) v) (λ v. v ≡ column_reduced_cost (formulation M cuts) y z costs j)
    (λ v after. (cost-left M cuts y z costs j c.cost.result c.cost.ensures c.in-Some.left c.in-Some.ensures v after).1) c.after_cuts.ensures
