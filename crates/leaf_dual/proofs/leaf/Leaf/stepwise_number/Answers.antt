use Rattle.std.proofs.Common.{◌∙◌, sym}
use Rattle.std.proofs.lemmas.Bool.{false≢true}
use Rattle.lp_model.specs.Formulations.{formulation}
use Rattle.leaf_dual.specs.Dual.{multiplier, cut_weight}
use Rattle.leaf_dual.specs.Answers.{LacksSide}
use Rattle.leaf_dual.specs.Parts.{constant_of, cost_of}
use Rattle.leaf_dual.proofs.AnswerLemmas.{rows-wide, cuts-wide, answer-num, answer-wide}
use Rattle.leaf_dual.proofs.leaf.Leaf.stepwise_number.Goals as goal

pub returns-in-Err : goal.returns-in-Err
returns-in-Err c =
    let M = c.args.self.now.model.now in
    let cuts = c.args.self.now.cuts.now in
    let path = c.args.self.now.region.now in
    let y = multiplier c.args.self.now.mult.now in
    let z = cut_weight cuts c.args.self.now.mult.now in
    let costs = cost_of c.args.self.now.costed M in
    let full : ¬ LacksSide (formulation M cuts) path y z costs = λ h. false≢true (sym c.if-lacks_side.false ∙ c.lacks_side.ensures.1 h) in
    rows-wide M cuts path y z costs (constant_of c.args.self.now.costed M) full c.in-Err.step c.in-Err.ensures

pub returns-in-Err-cuts_total : goal.returns-in-Err-cuts_total
returns-in-Err-cuts_total c =
    let M = c.args.self.now.model.now in
    let cuts = c.args.self.now.cuts.now in
    let path = c.args.self.now.region.now in
    let y = multiplier c.args.self.now.mult.now in
    let z = cut_weight cuts c.args.self.now.mult.now in
    let costs = cost_of c.args.self.now.costed M in
    let full : ¬ LacksSide (formulation M cuts) path y z costs = λ h. false≢true (sym c.if-lacks_side.false ∙ c.lacks_side.ensures.1 h) in
    cuts-wide M cuts path y z costs (constant_of c.args.self.now.costed M) full c.in-Ok.rows c.in-Ok.ensures c.in-Err-cuts_total.step c.in-Err-cuts_total.ensures

pub returns-in-Ok-columns_total : goal.returns-in-Ok-columns_total
returns-in-Ok-columns_total c =
    let M = c.args.self.now.model.now in
    let cuts = c.args.self.now.cuts.now in
    let path = c.args.self.now.region.now in
    let y = multiplier c.args.self.now.mult.now in
    let z = cut_weight cuts c.args.self.now.mult.now in
    let costs = cost_of c.args.self.now.costed M in
    let full : ¬ LacksSide (formulation M cuts) path y z costs = λ h. false≢true (sym c.if-lacks_side.false ∙ c.lacks_side.ensures.1 h) in
    answer-num M cuts path y z costs (constant_of c.args.self.now.costed M) full c.in-Ok.rows c.in-Ok.ensures c.in-Ok-cuts_total.cuts c.in-Ok-cuts_total.ensures c.in-Ok-columns_total.total c.in-Ok-columns_total.ensures

pub returns-in-Err-columns_total : goal.returns-in-Err-columns_total
returns-in-Err-columns_total c =
    let M = c.args.self.now.model.now in
    let cuts = c.args.self.now.cuts.now in
    let path = c.args.self.now.region.now in
    let y = multiplier c.args.self.now.mult.now in
    let z = cut_weight cuts c.args.self.now.mult.now in
    let costs = cost_of c.args.self.now.costed M in
    let full : ¬ LacksSide (formulation M cuts) path y z costs = λ h. false≢true (sym c.if-lacks_side.false ∙ c.lacks_side.ensures.1 h) in
    answer-wide M cuts path y z costs (constant_of c.args.self.now.costed M) full c.in-Ok.rows c.in-Ok.ensures c.in-Ok-cuts_total.cuts c.in-Ok-cuts_total.ensures c.in-Err-columns_total.step c.in-Err-columns_total.ensures

pub returns-then-lacks_side : goal.returns-then-lacks_side
returns-then-lacks_side c = c.lacks_side.ensures.0 c.if-lacks_side.true
