use Rattle.std.proofs.Common.{◌∙◌, sym}
use Rattle.std.proofs.lemmas.Bool.{false≢true}
use Rattle.model_points.proofs.GoesOnLemmas.{goes-negative, goes-positive, goes-zero}
use Rattle.model_points.proofs.rays.goes_on.Goals as goal

pub returns-then-is_negative : goal.returns-then-is_negative
returns-then-is_negative c =
    goes-negative c.args.low.now c.args.high.now c.args.number.now c.is_none.result c.is_none.ensures (c.is_negative.ensures.0 c.if-is_negative.true)

pub returns-then-is_positive : goal.returns-then-is_positive
returns-then-is_positive c =
    goes-positive c.args.low.now c.args.high.now c.args.number.now c.is_none-then-is_positive.result c.is_none-then-is_positive.ensures
    (c.is_positive.ensures.0 c.if-is_positive.true)

pub returns : goal.returns
returns c =
    goes-zero c.args.low.now c.args.high.now c.args.number.now (λ l. false≢true (sym c.if-is_negative.false ∙ c.is_negative.ensures.1 l))
    (λ l. false≢true (sym c.if-is_positive.false ∙ c.is_positive.ensures.1 l))
