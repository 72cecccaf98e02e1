use Rattle.leaf_judging.proofs.LikeEntries.{front-ready, all-ready, all-answer}
use Rattle.leaf_judging.proofs.optional.list_number.Goals as goal

pub go_on-requires-clause-true_of : goal.go_on-requires-clause-true_of
go_on-requires-clause-true_of g c =
    let leaf = c.args.leaf.now in
    let named = c.named_front.ensures in
    (front-ready leaf.model.now leaf.region.now leaf.mult.now leaf.cuts.now c.named_front.result.now named.front named.few named.behind leaf.costed c.args.totals.now c.requires.ready).are

pub returns-clause-answer : goal.returns-clause-answer
returns-clause-answer g c =
    let leaf = c.args.leaf.now in
    let named = c.named_front.ensures in
    all-answer leaf.model.now leaf.region.now leaf.mult.now leaf.cuts.now c.named_front.result.now named.front named.few named.behind leaf.costed c.go_on.result c.go_on.ensures.answer

pub returns-clause-ready : goal.returns-clause-ready
returns-clause-ready g c =
    let leaf = c.args.leaf.now in
    let named = c.named_front.ensures in
    all-ready leaf.model.now leaf.region.now leaf.mult.now leaf.cuts.now c.named_front.result.now named.front named.few named.behind leaf.costed c.go_on.new.self c.go_on.ensures.true_of c.go_on.ensures.complete
