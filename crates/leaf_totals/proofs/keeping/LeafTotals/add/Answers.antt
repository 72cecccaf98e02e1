use Rattle.std.proofs.Common.{refl, sym, subst, arith, Ok}
use Rattle.leaf_dual.specs.Dual.{multiplier, cut_weight}
use Rattle.leaf_dual.specs.Parts.{constant_of, cost_of}
use Rattle.leaf_dual.specs.declared.dual.LagValue.TheVariants.{Num}
use Rattle.leaf_totals.specs.Keeping.{question_of, AnswersQuestion}
use Rattle.leaf_totals.proofs.EndLemmas.{all_answer, end_most}
use Rattle.leaf_totals.proofs.KeptLemmas.{added_over, ended_over}
use Rattle.leaf_totals.proofs.keeping.LeafTotals.add.Goals as goal

pub returns-in-None-clause-answer : goal.returns-in-None-clause-answer
returns-in-None-clause-answer g c =
    let leaf = c.args.leaf.now in
    let M = leaf.model.now in
    let cuts = leaf.cuts.now in
    subst (λ v. AnswersQuestion (question_of leaf) (Ok (Num v))) (sym c.value.ensures)
    (all_answer M cuts leaf.region.now (multiplier leaf.mult.now) (cut_weight cuts leaf.mult.now) (cost_of leaf.costed M) (constant_of leaf.costed M) c.walk_leaf.new.totals c.in-None.ensures.walk)

pub returns-in-None-clause-true_of : goal.returns-in-None-clause-true_of
returns-in-None-clause-true_of g c =
    let count = c.in-None.ensures.walk.count in
    record { kept = c.in-None.ensures.kept; few = omega (arith, count); ending = tt; over = added_over (question_of c.args.leaf.now) _ c.walk_leaf.result c.in-None.ensures.walk refl c.walk_leaf.new.over c.walk_leaf.ensures.over }

pub returns-in-None-clause-complete : goal.returns-in-None-clause-complete
returns-in-None-clause-complete g c = c.in-None.ensures.walk.count

pub returns-in-Some-clause-true_of : goal.returns-in-Some-clause-true_of
returns-in-Some-clause-true_of g c =
    let ended = c.in-Some.ensures.walk in
    let count = ended.count in
    let most = end_most (question_of c.args.leaf.now) c.in-Some.end ended.ends in
    record { kept = c.in-Some.ensures.kept; few = omega (arith, count, most); ending = ended.ends; over = ended_over (question_of c.args.leaf.now) _ c.walk_leaf.result c.in-Some.end c.in-Some.is c.walk_leaf.new.over c.walk_leaf.ensures.over }

pub returns-in-Some-clause-complete : goal.returns-in-Some-clause-complete
returns-in-Some-clause-complete g c = c.in-Some.ensures.walk.count

pub walk_leaf-requires-clause-narrow : goal.walk_leaf-requires-clause-narrow
walk_leaf-requires-clause-narrow g c = c.requires.narrow

pub walk_leaf-requires-clause-places : goal.walk_leaf-requires-clause-places
walk_leaf-requires-clause-places g c = c.requires.places

pub walk_leaf-requires-clause-room : goal.walk_leaf-requires-clause-room
walk_leaf-requires-clause-room g c = c.requires.room

pub walk_leaf-requires-clause-few : goal.walk_leaf-requires-clause-few
walk_leaf-requires-clause-few g c = c.requires.true_of.few

pub walk_leaf-requires-clause-kept : goal.walk_leaf-requires-clause-kept
walk_leaf-requires-clause-kept g c = c.requires.true_of.kept

pub returns-in-None-clause-room : goal.returns-in-None-clause-room
returns-in-None-clause-room g c = c.walk_leaf.ensures.room

pub returns-in-None-clause-rises : goal.returns-in-None-clause-rises
returns-in-None-clause-rises g c = c.walk_leaf.ensures.rises

pub returns-in-None-clause-steps : goal.returns-in-None-clause-steps
returns-in-None-clause-steps g c = c.walk_leaf.ensures.steps

pub returns-in-Some-clause-room : goal.returns-in-Some-clause-room
returns-in-Some-clause-room g c = c.walk_leaf.ensures.room

pub returns-in-Some-clause-rises : goal.returns-in-Some-clause-rises
returns-in-Some-clause-rises g c = c.walk_leaf.ensures.rises

pub returns-in-Some-clause-steps : goal.returns-in-Some-clause-steps
returns-in-Some-clause-steps g c = c.walk_leaf.ensures.steps
