use Rattle.std.proofs.Common.{◌<◌, ◌∙◌, ℕ, sym, arith, get_or, below_more}
use Rattle.std.proofs.lemmas.Bool.{false≢true}
use Rattle.table_entries.specs.declared.stand.Stand.TheVariants.{Free}
use Rattle.basic_solution.specs.Held.{variables}
use Rattle.basic_solution.specs.Numbers.{CostsFit}
use Rattle.basic_solution.specs.Slack.{IsPlaced}
use Rattle.basic_solution.proofs.SlackLemmas.{kept_placed, placed_kept}
use Rattle.basic_solution.proofs.sided.SidedBasis.is_lawful.Goals as goal

pub loop-place-preserved : goal.loop-place-preserved
loop-place-preserved c =
    let now = c.args.self.now in
    below_more (λ k. CostsFit now k (variables now) × IsPlaced now k (get_or now.stands k Free)) c.loop-place.place c.loop-place.invariant
    (c.in-Ok-true.ensures.0, c.in-Ok-true.ensures.1.0 c.in-Ok-true.field-0-test)

pub returns-in-Err : goal.returns-in-Err
returns-in-Err c =
    let now = c.args.self.now in
    let within : c.loop-place.place < now.tableau.columns = let less = c.loop-place-test.true in let f = c.columns-place-end.ensures.value in omega (arith, less, f) in
    record { place = c.loop-place.place; within = within; before = c.loop-place.invariant; wide = c.in-Err.ensures }

pub returns-in-Ok-false : goal.returns-in-Ok-false
returns-in-Ok-false c =
    let now = c.args.self.now in
    let place = c.loop-place.place in
    let within : place < now.tableau.columns = let less = c.loop-place-test.true in let f = c.columns-place-end.ensures.value in omega (arith, less, f) in
    let elsewhere : ¬ (IsPlaced now place (get_or now.stands place Free)) = λ h. false≢true (sym c.in-Ok-false.field-0-test ∙ c.in-Ok-false.ensures.1.1 h) in
    ((λ kept. elsewhere (placed_kept now kept place within)), (place, record { within = within; before = c.loop-place.invariant; fits = c.in-Ok-false.ensures.0; elsewhere = elsewhere }))

pub returns : goal.returns
returns c =
    let now = c.args.self.now in
    let inv = c.loop-place.invariant in
    let all : (k : ℕ) → k < now.tableau.columns → k < c.loop-place.place = λ k w. let past = c.loop-place-test.false in let f = c.columns-place-end.ensures.value in omega (arith, past, f, w) in
    (kept_placed now c.columns-place-end.ensures.sided (λ k w. (inv k (all k w)).1), (λ k w. (inv k (all k w)).0))
