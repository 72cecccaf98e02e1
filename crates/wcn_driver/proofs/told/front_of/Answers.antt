use Rattle.std.specs.Prelude.{◌≡◌, ◌<◌, ℕ, List, length, get_or, map}
use Rattle.std.proofs.Common.{◌∙◌, arith, sym}
use Rattle.std.proofs.lemmas.List.{length-map}
use Rattle.lp_model.proofs.NameLemmas.{get_or-map}
use Rattle.frontier.specs.declared.outcomes.Outcome.{Outcome}
use Rattle.wcn_driver.specs.declared.found.Found.{Found}
use Rattle.wcn_driver.specs.private.Told.{shown_outcome}
use Rattle.wcn_driver.proofs.FrontSteps.{front_more}
use Rattle.wcn_driver.proofs.told.front_of.Goals as goal

pub loop-item-preserved : goal.loop-item-preserved
loop-item-preserved c =
    let found : List Found = c.args.found.now in
    let k : ℕ = c.loop-item.item-index in
    let item : Found = c.item-item.result in
    let o : Outcome = c.outcome_shown.result in
    let test : k < length found = c.loop-item-test.true in
    let long = length-map found shown_outcome in
    let below : k < length (map shown_outcome found) = omega arith in
    let is : o ≡ get_or (map shown_outcome found) k o = c.outcome_shown.ensures ∙ sym (get_or-map shown_outcome found k item o test c.item-item.is) in
    front_more (map shown_outcome found) c.loop-item.front c.insert.new.self k o c.in-Ok.field-0 c.requires below is c.loop-item.invariant c.in-Ok.ensures.taken c.in-Ok.ensures.stands
