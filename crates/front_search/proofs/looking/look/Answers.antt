use Rattle.std.proofs.Common.{ap, sym, subst, ◌∙◌}
use Rattle.frontier.specs.Outcomes.{outcomes_in_own_sense}
use Rattle.front_search.specs.FrontsFound.{IsFrontFound}
use Rattle.front_search.proofs.FoundFronts.{whole-found, none-found, stop-found, wide-found, whole-always}
use Rattle.front_search.proofs.looking.look.Goals as goal

pub unreachable-requires : goal.unreachable-requires
unreachable-requires c = whole-always c.args.limits.now c.args.model.now c.requires.whole c.in-NotWhole.which c.in-NotWhole.col c.in-NotWhole.ensures

pub returns-in-Ok : goal.returns-in-Ok
returns-in-Ok c =
    whole-found c.args.limits.now c.args.model.now c.requires.whole c.in-Complete.front c.in-Ok.front c.in-Complete.cert c.in-Complete.ensures
    (c.in-Ok.ensures ∙ ap (λ s. outcomes_in_own_sense s c.in-Complete.front) c.sense-sense.ensures)

pub returns-in-Infeasible : goal.returns-in-Infeasible
returns-in-Infeasible c = none-found c.args.limits.now c.args.model.now c.requires.whole c.in-Infeasible.cert c.in-Infeasible.results c.in-Infeasible.ensures

pub returns-in-Ok-in_own_sense : goal.returns-in-Ok-in_own_sense
returns-in-Ok-in_own_sense c =
    let s = c.in-Stopped in
    let held = c.told.result.held in
    subst (λ a. IsFrontFound c.args.limits.now c.args.model.now a held) (sym c.told.ensures.answer)
    (stop-found c.args.limits.now c.args.model.now c.requires.whole s.front c.in-Ok-in_own_sense.front s.part s.why s.results s.bound s.best held s.ensures
    (c.in-Ok-in_own_sense.ensures ∙ ap (λ sense. outcomes_in_own_sense sense s.front) c.sense-sense.ensures) c.told.ensures.held)

pub returns-in-Ok-in_own_sense-2 : goal.returns-in-Ok-in_own_sense-2
returns-in-Ok-in_own_sense-2 c =
    let s = c.in-WideScale in
    let told = c.told-in-Ok-in_own_sense-2 in
    subst (λ a. IsFrontFound c.args.limits.now c.args.model.now a told.result.held) (sym told.ensures.answer)
    (wide-found c.args.limits.now c.args.model.now c.requires.whole s.front c.in-Ok-in_own_sense-2.front s.part s.place told.result.held s.ensures
    (c.in-Ok-in_own_sense-2.ensures ∙ ap (λ sense. outcomes_in_own_sense sense s.front) c.sense-sense.ensures) told.ensures.held)
