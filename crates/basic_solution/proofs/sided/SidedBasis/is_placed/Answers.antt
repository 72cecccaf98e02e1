use Rattle.std.proofs.Common.{◌↔◌, ◌∙◌, IsTrue, sym, subst, get_or}
use Rattle.std.proofs.lemmas.Bool.{false≢true}
use Rattle.table_entries.specs.declared.stand.Stand.TheVariants.{Free}
use Rattle.table_entries.specs.States.{LawfulAt, reduced_parts}
use Rattle.basic_solution.specs.Held.{relaxation, parts, table}
use Rattle.basic_solution.specs.Slack.{CanStand}
use Rattle.table_entries.proofs.Signs.{asked_once}
use Rattle.basic_solution.proofs.sided.SidedBasis.is_placed.Goals as goal

pub asked-requires-clause-cost : goal.asked-requires-clause-cost
asked-requires-clause-cost c = c.in-Ok.ensures.1

pub returns-then-is_same : goal.returns-then-is_same
returns-then-is_same c =
    let now = c.args.self.now in
    let place = c.args.place in
    let v = (table now).nonbasic place in
    let can = subst (λ st. IsTrue c.can_stand.result ↔ CanStand st ((relaxation now).low v) ((relaxation now).high v)) c.stand_of-stand.ensures c.can_stand.ensures in
    let asked = subst (λ st. LawfulAt st (reduced_parts (relaxation now) (parts now) (table now) place)) (c.is_same.ensures.0 c.if-is_same.true ∙ c.stand_of-stand.ensures) c.asked.ensures in
    (c.in-Ok.ensures.0, ((λ t. record { asked = asked; can = can.0 t }), (λ h. can.1 h.can)))

pub returns-else-is_same : goal.returns-else-is_same
returns-else-is_same c =
    let now = c.args.self.now in
    let place = c.args.place in (
      c.in-Ok.ensures.0,
      (
        (λ t. absurd (false≢true t)),
        (λ h. absurd (false≢true (sym c.if-is_same.false ∙ c.is_same.ensures.1 (asked_once (reduced_parts (relaxation now) (parts now) (table now) place) c.asked.result (get_or now.stands place Free) c.asked.ensures h.asked ∙ sym c.stand_of-stand.ensures)))),
      ),
    )
