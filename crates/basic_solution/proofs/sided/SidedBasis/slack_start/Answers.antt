use Rattle.std.proofs.Common.{◌∙◌, refl, sym, ap, length, get_or, pos}
use Rattle.frac128.specs.Rational.{int}
use Rattle.row_tableau.specs.Relaxations.{form_of}
use Rattle.basic_solution.specs.Held.{Held}
use Rattle.table_entries.specs.declared.stand.Stand.TheVariants.{Free}
use Rattle.basic_solution.proofs.ListedLemmas.{none_stand}
use Rattle.basic_solution.proofs.SlackLemmas.{slack_sided, slack_state}
use Rattle.basic_solution.proofs.sided.SidedBasis.slack_start.Goals as goal

pub invariant_of-result : goal.invariant_of-result
invariant_of-result c =
    let relax = c.args.relax.now in
    let s : Held = record {
      form = form_of relax;
      low = c.in-Ok.low.items;
      high = c.in-Ok-highs.high.items;
      cost = c.new-priced.result;
      tilt = c.in-Ok-tilts.tilt.items;
      order = c.in-Ok-order.order.items;
      tableau = c.in-Ok-slack_start.tableau;
      stands = c.in-Ok-vec.stands.items;
    } in
    slack_sided relax s refl c.in-Ok-slack_start.ensures.columns c.in-Ok-slack_start.ensures.activities c.in-Ok-slack_start.ensures.rows c.in-Ok-slack_start.ensures.table c.in-Ok-slack_start.ensures.slack
    c.in-Ok.ensures.length c.in-Ok.ensures.items c.in-Ok-highs.ensures.length c.in-Ok-highs.ensures.items (ap length c.new-priced.ensures ∙ c.in-Ok-costs.ensures.length) (λ u q. ap (λ xs. get_or xs u (int (pos 0))) c.new-priced.ensures ∙ c.in-Ok-costs.ensures.items u q)
    c.in-Ok-tilts.ensures.length c.in-Ok-tilts.ensures.items c.in-Ok-order.ensures (sym c.in-Ok-vec.stands.ok.0 ∙ c.in-Ok-vec.ensures.len ∙ ap length c.cols.ensures.items)
    c.requires.sides

pub returns-clause-nowhere : goal.returns-clause-nowhere
returns-clause-nowhere c = λ k w. ap (λ stands. get_or stands k Free) (c.in-Ok-vec.ensures.items_if_clones_equal (λ y e. e)) ∙ none_stand _ k

pub returns-clause-state : goal.returns-clause-state
returns-clause-state c =
    let relax = c.args.relax.now in
    let s : Held = record {
      form = form_of relax;
      low = c.in-Ok.low.items;
      high = c.in-Ok-highs.high.items;
      cost = c.new-priced.result;
      tilt = c.in-Ok-tilts.tilt.items;
      order = c.in-Ok-order.order.items;
      tableau = c.in-Ok-slack_start.tableau;
      stands = c.in-Ok-vec.stands.items;
    } in
    slack_state relax s refl c.in-Ok-slack_start.ensures.columns c.in-Ok-slack_start.ensures.activities c.in-Ok-slack_start.ensures.rows c.in-Ok-slack_start.ensures.table c.in-Ok-slack_start.ensures.slack
    c.in-Ok.ensures.length c.in-Ok.ensures.items c.in-Ok-highs.ensures.length c.in-Ok-highs.ensures.items (ap length c.new-priced.ensures ∙ c.in-Ok-costs.ensures.length) (λ u q. ap (λ xs. get_or xs u (int (pos 0))) c.new-priced.ensures ∙ c.in-Ok-costs.ensures.items u q)
    c.in-Ok-tilts.ensures.length c.in-Ok-tilts.ensures.items c.in-Ok-order.ensures (sym c.in-Ok-vec.stands.ok.0 ∙ c.in-Ok-vec.ensures.len ∙ ap length c.cols.ensures.items)
