use Rattle.std.proofs.Common.{◌∙◌, ◌<◌, sym, subst, IfSome, to_z, of_z, w64, Ok, Err, Some, None}
use Rattle.table_entries.proofs.ReadLemmas.{short_read}
use Rattle.basic_solution.specs.KeptCosts.{AreKeptCosts}
use Rattle.basic_solution.specs.KeptValues.{AreKeptValues}
use Rattle.dual_simplex.specs.private.Answers.{IsLeaving}
use Rattle.dual_simplex.specs.private.SmallStandings.{AreSmallStanding}
use Rattle.dual_simplex.proofs.leaving.next_out.Goals as goal

pub keep_values-requires-clause-kept : goal.keep_values-requires-clause-kept
keep_values-requires-clause-kept c =
    subst (λ s. AreKeptValues s (to_z w64 (of_z w64 c.args.values_over)) c.args.values.now) (sym c.write_for_values.ensures)
    (subst (λ d. AreKeptValues c.args.state.now d c.args.values.now) (sym (short_read c.args.values_over c.requires.values.denominator_short)) c.requires.values)

pub write_row-requires : goal.write_row-requires
write_row-requires c = let out = subst (λ o. IsLeaving c.write_for_values.new.self (Ok o)) c.in-Ok-Some.field-0-is c.in-Ok-Some.ensures in out.0.within

pub keep_row-requires-clause-row : goal.keep_row-requires-clause-row
keep_row-requires-clause-row c =
    let out = subst (λ o. IsLeaving c.write_for_values.new.self (Ok o)) c.in-Ok-Some.field-0-is c.in-Ok-Some.ensures in
    subst (λ s. c.in-Ok-Some.leaving.row < s.tableau.activities) (sym c.write_row.ensures) out.0.within

pub keep_row-requires-clause-standing : goal.keep_row-requires-clause-standing
keep_row-requires-clause-standing c =
    subst (λ s. IfSome c.small_count-small.result (λ n. AreSmallStanding s c.write_standing-count.new.places c.write_standing-count.new.numbers n)) (sym c.write_row.ensures) c.small_count-small.ensures

pub keep_row-requires-clause-kept : goal.keep_row-requires-clause-kept
keep_row-requires-clause-kept c = subst (λ s. AreKeptValues s (to_z w64 (of_z w64 c.args.values_over)) c.keep_values.new.kept) (sym c.write_row.ensures) c.keep_values.ensures

pub keep_costs-requires-clause-row : goal.keep_costs-requires-clause-row
keep_costs-requires-clause-row c =
    let out = subst (λ o. IsLeaving c.write_for_values.new.self (Ok o)) c.in-Ok-Some.field-0-is c.in-Ok-Some.ensures in
    subst (λ s. c.in-Ok-Some.leaving.row < s.tableau.activities) (sym c.write_row.ensures) out.0.within

pub keep_costs-requires-clause-kept : goal.keep_costs-requires-clause-kept
keep_costs-requires-clause-kept c =
    subst (λ s. AreKeptCosts s (to_z w64 (of_z w64 c.args.costs_over)) c.args.costs.now) (sym (c.write_row.ensures ∙ c.write_for_values.ensures))
    (subst (λ d. AreKeptCosts c.args.state.now d c.args.costs.now) (sym (short_read c.args.costs_over c.requires.costs.denominator_short)) c.requires.costs)

pub returns-in-Err : goal.returns-in-Err
returns-in-Err c = record {
  leaving = subst (λ s. IsLeaving s (Err c.in-Err.step)) c.write_for_values.ensures c.in-Err.ensures;
  kept = c.write_for_values.ensures;
  costs = subst (λ s. AreKeptCosts s c.args.costs_over c.args.costs.now) (sym c.write_for_values.ensures) c.requires.costs;
  values = subst (λ d. AreKeptValues c.write_for_values.new.self d c.keep_values.new.kept) (short_read c.args.values_over c.requires.values.denominator_short) c.keep_values.ensures;
}

pub returns-in-Ok-None : goal.returns-in-Ok-None
returns-in-Ok-None c = record {
  leaving = subst (λ s. IsLeaving s (Ok None)) c.write_for_values.ensures (subst (λ o. IsLeaving c.write_for_values.new.self (Ok o)) c.in-Ok-None.field-0-is c.in-Ok-None.ensures);
  kept = c.write_for_values.ensures;
  costs = subst (λ s. AreKeptCosts s c.args.costs_over c.args.costs.now) (sym c.write_for_values.ensures) c.requires.costs;
  values = subst (λ d. AreKeptValues c.write_for_values.new.self d c.keep_values.new.kept) (short_read c.args.values_over c.requires.values.denominator_short) c.keep_values.ensures;
}

pub returns-in-Ok-Some : goal.returns-in-Ok-Some
returns-in-Ok-Some c =
    let out = subst (λ o. IsLeaving c.write_for_values.new.self (Ok o)) c.in-Ok-Some.field-0-is c.in-Ok-Some.ensures in
    record {
      leaving = subst (λ s. IsLeaving s (Ok (Some c.in-Ok-Some.leaving))) c.write_for_values.ensures out;
      kept = c.write_row.ensures ∙ c.write_for_values.ensures;
      costs = subst (λ d. AreKeptCosts c.write_row.new.self d c.keep_costs.new.kept) (short_read c.args.costs_over c.requires.costs.denominator_short) c.keep_costs.ensures;
      values = subst (λ d. AreKeptValues c.write_row.new.self d c.keep_row.new.kept) (short_read c.args.values_over c.requires.values.denominator_short) c.keep_row.ensures;
    }
