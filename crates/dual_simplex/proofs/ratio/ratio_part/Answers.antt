use Rattle.std.proofs.Common.{◌∙◌, subst, inl, inr}
use Rattle.frac128.specs.Rational.{◌/ℚ◌, ◌*ℚ◌}
use Rattle.frac128.specs.Range.{Fits}
use Rattle.table_entries.specs.Relaxation.{reduced_cost}
use Rattle.table_entries.specs.States.{sign}
use Rattle.basic_solution.specs.Held.{relaxation, table, parts}
use Rattle.dual_simplex.proofs.RatioLemmas.{none_answer}
use Rattle.dual_simplex.proofs.ratio.ratio_part.Goals as goal

pub returns-in-Err : goal.returns-in-Err
returns-in-Err c = inl c.in-Err.ensures

pub returns-then-is_zero : goal.returns-then-is_zero
returns-then-is_zero c = none_answer c.args.state.now c.args.row c.args.side c.args.place c.args.part c.in-Ok.reduced c.in-Ok.ensures (c.is_zero.ensures.0 c.if-is_zero.true)

pub returns-in-Err-div : goal.returns-in-Err-div
returns-in-Err-div c =
    let now = c.args.state.now in
    inr (record {
      row_within = c.requires.row;
      place_within = c.requires.place;
      reduced = c.in-Ok.ensures.0;
      wide = subst (λ e. ¬ (Fits (reduced_cost (relaxation now) (table now) (parts now c.args.part) c.args.place /ℚ e))) c.entry-entry.ensures
          (subst (λ x. ¬ (Fits (x /ℚ c.entry-entry.result))) c.in-Ok.ensures.1 c.in-Err-div.ensures);
      named = c.ratio_step.ensures;
    })

pub returns-in-Ok-div : goal.returns-in-Ok-div
returns-in-Ok-div c =
    let now = c.args.state.now in
    let value = c.in-Ok-div.ensures.1 in (
      (
        c.in-Ok.ensures.0,
        subst (λ e. Fits (reduced_cost (relaxation now) (table now) (parts now c.args.part) c.args.place /ℚ e)) c.entry-entry.ensures
            (subst (λ x. Fits (x /ℚ c.entry-entry.result)) c.in-Ok.ensures.1 c.in-Ok-div.ensures.0),
      ),
      c.signed.ensures ∙ (λ i. sign c.args.side *ℚ ((value ∙ (λ j. c.in-Ok.ensures.1 j /ℚ c.entry-entry.ensures j)) i)),
    )
