use Rattle.std.proofs.Common.{◌≡◌, ◌*◌, ◌+◌, ◌∙◌, sym, ap, subst, arith, get_or, pos}
use Rattle.frac128.specs.Rational.{int}
use Rattle.table_entries.specs.Relaxation.{pivoted_entry}
use Rattle.table_entries.specs.Steps.{EntryFits}
use Rattle.table_entries.specs.FlatSteps.{dense_entry}
use Rattle.table_entries.specs.private.RowSteps.{IsLeftAlone}
use Rattle.table_entries.proofs.RowLemmas.{all_rows, leaving_kept}
use Rattle.table_entries.proofs.LeftLemmas.{left_fits, some_written, none_written}
use Rattle.table_entries.proofs.rows.write_by_rows.Goals as goal
use Rattle.table_entries.proofs.rows.write_by_rows.Goals.{then-at_row-row+else-is_left_alone+in-Ok-write_row, then-at_row-row+then-is_left_alone, else-at_row-row}

pub loop-at_row-preserved : goal.loop-at_row-preserved
loop-at_row-preserved c =
    let n = c.args.columns in
    let t = dense_entry n c.args.entries.now in
    let i = c.loop-at_row.at_row in
    let taken = c.loop-at_row.invariant.written in
    elim c.if-at_row-row.branch [
      | then-at_row-row+else-is_left_alone+in-Ok-write_row w ↦ record {
        leaving = λ k q. ap (λ xs. get_or xs (c.args.row * n + k) (int (pos 0))) w.next-is
            ∙ leaving_kept n c.args.row c.args.place c.args.entries.now c.loop-at_row.next w.write_row.new.next i w.write_row.ensures.others w.if-at_row-row.true c.loop-at_row.invariant.leaving k q;
        leaving_fits = c.loop-at_row.invariant.leaving_fits;
        written = λ j k less q goes. ap (λ xs. get_or xs (j * n + k) (int (pos 0))) w.next-is
            ∙ some_written n c.args.row c.args.place c.args.entries.now c.loop-at_row.next w.write_row.new.next i w.write_row.ensures.others taken w.in-Ok-write_row.ensures.written j k less q goes;
        fits = all_rows n c.args.row c.args.place c.args.entries.now c.loop-at_row.next c.loop-at_row.next i {P = EntryFits t c.args.row c.args.place} c.loop-at_row.invariant.fits w.in-Ok-write_row.ensures.fits;
      }
      | then-at_row-row+then-is_left_alone w ↦ record {
        leaving = λ k q. ap (λ xs. get_or xs (c.args.row * n + k) (int (pos 0))) w.next-is ∙ c.loop-at_row.invariant.leaving k q;
        leaving_fits = c.loop-at_row.invariant.leaving_fits;
        written = λ j k less q goes. ap (λ xs. get_or xs (j * n + k) (int (pos 0))) w.next-is
            ∙ none_written n c.args.row c.args.place c.args.entries.now c.loop-at_row.next i (w.is_left_alone.ensures.0 w.if-is_left_alone.true) taken j k less q goes;
        fits = all_rows n c.args.row c.args.place c.args.entries.now c.loop-at_row.next c.loop-at_row.next i {P = EntryFits t c.args.row c.args.place} c.loop-at_row.invariant.fits
            (λ k q. left_fits n c.args.row c.args.place i c.args.entries.now k (w.is_left_alone.ensures.0 w.if-is_left_alone.true) (c.loop-at_row.invariant.leaving_fits k q) (w.have_room.ensures k q));
      }
      | else-at_row-row w ↦ record {
        leaving = λ k q. ap (λ xs. get_or xs (c.args.row * n + k) (int (pos 0))) w.next-is ∙ c.loop-at_row.invariant.leaving k q;
        leaving_fits = c.loop-at_row.invariant.leaving_fits;
        written = λ j k less q goes. ap (λ xs. get_or xs (j * n + k) (int (pos 0))) w.next-is
            ∙ all_rows n c.args.row c.args.place c.args.entries.now c.loop-at_row.next c.loop-at_row.next i {P = λ j k. ¬ (IsLeftAlone t c.args.row c.args.place j) → get_or c.loop-at_row.next (j * n + k) (int (pos 0)) ≡ pivoted_entry t c.args.row c.args.place j k} taken
            (λ k q goes. subst (λ r. get_or c.loop-at_row.next (r * n + k) (int (pos 0)) ≡ pivoted_entry t c.args.row c.args.place r k) (sym w.if-at_row-row.false) (c.loop-at_row.invariant.leaving k q)) j k less q goes;
        fits = all_rows n c.args.row c.args.place c.args.entries.now c.loop-at_row.next c.loop-at_row.next i {P = EntryFits t c.args.row c.args.place} c.loop-at_row.invariant.fits
            (λ k q. subst (λ r. EntryFits t c.args.row c.args.place r k) (sym w.if-at_row-row.false) (c.loop-at_row.invariant.leaving_fits k q));
      }
    ]

pub loop-at_row-init : goal.loop-at_row-init
loop-at_row-init c = record {
  leaving = c.in-Ok.ensures.written;
  leaving_fits = c.in-Ok.ensures.fits;
  written = λ i k less. absurd (omega (arith, less));
  fits = λ i k less. absurd (omega (arith, less));
}

pub write_row-requires-clause-other : goal.write_row-requires-clause-other
write_row-requires-clause-other c = c.if-at_row-row.true

pub write_row-requires-clause-leaving : goal.write_row-requires-clause-leaving
write_row-requires-clause-leaving c = c.loop-at_row.invariant.leaving

pub write_row-requires-clause-leaving_fits : goal.write_row-requires-clause-leaving_fits
write_row-requires-clause-leaving_fits c = c.loop-at_row.invariant.leaving_fits

pub returns-in-Err-clause-wide : goal.returns-in-Err-clause-wide
returns-in-Err-clause-wide c = let w = c.in-Err.ensures.wide in (c.args.row, (w.0, (c.requires.row, w.1)))

pub returns-in-Err-write_row-clause-wide : goal.returns-in-Err-write_row-clause-wide
returns-in-Err-write_row-clause-wide c = let w = c.in-Err-write_row.ensures.wide in (c.loop-at_row.at_row, (w.0, (c.loop-at_row-test.true, w.1)))

pub returns-clause-written : goal.returns-clause-written
returns-clause-written c = λ i k p q goes. c.loop-at_row.invariant.written i k (let past = c.loop-at_row-test.false in omega (arith, p, past)) q goes

pub returns-clause-fits : goal.returns-clause-fits
returns-clause-fits c = λ i k p q. c.loop-at_row.invariant.fits i k (let past = c.loop-at_row-test.false in omega (arith, p, past)) q
