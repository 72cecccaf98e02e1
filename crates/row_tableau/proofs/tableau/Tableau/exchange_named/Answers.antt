use Rattle.std.proofs.Common.{◌<◌, ◌≢◌, sym, subst, pos}
use Rattle.frac128.specs.Rational.{int}
use Rattle.table_entries.specs.Steps.{IsFirstWidePivotEntry}
use Rattle.row_tableau.specs.Dense.{Dense, table_of}
use Rattle.row_tableau.specs.Answers.{IsWidePivot}
use Rattle.row_tableau.proofs.tableau.Tableau.exchange_named.Goals as goal

pub wide_pivot-requires-clause-row : goal.wide_pivot-requires-clause-row
wide_pivot-requires-clause-row c = subst (λ (t : Dense). c.args.row < t.activities) (sym c.in-Err.ensures.kept) c.requires.row

pub wide_pivot-requires-clause-place : goal.wide_pivot-requires-clause-place
wide_pivot-requires-clause-place c = subst (λ (t : Dense). c.args.place < t.columns) (sym c.in-Err.ensures.kept) c.requires.place

pub wide_pivot-requires-clause-some : goal.wide_pivot-requires-clause-some
wide_pivot-requires-clause-some c = subst (λ (t : Dense). (table_of t).entry c.args.row c.args.place ≢ int (pos 0)) (sym c.in-Err.ensures.kept) c.requires.some

pub wide_pivot-requires-clause-first : goal.wide_pivot-requires-clause-first
wide_pivot-requires-clause-first c =
    subst (λ (t : Dense). IsFirstWidePivotEntry t.columns t.activities (table_of t) c.args.row c.args.place c.in-Err.at.row c.in-Err.at.place) (sym c.in-Err.ensures.kept) c.in-Err.ensures.wide

pub returns-in-Err-clause-wide : goal.returns-in-Err-clause-wide
returns-in-Err-clause-wide c = subst (λ (t : Dense). IsWidePivot t c.args.row c.args.place c.wide_pivot.result) c.in-Err.ensures.kept c.wide_pivot.ensures

pub returns-in-Ok-clause-columns : goal.returns-in-Ok-clause-columns
returns-in-Ok-clause-columns c = c.exchange.ensures.columns

pub returns-in-Err-clause-columns : goal.returns-in-Err-clause-columns
returns-in-Err-clause-columns c = c.exchange.ensures.columns

pub returns-in-Ok-clause-rows : goal.returns-in-Ok-clause-rows
returns-in-Ok-clause-rows c = c.exchange.ensures.rows

pub returns-in-Err-clause-rows : goal.returns-in-Err-clause-rows
returns-in-Err-clause-rows c = c.exchange.ensures.rows

pub returns-in-Ok-clause-activities : goal.returns-in-Ok-clause-activities
returns-in-Ok-clause-activities c = c.exchange.ensures.activities

pub returns-in-Err-clause-activities : goal.returns-in-Err-clause-activities
returns-in-Err-clause-activities c = c.exchange.ensures.activities

pub returns-in-Ok-clause-table : goal.returns-in-Ok-clause-table
returns-in-Ok-clause-table c = c.in-Ok.ensures.table

pub returns-in-Ok-clause-basis : goal.returns-in-Ok-clause-basis
returns-in-Ok-clause-basis c = c.in-Ok.ensures.basis

pub returns-in-Ok-clause-fits : goal.returns-in-Ok-clause-fits
returns-in-Ok-clause-fits c = c.in-Ok.ensures.fits

pub returns-in-Err-clause-kept : goal.returns-in-Err-clause-kept
returns-in-Err-clause-kept c = c.in-Err.ensures.kept
