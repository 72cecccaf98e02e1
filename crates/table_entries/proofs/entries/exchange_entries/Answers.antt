use Rattle.std.proofs.Common.{◌*◌, ◌+◌, subst}
use Rattle.table_entries.specs.FlatSteps.{FlatFits}
use Rattle.table_entries.proofs.PivotLemmas.{entry_fits, flat_within}
use Rattle.table_entries.proofs.RowLemmas.{flat_fits, flat_written}
use Rattle.table_entries.proofs.entries.exchange_entries.Goals as goal

pub returns-in-Ok-clause-written : goal.returns-in-Ok-clause-written
returns-in-Ok-clause-written c = λ at within. flat_written c.args.columns c.args.rows c.args.row c.args.place c.args.entries.now at within c.exchange_by_rows.new.entries c.in-Ok.ensures.written

pub returns-in-Ok-clause-fits : goal.returns-in-Ok-clause-fits
returns-in-Ok-clause-fits c = λ at within. flat_fits c.args.columns c.args.rows c.args.row c.args.place c.args.entries.now at within c.in-Ok.ensures.fits

pub unreachable-requires : goal.unreachable-requires
unreachable-requires c =
    let a = c.args in
    let wide = c.in-Err.ensures.wide in
    let at = wide.0 * a.columns + wide.1.0 in
    let fits = c.in-Ok-write_by_steps.ensures.fits at (flat_within a.columns a.rows wide.0 wide.1.0 wide.1.1.0 wide.1.1.1.0) in
    wide.1.1.1.1 (entry_fits a.columns a.row a.place a.entries.now wide.0 wide.1.0 wide.1.1.1.0 (subst (λ xs. FlatFits a.columns a.row a.place xs at) c.in-Err.ensures.kept fits))

pub returns-in-Err-write_by_steps-clause-earlier : goal.returns-in-Err-write_by_steps-clause-earlier
returns-in-Err-write_by_steps-clause-earlier c = λ at less.
    let a = c.args in
    subst (λ xs. FlatFits a.columns a.row a.place xs at) c.in-Err.ensures.kept (c.in-Err-write_by_steps.ensures.earlier at less)
