use Rattle.table_entries.proofs.LeftLemmas.{taken_rows}
use Rattle.table_entries.proofs.rows.exchange_by_rows.Goals as goal

pub returns-in-Ok-clause-written : goal.returns-in-Ok-clause-written
returns-in-Ok-clause-written c =
    taken_rows c.args.columns c.args.rows c.args.row c.args.place c.args.entries.now c.write_by_rows.new.next c.take_rows.new.entries c.requires.row
    c.in-Ok.ensures.written c.in-Ok.ensures.fits c.take_rows.ensures
