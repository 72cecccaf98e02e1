use Rattle.std.proofs.Common.{◌≤◌, arith, false, length, sym}
use Rattle.std.proofs.lemmas.List.{get_or_past}
use Rattle.table_entries.proofs.wholes.is_unwritten.Goals as goal

pub returns-else-row-unwritten : goal.returns-else-row-unwritten
returns-else-row-unwritten c = let past : length c.args.unwritten.now ≤ c.args.row = let h = c.if-row-unwritten.false in omega (arith, h) in sym (get_or_past c.args.unwritten.now c.args.row false past)
