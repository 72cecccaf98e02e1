use Rattle.std.proofs.Common.{arith}
use Rattle.leaf_judging.proofs.former.Former.named_way.Goals as goal

pub returns-else-not-leaves_all_but_side : goal.returns-else-not-leaves_all_but_side
returns-else-not-leaves_all_but_side c =
    let row = c.has_row.ensures.0 c.if-not-has_row.false in
    let columns = c.has_column.ensures.0 c.if-not-has_column.false in
    let turns = c.if-not-leaves_all_but_side.false in
    let first = columns.0 in
    let same = columns.1 in
    record {
      side = c.in-RowSides.is;
      named = c.requires;
      mult = c.leaves_all_but_side.ensures.mult turns;
      farkas = c.leaves_all_but_side.ensures.farkas turns;
      within = row.0;
      rows = row.1;
      cuts = c.leaves_all_but_side.ensures.cuts turns;
      columns = columns.1;
      some = omega (arith, first, same);
    }
