use Rattle.std.proofs.Common.{◌∙◌}
use Rattle.row_tableau.proofs.tableau.Tableau.wide_pivot.Goals as goal

pub returns : goal.returns
returns c = record {
  row_within = c.requires.row;
  place_within = c.requires.place;
  some = c.requires.some;
  at_row = c.args.at.row;
  at_place = c.args.at.place;
  first = c.requires.first;
  leaving = c.variable.ensures ∙ c.basic.ensures.value;
  entering = c.variable-2.ensures ∙ c.nonbasic.ensures.value;
  entry_row = c.basic_after.ensures;
  entry_place = c.nonbasic_after.ensures;
}
