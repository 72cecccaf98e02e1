use Rattle.leaf_dual.proofs.whole_leaf.WholeLeaf.has_short_terms.Goals as goal

pub returns : goal.returns
returns c = λ t. record {
  start = c.has_short_constant.ensures c.if-not-has_short_constant.false;
  rows = c.has_short_rows.ensures c.if-not-has_short_rows.false;
  cuts = c.has_short_cuts.ensures c.if-not-has_short_cuts.false;
  columns = c.has_short_columns.ensures t;
}
