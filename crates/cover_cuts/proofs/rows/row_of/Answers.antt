use Rattle.std.proofs.Common.{◌∙◌, ap}
use Rattle.cover_cuts.specs.Cuts.{cover_terms, cover_high}
use Rattle.cover_cuts.proofs.rows.row_of.Goals as goal

pub returns-clause-cut : goal.returns-clause-cut
returns-clause-cut c = record {
  row = record { terms = c.in-Ok.ensures ∙ ap cover_terms c.as_slice.ensures; high = c.cover_high-hi.ensures ∙ ap cover_high c.as_slice-2.ensures };
  live = c.is_live-live.ensures;
}
