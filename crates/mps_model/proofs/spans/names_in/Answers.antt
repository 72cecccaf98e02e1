use Rattle.std.proofs.Common.{sym, subst}
use Rattle.mps_sections.specs.Limits.{AreNamesApart}
use Rattle.mps_model.proofs.spans.names_in.Goals as goal

pub of-requires : goal.of-requires
of-requires c = subst AreNamesApart (sym c.in-Ok.ensures) c.requires
