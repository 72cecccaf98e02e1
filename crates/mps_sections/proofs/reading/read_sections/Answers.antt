use Rattle.std.proofs.Common.{sym, subst}
use Rattle.mps_text.specs.Text.{records_of}
use Rattle.mps_sections.specs.Limits.{StatesWithinLimits}
use Rattle.mps_sections.specs.private.Shown.{held}
use Rattle.mps_sections.proofs.ReadingSteps.{sections_of_whole}
use Rattle.mps_sections.proofs.StatedLimits.{whole-keeps_limits}
use Rattle.mps_sections.proofs.reading.read_sections.Goals as goal

pub returns-in-Ok-into_sections-clause-limits : goal.returns-in-Ok-into_sections-clause-limits
returns-in-Ok-into_sections-clause-limits c =
    let s = sections_of_whole c.args.text.now (held c.in-Ok.tables) c.in-Ok-into_sections.sections c.in-Ok.ensures c.in-Ok-into_sections.ensures in
    subst StatesWithinLimits (sym s.is) (whole-keeps_limits (records_of c.args.text.now) s.entries s.whole)
