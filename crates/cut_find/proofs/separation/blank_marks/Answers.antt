use Rattle.std.proofs.Common.{◌∙◌, sym}
use Rattle.cut_find.proofs.separation.blank_marks.Goals as goal

pub returns-in-Ok : goal.returns-in-Ok
returns-in-Ok c = sym c.in-Ok.marks.ok.0 ∙ c.in-Ok.ensures.len
