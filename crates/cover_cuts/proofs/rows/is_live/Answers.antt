use Rattle.cover_cuts.proofs.CoverLemmas.{live-answer, live-wide}
use Rattle.cover_cuts.proofs.rows.is_live.Goals as goal

pub returns-in-Ok : goal.returns-in-Ok
returns-in-Ok c = live-answer c.args.model.now c.args.derivation.now c.in-Ok.derives c.in-Ok.ensures

pub returns-in-Err : goal.returns-in-Err
returns-in-Err c = live-wide c.args.model.now c.args.derivation.now c.in-Err.field-0 c.in-Err.ensures
