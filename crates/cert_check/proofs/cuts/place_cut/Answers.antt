use Rattle.std.proofs.lemmas.Result.{IfOk-weaker}
use Rattle.cert_check.specs.private.Cuts.{IsPlacedCut}
use Rattle.cert_check.proofs.CutSteps.{fails-names}
use Rattle.cert_check.proofs.cuts.place_cut.Goals as goal

pub returns-in-Ok-Some : goal.returns-in-Ok-Some
returns-in-Ok-Some c =
    let found = rw c.in-Ok-Some.field-0-is at c.in-Ok-Some.ensures in
    IfOk-weaker c.judge_cut.result _ (IsPlacedCut c.args.model.now c.args.cut.now) (λ placed h. h c.args.cut.now found.0 found.1) c.judge_cut.ensures

pub returns-in-Ok-None : goal.returns-in-Ok-None
returns-in-Ok-None c = fails-names c.args.model.now c.args.cut.now (rw c.in-Ok-None.field-0-is at c.in-Ok-None.ensures)
