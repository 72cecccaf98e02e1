use Rattle.std.specs.Prelude.{◌≡◌}
use Rattle.std.proofs.Common.{ap, sym, subst, ◌∙◌}
use Rattle.lp_model.specs.Lawful.{column_names}
use Rattle.cert_check.specs.Accepted.{AreNames, point_of}
use Rattle.front_check.proofs.OutcomeSteps.{names_fail, point_breaks, point_wide, point_passes}
use Rattle.front_check.proofs.outcomes.judge_outcome.Goals as goal

pub returns-in-Ok-None : goal.returns-in-Ok-None
returns-in-Ok-None c =
    let M = c.args.model.now in
    let none : ¬ AreNames (column_names M) c.as_slice.result.now = rw c.in-Ok-None.field-0-is at c.in-Ok-None.ensures in
    names_fail M c.args.outcome.now (λ names. none (subst (AreNames (column_names M)) (sym c.as_slice.ensures) names))

pub returns-in-Passes : goal.returns-in-Passes
returns-in-Passes c =
    let M = c.args.model.now in
    let o = c.args.outcome.now in
    let found : AreNames (column_names M) c.as_slice.result.now × (c.in-Ok-Some.point ≡ point_of M c.as_slice.result.now) = rw c.in-Ok-Some.field-0-is at c.in-Ok-Some.ensures in
    point_passes M o c.in-Ok-Some.point (subst (AreNames (column_names M)) c.as_slice.ensures found.0) (found.1 ∙ ap (point_of M) c.as_slice.ensures) c.judge_values.result c.in-Passes.ensures
    c.judge_values.ensures

pub returns-in-Breaks : goal.returns-in-Breaks
returns-in-Breaks c =
    let M = c.args.model.now in
    let o = c.args.outcome.now in
    let found : AreNames (column_names M) c.as_slice.result.now × (c.in-Ok-Some.point ≡ point_of M c.as_slice.result.now) = rw c.in-Ok-Some.field-0-is at c.in-Ok-Some.ensures in
    point_breaks M o c.in-Ok-Some.point (subst (AreNames (column_names M)) c.as_slice.ensures found.0) (found.1 ∙ ap (point_of M) c.as_slice.ensures) c.in-Breaks.why c.in-Breaks.ensures

pub returns : goal.returns
returns c =
    let M = c.args.model.now in
    let o = c.args.outcome.now in
    let found : AreNames (column_names M) c.as_slice.result.now × (c.in-Ok-Some.point ≡ point_of M c.as_slice.result.now) = rw c.in-Ok-Some.field-0-is at c.in-Ok-Some.ensures in
    point_wide M o c.in-Ok-Some.point (subst (AreNames (column_names M)) c.as_slice.ensures found.0) (found.1 ∙ ap (point_of M) c.as_slice.ensures) c.in-NoRoom.step c.in-NoRoom.ensures
