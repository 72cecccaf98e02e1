use Rattle.std.proofs.Common.{◌≡◌, ◌<◌, ◌≤◌, ◌∙◌, ap, sym, None, arith, length}
use Rattle.lp_model.proofs.ElementLemmas.{of_element-read}
use Rattle.row_tableau.specs.Relaxations.{form_of}
use Rattle.row_tableau.proofs.CutLemmas.{row_low, past_low}
use Rattle.row_tableau.proofs.relax.Relax.activity_low.Goals as goal

pub returns-then-activity-rows : goal.returns-then-activity-rows
returns-then-activity-rows c =
    let F = form_of c.args.self.now in
    let i = c.args.activity in
    let same : length c.rows-rows.result.now ≡ length F.model.rows = ap length c.rows-rows.ensures.items in
    let within : i < length F.model.rows = let h = c.if-activity-rows.true in omega (arith, h, same) in
    ap (λ r. r.lo) (sym c.index-rows-activity.is)
    ∙ of_element-read None (λ r. r.lo) F.model.rows c.rows-rows.result.now i c.index-rows-activity.result c.rows-rows.ensures.items within c.index-rows-activity.is
    ∙ row_low F i within

pub returns-else-activity-rows : goal.returns-else-activity-rows
returns-else-activity-rows c =
    let F = form_of c.args.self.now in
    let i = c.args.activity in
    let same : length c.rows-rows.result.now ≡ length F.model.rows = ap length c.rows-rows.ensures.items in
    let past : length F.model.rows ≤ i = let h = c.if-activity-rows.false in omega (arith, h, same) in
    sym (past_low F i past)
