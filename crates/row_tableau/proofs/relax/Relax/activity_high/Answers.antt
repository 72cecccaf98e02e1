use Rattle.std.proofs.Common.{◌≡◌, ◌<◌, ◌≤◌, ◌-◌, ◌∙◌, ap, sym, Some, None, arith, length}
use Rattle.lp_model.specs.Formulations.{cut_high}
use Rattle.lp_model.specs.declared.types.CutRow.{CutRow}
use Rattle.lp_model.proofs.ElementLemmas.{of_element-get, of_element-read}
use Rattle.row_tableau.specs.Relaxations.{form_of}
use Rattle.row_tableau.proofs.CutLemmas.{row_high, past_high}
use Rattle.row_tableau.proofs.relax.Relax.activity_high.Goals as goal

pub returns-then-activity-rows : goal.returns-then-activity-rows
returns-then-activity-rows c =
    let F = form_of c.args.self.now in
    let i = c.args.activity in
    let same : length c.rows-rows.result.now ≡ length F.model.rows = ap length c.rows-rows.ensures.items in
    let within : i < length F.model.rows = let h = c.if-activity-rows.true in omega (arith, h, same) in
    ap (λ r. r.hi) (sym c.index-rows-activity.is)
    ∙ of_element-read None (λ r. r.hi) F.model.rows c.rows-rows.result.now i c.index-rows-activity.result c.rows-rows.ensures.items within c.index-rows-activity.is
    ∙ row_high F i within

pub returns-else-activity-rows : goal.returns-else-activity-rows
returns-else-activity-rows c =
    let F = form_of c.args.self.now in
    let i = c.args.activity in
    let rows = length c.rows-rows.result.now in
    let same : rows ≡ length F.model.rows = ap length c.rows-rows.ensures.items in
    let past : length F.model.rows ≤ i = let h = c.if-activity-rows.false in omega (arith, h, same) in
    let within : i - rows < length F.cuts = let h = c.requires in omega (arith, h, past, same) in
    ap (λ (x : CutRow). Some x.hi) (sym c.index-self-activity.is)
    ∙ sym (of_element-get None (λ (x : CutRow). Some x.hi) F.cuts (i - rows) c.index-self-activity.result within c.index-self-activity.is)
    ∙ ap (λ n. cut_high F.cuts (i - n)) same
    ∙ sym (past_high F i past)
