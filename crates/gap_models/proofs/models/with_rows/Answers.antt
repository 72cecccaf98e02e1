use Rattle.std.specs.Prelude.{IfOk}
use Rattle.std.proofs.Common.{◌≡◌, ◌∙◌, sym, ap, subst}
use Rattle.lp_model.specs.Edits.{edited, EditFits}
use Rattle.inner_models.specs.Inner.{g1_name, g2_name, capped}
use Rattle.gap_models.proofs.models.with_rows.Goals as goal

pub with_cap-requires : goal.with_cap-requires
with_cap-requires c = subst (λ n. EditFits c.args.start (capped n c.args.gap.now.side1 c.args.rows.first)) (sym c.in-Ok.ensures) c.requires.first

pub with_cap-requires-2 : goal.with_cap-requires-2
with_cap-requires-2 c =
    let g = c.args.gap.now in
    let rows = c.args.rows in
    let half : c.in-Ok-with_cap.half ≡ edited c.args.start (capped (g1_name c.args.model.now) g.side1 rows.first) =
    c.in-Ok-with_cap.ensures ∙ ap (λ n. edited c.args.start (capped n g.side1 rows.first)) c.in-Ok.ensures in
    subst (λ h. EditFits h (capped c.in-Ok-g2_name.g2 g.side2 rows.second)) (sym half)
    (subst (λ n. EditFits (edited c.args.start (capped (g1_name c.args.model.now) g.side1 rows.first)) (capped n g.side2 rows.second)) (sym c.in-Ok-g2_name.ensures) c.requires.second)

pub returns : goal.returns
returns c =
    let g = c.args.gap.now in
    let rows = c.args.rows in
    let half : c.in-Ok-with_cap.half ≡ edited c.args.start (capped (g1_name c.args.model.now) g.side1 rows.first) =
    c.in-Ok-with_cap.ensures ∙ ap (λ n. edited c.args.start (capped n g.side1 rows.first)) c.in-Ok.ensures in
    subst (λ h. IfOk c.with_cap-2.result (λ m. m ≡ edited h (capped (g2_name c.args.model.now) g.side2 rows.second))) half
    (subst (λ n. IfOk c.with_cap-2.result (λ m. m ≡ edited c.in-Ok-with_cap.half (capped n g.side2 rows.second))) c.in-Ok-g2_name.ensures c.with_cap-2.ensures)
