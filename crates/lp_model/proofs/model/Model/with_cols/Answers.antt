use Rattle.std.proofs.Common.{◌∙◌, ap, sym, subst, refl}
use Rattle.lp_model.specs.Program.{Program}
use Rattle.lp_model.specs.Lawful.{IsLawful}
use Rattle.lp_model.proofs.ModelLemmas.{same_model}
use Rattle.lp_model.proofs.model.Model.with_cols.Goals as goal

pub invariant_of-result : goal.invariant_of-result
invariant_of-result c =
    let m = c.self.inside in
    let M : Program = record { sense = m.sense; obj = m.obj; obj2 = m.obj2; consts = m.consts; rows = m.rows; cols = c.args.cols; wide = m.wide } in
    let same = same_model M c.in-Ok.obj c.in-Ok-copy_name.obj2 c.in-Ok-copy_rows.rows c.args.cols c.in-Ok.ensures c.in-Ok-copy_name.ensures c.in-Ok-copy_rows.ensures refl in
    subst IsLawful (sym (same ∙ ap (λ (p : Program). record p { cols = c.args.cols }) c.self.view_is)) c.requires

pub returns : goal.returns
returns c =
    let m = c.self.inside in
    let M : Program = record { sense = m.sense; obj = m.obj; obj2 = m.obj2; consts = m.consts; rows = m.rows; cols = c.args.cols; wide = m.wide } in
    same_model M c.in-Ok.obj c.in-Ok-copy_name.obj2 c.in-Ok-copy_rows.rows c.args.cols c.in-Ok.ensures c.in-Ok-copy_name.ensures c.in-Ok-copy_rows.ensures refl
    ∙ ap (λ (p : Program). record p { cols = c.args.cols }) c.self.view_is
