use Rattle.std.proofs.Common.{◌∙◌, refl, ap, subst, true, false, Ok, Err}
use Rattle.cover_cuts.specs.Answers.{IsValidAnswer}
use Rattle.cut_find.specs.Greedy.{cover_of, places_without}
use Rattle.cut_find.proofs.candidates.RowSide.drop_column.Goals as goal

pub returns-in-Ok-true : goal.returns-in-Ok-true
returns-in-Ok-true c =
    let self = c.args.self.now in
    let M = self.model.now in
    let rest_is = c.in-Ok.ensures ∙ ap (places_without c.args.column) c.as_slice.ensures in
    let judged = subst (λ r. IsValidAnswer M (cover_of M self.row.0 self.side c.as_slice-2.result.now) r) (c.in-Ok-true.is ∙ ap Ok c.in-Ok-true.field-0-test) c.in-Ok-is_cover.ensures in
    (Ok true, (subst (λ t. IsValidAnswer M (cover_of M self.row.0 self.side t) (Ok true)) (c.as_slice-2.ensures ∙ rest_is) judged, (refl, c.replace.ensures.after ∙ rest_is)))

pub returns-in-Ok-false : goal.returns-in-Ok-false
returns-in-Ok-false c =
    let self = c.args.self.now in
    let M = self.model.now in
    let rest_is = c.in-Ok.ensures ∙ ap (places_without c.args.column) c.as_slice.ensures in
    let judged = subst (λ r. IsValidAnswer M (cover_of M self.row.0 self.side c.as_slice-2.result.now) r) (c.in-Ok-false.is ∙ ap Ok c.in-Ok-false.field-0-test) c.in-Ok-is_cover.ensures in
    (Ok false, (subst (λ t. IsValidAnswer M (cover_of M self.row.0 self.side t) (Ok false)) (c.as_slice-2.ensures ∙ rest_is) judged, (refl, refl)))

pub returns-in-Err-judged : goal.returns-in-Err-judged
returns-in-Err-judged c =
    let self = c.args.self.now in
    let M = self.model.now in
    let rest_is = c.in-Ok.ensures ∙ ap (places_without c.args.column) c.as_slice.ensures in
    let judged = subst (λ r. IsValidAnswer M (cover_of M self.row.0 self.side c.as_slice-2.result.now) r) c.in-Err-judged.is c.in-Ok-is_cover.ensures in
    (Err c.in-Err-judged.field-0, (subst (λ t. IsValidAnswer M (cover_of M self.row.0 self.side t) (Err c.in-Err-judged.field-0)) (c.as_slice-2.ensures ∙ rest_is) judged, refl))
