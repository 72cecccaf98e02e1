use Rattle.std.proofs.Common.{◌≡◌, ◌⊎◌, ℕ, List, [], ◌++◌, take, sym, ap, ◌∙◌, subst, false}
use Rattle.std.proofs.lemmas.List.{take_rest, take-append-drop}
use Rattle.mps_text.specs.Text.{is_header}
use Rattle.mps_text.proofs.fields.cut_field.Goals as goal

pub returns-clause-clean : goal.returns-clause-clean
returns-clause-clean c = c.field_end-end.ensures.clean

pub returns-clause-parts : goal.returns-clause-parts
returns-clause-parts c =
    let text = c.args.text.now in
    let end = c.field_end-end.result in
    sym (ap (λ (rest : List ℕ). take end text ++ rest) (take_rest text end) ∙ take-append-drop end text)

pub returns-clause-behind : goal.returns-clause-behind
returns-clause-behind c = subst (λ (rest : List ℕ). (rest ≡ []) ⊎ (is_header rest ≡ false)) (sym (take_rest c.args.text.now c.field_end-end.result)) c.field_end-end.ensures.behind
