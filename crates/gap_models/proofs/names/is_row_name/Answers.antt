use Rattle.std.proofs.Common.{rules, ◌≡◌, ◌∙◌, false, sym, map, inl, inr, ◌∷◌}
use Rattle.lp_model.proofs.NameLemmas.{not_same, contains_later, contains_cases}
use Rattle.gap_models.proofs.names.is_row_name.Goals as goal

pub returns : goal.returns
returns c =
    let M = c.args.model.now in
    let name = c.args.name.now in
    let rows = map (λ r. r.name) M.rows in
    let one : c.eq.result ≡ false = search rules in
    let two : c.eq-2.result ≡ false = search rules in
    let first : ¬ (M.obj ≡ name) = λ e. not_same c.as_slice.result.now name (sym c.eq.ensures ∙ one) (c.as_slice.ensures ∙ c.objective_name.ensures ∙ e) in
    let second : ¬ (M.obj2 ≡ name) = λ e. not_same c.as_slice-2.result.now name (sym c.eq-2.ensures ∙ two) (c.as_slice-2.ensures ∙ c.objective_name-2.ensures ∙ e) in (
      (λ t. contains_later M.obj name (M.obj2 ∷ rows) (contains_later M.obj2 name rows (c.has_row.ensures.0 t))),
      (λ h. c.has_row.ensures.1 (elim (contains_cases M.obj name (M.obj2 ∷ rows) h) [
        | inl e ↦ absurd (first e)
        | inr more ↦ elim (contains_cases M.obj2 name rows more) [ inl e ↦ absurd (second e) | inr last ↦ last ]
      ])),
    )
