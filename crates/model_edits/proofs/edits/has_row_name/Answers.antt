use Rattle.std.proofs.Common.{◌≡◌, ◌∙◌, sym, ap, subst, map, Contains, inl, inr, ◌∷◌}
use Rattle.lp_model.proofs.NameLemmas.{not_same, contains_later, contains_cases}
use Rattle.model_edits.proofs.edits.has_row_name.Goals as goal

pub returns : goal.returns
returns c =
    let M = c.args.model.now in
    let name = c.args.name.now in
    let rows = map (λ r. r.name) M.rows in
    let first : ¬ (M.obj ≡ name) = λ e. not_same c.objective_name.result.now name (sym c.is_same.ensures ∙ c.if-is_same.false) (c.objective_name.ensures ∙ e) in
    let second : ¬ (M.obj2 ≡ name) = λ e. not_same c.objective_name-2.result.now name (sym c.is_same-2.ensures ∙ c.if-is_same-2.false) (c.objective_name-2.ensures ∙ e) in
    let along : Contains (map (λ r. r.name) c.rows.result.now) name ≡ Contains rows name = ap (λ l. Contains (map (λ r. r.name) l) name) c.rows.ensures.items in (
      (λ t. contains_later M.obj name (M.obj2 ∷ rows) (contains_later M.obj2 name rows (subst (λ P. P) along (c.has_name.ensures.0 t)))),
      (λ h. c.has_name.ensures.1 (subst (λ P. P) (sym along) (elim (contains_cases M.obj name (M.obj2 ∷ rows) h) [
        | inl e ↦ absurd (first e)
        | inr more ↦ elim (contains_cases M.obj2 name rows more) [ inl e ↦ absurd (second e) | inr last ↦ last ]
      ]))),
    )
