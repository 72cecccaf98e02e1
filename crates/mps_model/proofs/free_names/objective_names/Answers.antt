use Rattle.std.proofs.Common.{◌≡◌, ℕ, List, ◌++◌, ◌∷◌, [], ap, subst, ◌∙◌}
use Rattle.std.specs.Prelude.{codes, Result, Ok, Err, IfOk}
use Rattle.mps_sections.specs.Statements.{stated_row_names}
use Rattle.mps_model.specs.Meaning.{objective_or, second_or, free_name}
use Rattle.mps_model.proofs.free_names.objective_names.Goals as goal

abbrev first_of : List (List ℕ) → List (List ℕ) → List ℕ
first_of objectives taken = objective_or objectives (free_name taken (codes "OBJ"))

second_of : {E : Type 0} (result : Result (List ℕ × List ℕ) E) (objectives taken : List (List ℕ)) → IfOk result (λ names. names.0 ≡ first_of objectives taken)
    → IfOk result (λ names. names.1 ≡ second_or objectives (free_name (taken ++ names.0 ∷ []) (codes "OBJ2")))
    → IfOk result (λ names. names.1 ≡ second_or objectives (free_name (taken ++ first_of objectives taken ∷ []) (codes "OBJ2")))
second_of (Ok names) objectives taken p q = q ∙ ap (λ (name : List ℕ). second_or objectives (free_name (taken ++ name ∷ []) (codes "OBJ2"))) p
second_of (Err error) objectives taken p q = tt

pub returns-clause-first : goal.returns-clause-first
returns-clause-first c =
    let taken = c.in-Ok.ensures ∙ ap stated_row_names c.as_slice.ensures in
    subst (λ P. P) (λ i. IfOk c.names_beside-names.result (λ names. names.0 ≡ first_of (c.as_slice-2.ensures i) (taken i))) c.names_beside-names.ensures.first

pub returns-clause-second : goal.returns-clause-second
returns-clause-second c =
    let taken = c.in-Ok.ensures ∙ ap stated_row_names c.as_slice.ensures in
    let found = c.names_beside-names.result in
    subst (λ P. P) (λ i. IfOk found (λ names. names.1 ≡ second_or (c.as_slice-2.ensures i) (free_name (taken i ++ first_of (c.as_slice-2.ensures i) (taken i) ∷ []) (codes "OBJ2"))))
    (second_of found c.as_slice-2.result.now c.in-Ok.taken c.names_beside-names.ensures.first c.names_beside-names.ensures.second)
