use Rattle.std.proofs.Common.{◌≡◌, ℕ, List, ◌++◌, ◌∷◌, [], ap, subst, ◌∙◌}
use Rattle.std.specs.Prelude.{codes, IfOk}
use Rattle.mps_model.specs.Meaning.{second_or, free_name}
use Rattle.mps_model.proofs.free_names.second_behind.Goals as goal

pub returns : goal.returns
returns c =
    let taken = c.as_slice-2.ensures ∙ c.in-Ok.ensures ∙ ap (λ (name : List ℕ). c.args.taken.now ++ name ∷ []) c.as_slice.ensures in
    subst (λ (names : List (List ℕ)). IfOk c.second_name.result (λ name. name ≡ second_or c.args.objectives.now (free_name names (codes "OBJ2")))) taken c.second_name.ensures
