use Rattle.std.proofs.Common.{ℕ, List, [], length, ap, ◌∙◌}
use Rattle.std.proofs.lemmas.List.{length-map}
use Rattle.mps_model.specs.Meaning.{row_number_beside}
use Rattle.mps_model.proofs.beside.numbers_beside.Goals as goal

pub set_numbers-requires : goal.set_numbers-requires
set_numbers-requires c = ap length (c.as_mut_slice.ensures.value ∙ c.in-Ok.ensures) ∙ length-map c.as_slice.result.now (λ (name : List ℕ). row_number_beside name []) ∙ ap length c.as_slice.ensures
