-- A model without cuts breaks none.
use Rattle.lp_model.specs.Program.{Program}
use Rattle.lp_model.specs.Formulations.{without_cuts, IsValid}

pub valid-without_cuts : (M : Program) → IsValid (without_cuts M)
valid-without_cuts M = record { terms = tt; met = λ x feasible. tt }
