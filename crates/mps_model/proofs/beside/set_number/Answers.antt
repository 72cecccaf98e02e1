use Rattle.std.proofs.Common.{refl}
use Rattle.std.specs.Prelude.{Some, None}
use Rattle.mps_model.proofs.PlaceFacts.{found_as}
use Rattle.mps_model.proofs.BesideSteps.{number_set, number_unset}
use Rattle.mps_model.proofs.beside.set_number.Goals as goal

pub returns-in-Some-clause-steps : goal.returns-in-Some-clause-steps
returns-in-Some-clause-steps c =
    let names = c.args.names.now.names in
    let item = c.args.item.now in
    let found = found_as names c.as_slice.result.now item.row (Some c.in-Some.place) (Some c.in-Some.place) c.in-Some.ensures.found c.as_slice.ensures refl in
    λ behind e. number_set item behind names c.in-Some.place c.args.numbers.now c.in-Some.ensures.apart found e

pub returns-in-None-clause-steps : goal.returns-in-None-clause-steps
returns-in-None-clause-steps c =
    let names = c.args.names.now.names in
    let item = c.args.item.now in
    let found = found_as names c.as_slice.result.now item.row None None c.in-None.ensures.found c.as_slice.ensures refl in
    λ behind e. number_unset item behind names c.args.numbers.now found e
