use Rattle.std.proofs.Common.{refl, ◌<◌, length, ap, arith}
use Rattle.std.specs.Prelude.{Some, None}
use Rattle.std.proofs.lemmas.List.{length-map}
use Rattle.mps_sections.specs.declared.statements.ColumnLines.{ColumnLines}
use Rattle.mps_model.proofs.PlaceFacts.{found_as}
use Rattle.mps_model.proofs.SpanSteps.{span_set, span_unset}
use Rattle.mps_model.proofs.spans.set_bound.Goals as goal

pub returns-in-Some-clause-steps : goal.returns-in-Some-clause-steps
returns-in-Some-clause-steps c =
    let names = c.args.names.now.names in
    let bound = c.args.bound.now in
    let place = c.in-Some.place in
    let found = found_as names c.as_slice.result.now bound.column (Some place) (Some place) c.in-Some.ensures.found c.as_slice.ensures refl in
    λ before columns n e.
    let below : place < length columns = omega (arith, ap length n, length-map columns (λ (d : ColumnLines). d.name), found.0) in
    span_set before bound columns names c.args.spans.now place c.index-spans-place.result c.bounded.result n c.in-Some.ensures.apart found below c.index-spans-place.is c.bounded.ensures e

pub returns-in-None-clause-steps : goal.returns-in-None-clause-steps
returns-in-None-clause-steps c =
    let names = c.args.names.now.names in
    let bound = c.args.bound.now in
    let found = found_as names c.as_slice.result.now bound.column None None c.in-None.ensures.found c.as_slice.ensures refl in
    λ before columns n e. span_unset before bound columns names c.args.spans.now n found e
