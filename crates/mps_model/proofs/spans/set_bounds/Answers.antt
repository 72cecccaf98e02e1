use Rattle.std.proofs.Common.{◌≡◌, ◌<◌, ◌+◌, ◌≤◌, ◌++◌, ◌∷◌, [], List, map, length, take, ap, sym, ◌∙◌, arith}
use Rattle.std.proofs.lemmas.List.{take_more, take_all}
use Rattle.mps_sections.specs.declared.statements.BoundLine.{BoundLine}
use Rattle.mps_model.specs.Meaning.{span_of}
use Rattle.mps_model.proofs.spans.set_bounds.Goals as goal

pub loop-bound-preserved : goal.loop-bound-preserved
loop-bound-preserved c =
    let bounds = c.args.bounds.now in
    let i = c.loop-bound.bound-index in
    let bound = c.bound-item.result in
    let small : i < length bounds = omega arith in
    let one : take (i + 1) bounds ≡ take i bounds ++ bound ∷ [] = take_more bounds i bound small ∙ ap (λ b. take i bounds ++ b ∷ []) (sym c.bound-item.is) in
    record {
      long = c.set_bound.ensures.length ∙ c.loop-bound.invariant.long;
      steps = λ columns n e. c.set_bound.ensures.steps (take i bounds) columns n (c.loop-bound.invariant.steps columns n e) ∙ ap (λ (found : List BoundLine). map (span_of found) columns) (sym one);
    }

pub returns : goal.returns
returns c =
    let bounds = c.args.bounds.now in
    let end : length bounds ≤ c.loop-bound.bound-index = omega arith in
    λ columns n e. c.loop-bound.invariant.steps columns n e ∙ ap (λ (found : List BoundLine). map (span_of found) columns) (take_all c.loop-bound.bound-index bounds end)
