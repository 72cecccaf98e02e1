use Rattle.std.proofs.Common.{◌≡◌, ◌<◌, ◌+◌, ◌++◌, ◌∷◌, [], length, take, ap, sym, ◌∙◌, arith}
use Rattle.std.proofs.lemmas.List.{take_more, length-take-le}
use Rattle.mps_model.specs.Places.{find}
use Rattle.mps_model.proofs.PlaceFacts.{index_more}
use Rattle.mps_model.proofs.names.index_of.Goals as goal

pub loop-place-preserved : goal.loop-place-preserved
loop-place-preserved c =
    let names = c.args.names.now in
    let place = c.loop-place.place in
    let here = c.index-names-place.result in
    let small : place < length names = omega (arith, c.loop-place-test.true) in
    let one : take (place + 1) names ≡ take place names ++ c.as_slice.result.now ∷ [] = take_more names place here small ∙ ap (λ name. take place names ++ name ∷ []) (sym c.index-names-place.is ∙ sym c.as_slice.ensures) in
    λ q. index_more (take place names) (take (place + 1) names) c.as_slice.result.now q place (find c.loop-place.index q) (find c.insert.new.self q) one (sym (length-take-le place names (omega (arith, small)))) (c.loop-place.invariant q) (c.in-Ok.ensures q)
