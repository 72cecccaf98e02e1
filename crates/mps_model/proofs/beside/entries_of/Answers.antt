use Rattle.std.proofs.Common.{◌≡◌, ◌<◌, ◌+◌, ◌++◌, ◌∷◌, [], length, take, ap, sym, ◌∙◌, arith}
use Rattle.std.proofs.lemmas.List.{take_more, length-take-le}
use Rattle.lp_model.specs.Edits.{entry_at}
use Rattle.mps_model.specs.Meaning.{row_entries_from}
use Rattle.mps_model.proofs.BesideSteps.{entries_step}
use Rattle.mps_model.proofs.beside.entries_of.Goals as goal

pub loop-place-preserved : goal.loop-place-preserved
loop-place-preserved c =
    let numbers = c.args.numbers.now in
    let place = c.loop-place.place in
    let x = c.index-numbers-place.result in
    let small : place < length numbers = omega (arith, c.loop-place-test.true) in
    let one : take (place + 1) numbers ≡ take place numbers ++ x ∷ [] = take_more numbers place x small ∙ ap (λ y. take place numbers ++ y ∷ []) (sym c.index-numbers-place.is) in
    let long = length-take-le place numbers (omega (arith, small)) in
    c.in-Ok.ensures
    ∙ ap (λ es. es ++ entry_at place x) c.loop-place.invariant
    ∙ sym (entries_step 0 place (take place numbers) x (omega (arith, long)))
    ∙ ap (row_entries_from 0) (sym one)
