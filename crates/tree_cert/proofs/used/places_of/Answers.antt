use Rattle.std.proofs.Common.{◌≡◌, ◌+◌, ◌++◌, false, length, get_or, take, sym, ap, ◌∙◌, arith}
use Rattle.std.proofs.lemmas.List.{take_all, take_more, length-take-le}
use Rattle.tree_cert.specs.private.Marked.{place_if, places_of}
use Rattle.tree_cert.proofs.UsedLaws.{places-push}
use Rattle.tree_cert.proofs.used.places_of.Goals as goal

pub loop-place-preserved : goal.loop-place-preserved
loop-place-preserved c =
    let marks = c.args.marks.now in
    let i = c.loop-place.place in
    let b = get_or marks i false in
    let size : length (take i marks) ≡ i = length-take-le i marks (omega (arith, c.loop-place-test.true)) in
    let here : i ≡ 0 + length (take i marks) = omega (arith, size) in
    c.in-Ok.ensures
    ∙ ap (λ l. l ++ place_if b i) c.loop-place.invariant
    ∙ ap (λ p. places_of 0 (take i marks) ++ place_if b p) here
    ∙ sym (places-push 0 (take i marks) b)
    ∙ ap (places_of 0) (sym (take_more marks i false c.loop-place-test.true))

pub returns : goal.returns
returns c = c.loop-place.invariant ∙ ap (places_of 0) (take_all c.loop-place.place c.args.marks.now (omega (arith, c.loop-place-test.false)))
