use Rattle.std.proofs.Common.{◌≡◌, ◌∙◌, ◌+◌, ◌++◌, ◌∷◌, [], suc, ap, arith}
use Rattle.node_solve.specs.private.Places.{places_from}
use Rattle.node_solve.proofs.LiveLemmas.{places-push}
use Rattle.node_solve.proofs.cuts.own_places.Goals as goal

pub loop-place-preserved : goal.loop-place-preserved
loop-place-preserved c =
    let n = c.loop-place.place in
    let here : n ≡ 0 + n = omega arith in
    let next : suc n ≡ n + 1 = omega arith in
    c.in-Ok-push.ensures.items ∙ (λ i. c.loop-place.invariant i ++ here i ∷ []) ∙ places-push 0 n ∙ ap (places_from 0) next

pub returns : goal.returns
returns c =
    let all : c.loop-place.place ≡ c.args.count = omega (arith, c.loop-place-test.false, c.loop-place.auto.place-end) in
    c.loop-place.invariant ∙ ap (places_from 0) all
