use Rattle.std.proofs.Common.{◌≡◌, suc, ◌+◌, Bool, drop, sym, ap, ◌∙◌, arith, if◌then◌else◌}
use Rattle.tight_regions.specs.Tight.{no_change}
use Rattle.tight_regions.specs.private.Tight.{rival_place}
use Rattle.tight_regions.proofs.TightLemmas.{place_on}
use Rattle.tight_regions.proofs.trail.place_of.Goals as goal

pub loop-place-preserved : goal.loop-place-preserved
loop-place-preserved c =
    let region = c.args.region.now in
    let change = c.args.change.now in
    let k = c.loop-place.place in
    let before = c.loop-place.invariant in
    let up : suc k ≡ k + 1 = omega arith in
    let next : rival_place (drop k region) change ≡ suc (rival_place (drop (k + 1) region) change) =
    place_on region change k no_change c.loop-place-test.true
    ∙ ap (λ (b : Bool). if b then 0 else suc (rival_place (drop (suc k) region) change)) (sym c.are_rivals.ensures ∙ c.if-are_rivals.false)
    ∙ ap (λ n. suc (rival_place (drop n region) change)) up in
    omega (arith, before, next)

pub returns-then-are_rivals-clause-place : goal.returns-then-are_rivals-clause-place
returns-then-are_rivals-clause-place c =
    let region = c.args.region.now in
    let change = c.args.change.now in
    let k = c.loop-place.place in
    let before = c.loop-place.invariant in
    let here : rival_place (drop k region) change ≡ 0 =
    place_on region change k no_change c.loop-place-test.true ∙ ap (λ (b : Bool). if b then 0 else suc (rival_place (drop (suc k) region) change)) (sym c.are_rivals.ensures ∙ c.if-are_rivals.true) in
    omega (arith, before, here)
