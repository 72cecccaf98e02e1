use Rattle.std.proofs.Common.{◌≡◌, ◌<◌, ◌∙◌, ap, arith, length, get_or, set}
use Rattle.std.proofs.lemmas.List.{get_or_default}
use Rattle.lp_model.specs.declared.types.BoundChange.{BoundChange}
use Rattle.tight_regions.specs.Tight.{no_change, tighter}
use Rattle.tight_regions.specs.private.Tight.{rival_place}
use Rattle.tight_regions.proofs.TightLemmas.{place_there, place_none}
use Rattle.tight_regions.proofs.given.put.Goals as goal

pub returns-then-place-len : goal.returns-then-place-len
returns-then-place-len c =
    let R = c.args.region.now.items in
    let ch : BoundChange = c.args.change.now in
    let p = c.place_of-place.result in
    let at : p ≡ rival_place R ch = c.place_of-place.ensures.place ∙ ap (λ r. rival_place r ch) c.as_slice.ensures.value in
    let within : p < length R = omega (arith, c.if-place-len.true, c.len.ensures, c.as_slice.ensures.len, ap length c.as_slice.ensures.value) in
    let here : c.index.result.now ≡ get_or R p no_change = c.index.ensures ∙ get_or_default R p c.index.result.now no_change within in
    ap (λ t. set R p t) (c.tighter.ensures ∙ ap (λ d. tighter d ch) here) ∙ ap (λ n. set R n (tighter (get_or R n no_change) ch)) at ∙ place_there R ch no_change (omega (arith, within, at))

pub returns-in-Ok : goal.returns-in-Ok
returns-in-Ok c =
    let R = c.args.region.now.items in
    let ch : BoundChange = c.args.change.now in
    let at : c.place_of-place.result ≡ rival_place R ch = c.place_of-place.ensures.place ∙ ap (λ r. rival_place r ch) c.as_slice.ensures.value in
    c.in-Ok.ensures.items ∙ place_none R ch (omega (arith, at, c.if-place-len.false, c.len.ensures, c.as_slice.ensures.len, ap length c.as_slice.ensures.value))
