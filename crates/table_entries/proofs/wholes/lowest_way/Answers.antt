use Rattle.std.proofs.Common.{◌≡◌, ◌<ℤ◌, ◌∙◌, sym, ap, subst, subst₂, arith, pos, false, ◌*ℤ◌, to_z, of_z}
use Rattle.std.specs.Int.{w128}
use Rattle.std.proofs.lemmas.Int.{ints}
use Rattle.table_entries.specs.WholeSteps.{by_sign, magnitude}
use Rattle.table_entries.specs.private.Ways.{IsRatio, IsWay}
use Rattle.table_entries.proofs.ReadLemmas.{short_read, short_again, short_as, short_as_again, positive_again, product_read}
use Rattle.whole_sums.proofs.RoomLemmas.{short_product}
use Rattle.table_entries.proofs.WholeLemmas.{by_sign-short, magnitude_positive}
use Rattle.table_entries.proofs.WayLemmas.{lowest_is}
use Rattle.table_entries.proofs.wholes.lowest_way.Goals as goal

pub abs-requires : goal.abs-requires
abs-requires c = let h = c.requires.pivot in omega (arith, ints, h)

pub lowest-requires-clause-number : goal.lowest-requires-clause-number
lowest-requires-clause-number c = short_again c.args.in_place c.requires.in_place

pub lowest-requires-clause-denominator : goal.lowest-requires-clause-denominator
lowest-requires-clause-denominator c = short_as_again c.abs.result (magnitude c.args.pivot) (c.abs.ensures.value ∙ ap magnitude (short_read c.args.pivot c.requires.pivot)) c.requires.pivot

pub lowest-requires-clause-positive : goal.lowest-requires-clause-positive
lowest-requires-clause-positive c =
    let p = c.args.pivot in
    let e : c.abs.result ≡ magnitude p = c.abs.ensures.value ∙ ap magnitude (short_read p c.requires.pivot) in
    subst (λ n. pos 0 <ℤ n) (sym (short_as c.abs.result (magnitude p) e c.requires.pivot)) (magnitude_positive p c.requires.some)

pub lowest-requires-2-clause-number : goal.lowest-requires-2-clause-number
lowest-requires-2-clause-number c = short_again c.args.after c.requires.after

pub lowest-requires-2-clause-denominator : goal.lowest-requires-2-clause-denominator
lowest-requires-2-clause-denominator c = short_again c.in-Some.taken.bottom c.in-Some.ensures.bottom_short

pub lowest-requires-2-clause-positive : goal.lowest-requires-2-clause-positive
lowest-requires-2-clause-positive c = positive_again c.in-Some.taken.bottom c.in-Some.ensures.bottom_short c.in-Some.ensures.positive

pub lowest-requires-3-clause-number : goal.lowest-requires-3-clause-number
lowest-requires-3-clause-number c = short_again c.in-Some-lowest.first.top c.in-Some-lowest.ensures.top_short

pub lowest-requires-3-clause-denominator : goal.lowest-requires-3-clause-denominator
lowest-requires-3-clause-denominator c = short_again c.args.denominator c.requires.denominator

pub lowest-requires-3-clause-positive : goal.lowest-requires-3-clause-positive
lowest-requires-3-clause-positive c = positive_again c.args.denominator c.requires.denominator c.requires.positive

pub product-requires-clause-first : goal.product-requires-clause-first
product-requires-clause-first c = short_again c.in-Some-lowest.first.bottom c.in-Some-lowest.ensures.bottom_short

pub product-requires-clause-second : goal.product-requires-clause-second
product-requires-clause-second c = short_again c.in-Some-lowest-2.second.bottom c.in-Some-lowest-2.ensures.bottom_short

pub by_sign-requires : goal.by_sign-requires
by_sign-requires c = short_again c.in-Some.taken.top c.in-Some.ensures.top_short

pub returns : goal.returns
returns c =
    let a = c.args in
    let p = a.pivot in
    let e : c.abs.result ≡ magnitude p = c.abs.ensures.value ∙ ap magnitude (short_read p c.requires.pivot) in
    let taken = c.in-Some.taken in
    let first = c.in-Some-lowest.first in
    let second = c.in-Some-lowest-2.second in
    let divisor = c.in-Some-short_number.divisor in
    let h1 : IsRatio a.in_place (magnitude p) taken.top taken.bottom =
    subst₂ (λ n d. IsRatio n d taken.top taken.bottom) (short_read a.in_place c.requires.in_place) (short_as c.abs.result (magnitude p) e c.requires.pivot) c.in-Some.ensures in
    let h2 : IsRatio a.after taken.bottom first.top first.bottom =
    subst₂ (λ n d. IsRatio n d first.top first.bottom) (short_read a.after c.requires.after) (short_read taken.bottom h1.bottom_short) c.in-Some-lowest.ensures in
    let h3 : IsRatio first.top a.denominator second.top second.bottom =
    subst₂ (λ n d. IsRatio n d second.top second.bottom) (short_read first.top h2.top_short) (short_read a.denominator c.requires.denominator) c.in-Some-lowest-2.ensures in
    let made : c.product.result ≡ first.bottom *ℤ second.bottom = c.product.ensures ∙ (λ i. short_read first.bottom h2.bottom_short i *ℤ short_read second.bottom h3.bottom_short i) in
    let small = short_product first.bottom second.bottom h2.bottom_short h3.bottom_short in
    let divisor_is : divisor ≡ first.bottom *ℤ second.bottom = c.in-Some-short_number.ensures.value ∙ ap (λ x. to_z w128 (of_z w128 x)) made ∙ product_read (first.bottom *ℤ second.bottom) (omega (arith, small)) in
    let divisor_short = c.in-Some-short_number.ensures.short in
    let sign_is : c.by_sign.result ≡ by_sign p taken.top = c.by_sign.ensures ∙ (λ i. by_sign (short_read p c.requires.pivot i) (short_read taken.top h1.top_short i)) in
    let factor_is = short_as c.by_sign.result (by_sign p taken.top) sign_is (by_sign-short p taken.top h1.top_short) in
    subst (λ X. X) (λ i. IsWay false a.denominator a.after p a.in_place (sym factor_is i) (sym (short_read taken.bottom h1.bottom_short) i) (sym (short_read divisor divisor_short) i) (sym (short_read second.top h3.top_short) i))
    (lowest_is a.denominator a.after p a.in_place taken.top taken.bottom first.top first.bottom second.top second.bottom divisor h1 h2 h3 divisor_is divisor_short)
