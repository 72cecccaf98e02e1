use Rattle.std.proofs.Common.{◌≡◌, ◌∙◌, sym, ap, subst, arith, pos, false, to_z, w64}
use Rattle.std.proofs.lemmas.Int.{ints}
use Rattle.table_entries.specs.WholeSteps.{by_sign, magnitude}
use Rattle.table_entries.specs.private.Ways.{IsWay}
use Rattle.table_entries.proofs.ReadLemmas.{short_read, short_again, short_as}
use Rattle.table_entries.proofs.WholeLemmas.{by_sign-short}
use Rattle.table_entries.proofs.WayLemmas.{pivot_is, same_is}
use Rattle.table_entries.proofs.wholes.plain_way.Goals as goal

pub abs-magnitude-requires : goal.abs-magnitude-requires
abs-magnitude-requires c = let h = c.requires.pivot in omega (arith, ints, h)

pub by_sign-factor-requires : goal.by_sign-factor-requires
by_sign-factor-requires c = short_again c.args.in_place c.requires.in_place

pub returns-then-after-magnitude : goal.returns-then-after-magnitude
returns-then-after-magnitude c =
    let a = c.args in
    let p = a.pivot in
    let f = a.in_place in
    let e : c.abs-magnitude.result ≡ magnitude p = c.abs-magnitude.ensures.value ∙ ap magnitude (short_read p c.requires.pivot) in
    let scale_is = short_as c.abs-magnitude.result (magnitude p) e c.requires.pivot in
    let sign_is : c.by_sign-factor.result ≡ by_sign p f = c.by_sign-factor.ensures ∙ (λ i. by_sign (short_read p c.requires.pivot i) (short_read f c.requires.in_place i)) in
    let factor_is = short_as c.by_sign-factor.result (by_sign p f) sign_is (by_sign-short p f c.requires.in_place) in
    let same : a.after ≡ magnitude p = sym (short_read a.after c.requires.after) ∙ ap (to_z w64) (c.if-after-magnitude.true) ∙ scale_is in
    subst (λ X. X) (λ i. IsWay false a.denominator (sym same i) p f (sym factor_is i) (sym scale_is i) (sym (short_read a.denominator c.requires.denominator) i) (pos 1))
    (pivot_is a.denominator p f c.requires.positive c.requires.denominator c.requires.pivot c.requires.in_place)

pub returns-then-after-denominator : goal.returns-then-after-denominator
returns-then-after-denominator c =
    let a = c.args in
    let p = a.pivot in
    let f = a.in_place in
    let e : c.abs-magnitude.result ≡ magnitude p = c.abs-magnitude.ensures.value ∙ ap magnitude (short_read p c.requires.pivot) in
    let scale_is = short_as c.abs-magnitude.result (magnitude p) e c.requires.pivot in
    let sign_is : c.by_sign-factor.result ≡ by_sign p f = c.by_sign-factor.ensures ∙ (λ i. by_sign (short_read p c.requires.pivot i) (short_read f c.requires.in_place i)) in
    let factor_is = short_as c.by_sign-factor.result (by_sign p f) sign_is (by_sign-short p f c.requires.in_place) in
    let same : a.after ≡ a.denominator = sym (short_read a.after c.requires.after) ∙ ap (to_z w64) (c.if-after-denominator.true) ∙ short_read a.denominator c.requires.denominator in
    subst (λ X. X) (λ i. IsWay false a.denominator (sym same i) p f (sym factor_is i) (sym scale_is i) (sym scale_is i) (pos 1))
    (same_is a.denominator p f c.requires.some c.requires.pivot c.requires.in_place)
