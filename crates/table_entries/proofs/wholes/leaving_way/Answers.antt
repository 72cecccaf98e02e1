use Rattle.std.proofs.Common.{◌≡◌, ◌<ℤ◌, ◌∙◌, sym, ap, subst, subst₂, arith, pos, true, to_z, of_z, w64}
use Rattle.std.proofs.lemmas.Int.{ints}
use Rattle.table_entries.specs.WholeSteps.{by_sign, magnitude}
use Rattle.table_entries.specs.private.Ways.{IsRatio, IsWay}
use Rattle.table_entries.proofs.ReadLemmas.{short_read, short_again, short_as, short_as_again}
use Rattle.table_entries.proofs.WholeLemmas.{by_sign-short, magnitude_positive}
use Rattle.table_entries.proofs.WayLemmas.{leaving_is, leaving_same}
use Rattle.table_entries.proofs.wholes.leaving_way.Goals as goal

pub abs-magnitude-requires : goal.abs-magnitude-requires
abs-magnitude-requires c = let h = c.requires.pivot in omega (arith, ints, h)

pub lowest-requires-clause-number : goal.lowest-requires-clause-number
lowest-requires-clause-number c = short_again c.args.after c.requires.after

pub lowest-requires-clause-denominator : goal.lowest-requires-clause-denominator
lowest-requires-clause-denominator c = short_as_again c.abs-magnitude.result (magnitude c.args.pivot) (c.abs-magnitude.ensures.value ∙ ap magnitude (short_read c.args.pivot c.requires.pivot)) c.requires.pivot

pub lowest-requires-clause-positive : goal.lowest-requires-clause-positive
lowest-requires-clause-positive c =
    let p = c.args.pivot in
    let e : c.abs-magnitude.result ≡ magnitude p = c.abs-magnitude.ensures.value ∙ ap magnitude (short_read p c.requires.pivot) in
    subst (λ n. pos 0 <ℤ n) (sym (short_as c.abs-magnitude.result (magnitude p) e c.requires.pivot)) (magnitude_positive p c.requires.some)

pub returns : goal.returns
returns c =
    let a = c.args in
    let p = a.pivot in
    let e : c.abs-magnitude.result ≡ magnitude p = c.abs-magnitude.ensures.value ∙ ap magnitude (short_read p c.requires.pivot) in
    let found = c.in-Some.found in
    let ratio : IsRatio a.after (magnitude p) found.top found.bottom =
    subst₂ (λ n d. IsRatio n d found.top found.bottom) (short_read a.after c.requires.after) (short_as c.abs-magnitude.result (magnitude p) e c.requires.pivot) c.in-Some.ensures in
    let sign_is : c.by_sign-factor.result ≡ by_sign p (pos 1) = c.by_sign-factor.ensures ∙ (let q : to_z w64 (of_z w64 p) ≡ p = short_read p c.requires.pivot in ap (λ x. by_sign x (pos 1)) q) in
    let factor_is = short_as c.by_sign-factor.result (by_sign p (pos 1)) sign_is (by_sign-short p (pos 1) (omega arith)) in
    subst (λ X. X) (λ i. IsWay true a.denominator a.after p a.in_place (sym factor_is i) (pos 0) (sym (short_read found.bottom ratio.bottom_short) i) (sym (short_read found.top ratio.top_short) i))
    (leaving_is a.denominator a.after p a.in_place found.top found.bottom ratio)

pub returns-then-after-magnitude : goal.returns-then-after-magnitude
returns-then-after-magnitude c =
    let a = c.args in
    let p = a.pivot in
    let e : c.abs-magnitude.result ≡ magnitude p = c.abs-magnitude.ensures.value ∙ ap magnitude (short_read p c.requires.pivot) in
    let sign_is : c.by_sign-factor.result ≡ by_sign p (pos 1) = c.by_sign-factor.ensures ∙ (let q : to_z w64 (of_z w64 p) ≡ p = short_read p c.requires.pivot in ap (λ x. by_sign x (pos 1)) q) in
    let factor_is = short_as c.by_sign-factor.result (by_sign p (pos 1)) sign_is (by_sign-short p (pos 1) (omega arith)) in
    let same : a.after ≡ magnitude p = sym (short_read a.after c.requires.after) ∙ ap (to_z w64) c.if-after-magnitude.true ∙ short_as c.abs-magnitude.result (magnitude p) e c.requires.pivot in
    subst (λ X. X) (λ i. IsWay true a.denominator (sym same i) p a.in_place (sym factor_is i) (pos 0) (pos 1) (pos 1)) (leaving_same a.denominator p a.in_place)
