use Rattle.std.proofs.Common.{◌≡◌, ◌∙◌, sym, ap, ◌+ℤ◌, ◌*ℤ◌, to_z, of_z, w64}
use Rattle.std.specs.Int.{w128}
use Rattle.frac128.specs.LowestTerms.{quotient_of}
use Rattle.whole_sums.proofs.ReadLemmas.{short_read, room_read}
use Rattle.kept_totals.proofs.TotalsLemmas.{pair_step}
use Rattle.kept_totals.proofs.total.Total.plus_pair.Goals as goal

pub returns-clause-fits : goal.returns-clause-fits
returns-clause-fits c =
    let w = c.args.pair.now in
    let is = c.requires in
    let number = c.in-Some.number in
    let next = c.in-Some-with_product.next in
    let d_is : to_z w64 (of_z w64 w.denominator) ≡ w.denominator = short_read w.denominator is.denominator.short in
    let f_is : to_z w64 (of_z w64 w.factor) ≡ w.factor = short_read w.factor is.factor in
    let n_is : to_z w64 (of_z w64 w.number) ≡ w.number = short_read w.number is.number in
    let m_is : to_z w128 (of_z w128 number) ≡ number = room_read number c.in-Some.ensures.room in
    let value : quotient_of number w.denominator ≡ c.args.self.now = ap (quotient_of number) (sym d_is) ∙ c.in-Some.ensures.value in
    let next_is : next ≡ number +ℤ w.factor *ℤ w.number = c.in-Some-with_product.ensures.value ∙ (λ i. m_is i +ℤ f_is i *ℤ n_is i) in
    (pair_step c.args.self.now w is number next c.in-Some.ensures.room value next_is c.in-Some-with_product.ensures.room).0

pub returns-clause-value : goal.returns-clause-value
returns-clause-value c =
    let w = c.args.pair.now in
    let is = c.requires in
    let number = c.in-Some.number in
    let next = c.in-Some-with_product.next in
    let d_is : to_z w64 (of_z w64 w.denominator) ≡ w.denominator = short_read w.denominator is.denominator.short in
    let f_is : to_z w64 (of_z w64 w.factor) ≡ w.factor = short_read w.factor is.factor in
    let n_is : to_z w64 (of_z w64 w.number) ≡ w.number = short_read w.number is.number in
    let m_is : to_z w128 (of_z w128 number) ≡ number = room_read number c.in-Some.ensures.room in
    let x_is : to_z w128 (of_z w128 next) ≡ next = room_read next c.in-Some-with_product.ensures.room in
    let value : quotient_of number w.denominator ≡ c.args.self.now = ap (quotient_of number) (sym d_is) ∙ c.in-Some.ensures.value in
    let next_is : next ≡ number +ℤ w.factor *ℤ w.number = c.in-Some-with_product.ensures.value ∙ (λ i. m_is i +ℤ f_is i *ℤ n_is i) in
    c.over.ensures ∙ (λ i. quotient_of (x_is i) (d_is i)) ∙ (pair_step c.args.self.now w is number next c.in-Some.ensures.room value next_is c.in-Some-with_product.ensures.room).1
