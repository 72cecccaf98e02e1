use Rattle.std.proofs.Common.{◌≡◌, ◌∙◌, sym, subst, ◌*ℤ◌, to_z, of_z, w64}
use Rattle.std.specs.Int.{w128}
use Rattle.frac128.specs.Rational.{int}
use Rattle.frac128.specs.LowestTerms.{quotient_of}
use Rattle.checked_sum.specs.Steps.{StepFitsAt, partial}
use Rattle.whole_sums.proofs.ReadLemmas.{short_read, room_read, product_made, product_read}
use Rattle.whole_sums.proofs.SumLemmas.{start_is}
use Rattle.whole_sums.proofs.sums.whole_sum.Goals as goal

pub returns-clause-fits : goal.returns-clause-fits
returns-clause-fits g c = λ k q.
    let t = c.args.terms.now in
    let s = c.args.start in
    let d = c.args.denominator in
    let p = c.product.result in
    let made : p ≡ s *ℤ d = product_made p s d c.requires.start c.requires.denominator c.product.ensures in
    let read : to_z w128 (of_z w128 p) ≡ s *ℤ d = product_read p s d c.requires.start c.requires.denominator made in
    let s_is : quotient_of (to_z w128 (of_z w128 p)) (g.T.WholeTerms.denominator t) ≡ int s = (λ i. quotient_of (read i) (c.requires.over i)) ∙ start_is s d c.requires.positive in
    subst (λ x. StepFitsAt x (g.T.WholeTerms.factor t) (g.T.WholeTerms.number t) k) s_is (c.in-Some.ensures.fits k q)

pub returns-clause-value : goal.returns-clause-value
returns-clause-value g c =
    let t = c.args.terms.now in
    let s = c.args.start in
    let d = c.args.denominator in
    let p = c.product.result in
    let made : p ≡ s *ℤ d = product_made p s d c.requires.start c.requires.denominator c.product.ensures in
    let read : to_z w128 (of_z w128 p) ≡ s *ℤ d = product_read p s d c.requires.start c.requires.denominator made in
    let s_is : quotient_of (to_z w128 (of_z w128 p)) (g.T.WholeTerms.denominator t) ≡ int s = (λ i. quotient_of (read i) (c.requires.over i)) ∙ start_is s d c.requires.positive in
    let total = c.in-Some.total in
    let t_is : to_z w128 (of_z w128 total) ≡ total = room_read total c.in-Some.ensures.room in
    let d_is : to_z w64 (of_z w64 d) ≡ g.T.WholeTerms.denominator t = short_read d c.requires.denominator ∙ sym c.requires.over in
    c.quotient.ensures ∙ (λ i. quotient_of (t_is i) (d_is i)) ∙ c.in-Some.ensures.value
    ∙ (λ i. partial (s_is i) (g.T.WholeTerms.factor t) (g.T.WholeTerms.number t) (g.T.WholeTerms.count t))
