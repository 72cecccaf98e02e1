use Rattle.std.proofs.Common.{◌≡◌, ◌∙◌, ◌<◌, refl, sym, subst, arith, length, pos, to_z, of_z, w64}
use Rattle.std.proofs.lemmas.List.{get_or-set_same, get_or-set_other}
use Rattle.std.proofs.lemmas.Bool.{false≢true}
use Rattle.frac128.specs.Rational.{neg_ℚ}
use Rattle.frac128.specs.LowestTerms.{quotient_of}
use Rattle.leaf_dual.specs.private.CostsLeft.{IsProductTaken}
use Rattle.whole_sums.specs.Wholes.{whole_number_at}
use Rattle.whole_sums.proofs.ReadLemmas.{short_read, short_again}
use Rattle.leaf_dual.proofs.costs_left.take_product.Goals as goal

pub returns-in-Some-clause-taken : goal.returns-in-Some-clause-taken
returns-in-Some-clause-taken c = λ t below d is.
    let numbers = c.args.lefts.now in
    let k = c.args.place in
    let x = c.args.coefficient.now in
    let w = c.args.weight in
    let at = whole_number_at numbers k in
    let left = c.in-Some.left in
    let read : to_z w64 (of_z w64 at) ≡ at = short_read at (c.requires.left below) in
    let w_is : to_z w64 (of_z w64 w) ≡ w = short_read w c.requires.weight in
    let made : IsProductTaken d (neg_ℚ (quotient_of (to_z w64 (of_z w64 w)) d)) x (to_z w64 (of_z w64 at)) left = c.in-Some.ensures d is in
    let within : k < length numbers = let places = c.requires.within in omega (arith, below, places) in
    let written = get_or-set_same numbers k (to_z w64 (of_z w64 left)) (pos 0) within ∙ short_read left made.0 in
    subst (λ P. P) (λ i. IsProductTaken d (neg_ℚ (quotient_of (w_is i) d)) x (read i) (sym written i)) made

pub without_product-requires-clause-weight : goal.without_product-requires-clause-weight
without_product-requires-clause-weight c = short_again c.args.weight c.requires.weight

pub without_product-requires-clause-left : goal.without_product-requires-clause-left
without_product-requires-clause-left c = short_again (whole_number_at c.args.lefts.now c.args.place) (c.requires.left c.if-place-count.false)

pub returns-then-place-count-clause-taken : goal.returns-then-place-count-clause-taken
returns-then-place-count-clause-taken c = λ t below. absurd (let past = c.if-place-count.true in omega (arith, below, past))

pub returns-then-place-count-clause-others : goal.returns-then-place-count-clause-others
returns-then-place-count-clause-others c = λ k other. refl

pub returns-in-None-clause-taken : goal.returns-in-None-clause-taken
returns-in-None-clause-taken c = λ t. absurd (false≢true t)

pub returns-in-None-clause-others : goal.returns-in-None-clause-others
returns-in-None-clause-others c = λ k other. refl

pub returns-in-Some-clause-others : goal.returns-in-Some-clause-others
returns-in-Some-clause-others c = λ k other. get_or-set_other c.args.lefts.now c.args.place k (to_z w64 (of_z w64 c.in-Some.left)) (pos 0) other
