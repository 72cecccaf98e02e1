use Rattle.std.proofs.Common.{◌≡◌, ◌∙◌, sym, ap, subst, arith, pos, ◌-ℤ◌, to_z, of_z, w64}
use Rattle.std.proofs.lemmas.Int.{ints}
use Rattle.frac128.specs.Rational.{int}
use Rattle.whole_sums.specs.Wholes.{IsShort}
use Rattle.whole_sums.proofs.ReadLemmas.{short_read, negative_short}
use Rattle.whole_sums.proofs.SumLemmas.{taken_over, none_taken}
use Rattle.leaf_dual.proofs.whole_leaf.taken_term.Goals as goal

pub returns-then-weight-eq0 : goal.returns-then-weight-eq0
returns-then-weight-eq0 c = λ d p. none_taken c.args.coefficient.now c.args.weight d p (let e = c.if-weight-eq0.true in omega (arith, ints, e))

pub returns : goal.returns
returns c = λ d p.
    let w = c.args.weight in
    let w_short : IsShort w = c.requires in
    let number = c.in-Some.number in
    let n_short : IsShort number = c.in-Some.ensures.short in
    let n_is : to_z w64 (of_z w64 number) ≡ number = short_read number n_short in
    let w_is : to_z w64 (of_z w64 w) ≡ w = short_read w w_short in
    let f_is : to_z w64 (of_z w64 (pos 0 -ℤ to_z w64 (of_z w64 w))) ≡ pos 0 -ℤ w =
    ap (λ t. to_z w64 (of_z w64 (pos 0 -ℤ t))) w_is ∙ short_read (pos 0 -ℤ w) (negative_short w w_short) in
    let turned : IsShort (pos 0 -ℤ w) = negative_short w w_short in
    taken_over c.args.coefficient.now w (to_z w64 (of_z w64 (pos 0 -ℤ to_z w64 (of_z w64 w)))) (to_z w64 (of_z w64 number)) d p (subst IsShort (sym f_is) turned) (subst IsShort (sym n_is) n_short) f_is
    (c.in-Some.ensures.value ∙ ap int (sym n_is))
