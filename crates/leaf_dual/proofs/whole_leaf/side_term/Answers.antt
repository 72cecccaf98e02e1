use Rattle.std.proofs.Common.{◌≡◌, ◌∙◌, sym, ap, subst, to_z, of_z, w64}
use Rattle.frac128.specs.Rational.{int}
use Rattle.frac128.specs.LowestTerms.{quotient_of}
use Rattle.leaf_dual.specs.Answers.{side_number}
use Rattle.whole_sums.specs.Wholes.{IsShort}
use Rattle.whole_sums.proofs.ReadLemmas.{short_read}
use Rattle.whole_sums.proofs.SumLemmas.{term_of_factor}
use Rattle.leaf_dual.proofs.whole_leaf.side_term.Goals as goal

pub returns-in-Some-whole_number-clause-value : goal.returns-in-Some-whole_number-clause-value
returns-in-Some-whole_number-clause-value c = λ d p.
    let w = c.args.weight in
    let w_short : IsShort w = c.requires in
    let w_is : to_z w64 (of_z w64 w) ≡ w = short_read w w_short in
    let number = c.in-Some-whole_number.number in
    let n_short : IsShort number = c.in-Some-whole_number.ensures.short in
    let n_is : to_z w64 (of_z w64 number) ≡ number = short_read number n_short in
    term_of_factor (quotient_of w d) (side_number c.args.side.now) (to_z w64 (of_z w64 w)) (to_z w64 (of_z w64 number)) d p (subst IsShort (sym w_is) w_short) (subst IsShort (sym n_is) n_short)
    (ap (λ m. quotient_of m d) (sym w_is)) (ap side_number c.in-Some.is ∙ c.in-Some-whole_number.ensures.value ∙ ap int (sym n_is))
