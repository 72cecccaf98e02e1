use Rattle.std.proofs.Common.{sym, subst, ◌∙◌, ◌≡◌, ◌<ℤ◌, pos, to_z, of_z, w64}
use Rattle.table_entries.proofs.ReadLemmas.{short_read}
use Rattle.frac128.specs.Rational.{int}
use Rattle.frac128.specs.LowestTerms.{quotient_of}
use Rattle.table_entries.specs.States.{MayEnter}
use Rattle.std.specs.Prelude.{◌↔◌}
use Rattle.table_entries.specs.WholeSteps.{IsShort}
use Rattle.dual_simplex.proofs.SignedEntry.{enters_alike}
use Rattle.dual_simplex.proofs.entering.signed_entry.Goals as goal

pub returns-in-Some : goal.returns-in-Some
returns-in-Some c = λ side stand.
    let d = c.denominator.result in
    let d_is : to_z w64 (of_z w64 d) ≡ d = short_read d c.denominator.ensures.short in
    let positive : pos 0 <ℤ to_z w64 (of_z w64 d) = subst (λ y. pos 0 <ℤ y) (sym d_is) c.denominator.ensures.positive in
    let number = c.in-Some.number in
    let short : IsShort number = c.in-Some.ensures.short in
    let n_is : to_z w64 (of_z w64 number) ≡ number = short_read number short in
    subst (λ x. MayEnter side stand c.whole.result ↔ MayEnter side stand x) (sym c.in-Some.ensures.value)
    (subst (λ x. MayEnter side stand x ↔ MayEnter side stand (quotient_of number (to_z w64 (of_z w64 d)))) (sym (c.whole.ensures ∙ (λ i. int (n_is i)))) (enters_alike number _ positive side stand))

pub returns-in-None : goal.returns-in-None
returns-in-None c = λ side stand.
    subst (λ x. MayEnter side stand c.entry.result ↔ MayEnter side stand x) c.entry.ensures ((λ may. may), (λ may. may))
