use Rattle.std.proofs.Common.{◌≡◌, IfSome, arith, to_z, of_z, w64}
use mathlib.Core.Path.{subst₂}
use Rattle.std.proofs.lemmas.Int.{ints}
use Rattle.frac128.specs.LowestTerms.{quotient_of}
use Rattle.row_tableau.proofs.LayoutLemmas.{slots_written, slots_long, row_there, place_there, entry_is}
use Rattle.row_tableau.proofs.tableau.Tableau.number_over.Goals as goal

pub number_over-requires-clause-row : goal.number_over-requires-clause-row
number_over-requires-clause-row c = row_there c.self.invariant c.deref.ensures.value c.self.view_is c.args.row c.requires.row

pub number_over-requires-clause-place : goal.number_over-requires-clause-place
number_over-requires-clause-place c = place_there c.self.invariant c.deref.ensures.value c.self.view_is c.args.place c.requires.place

pub number_over-requires-clause-slots : goal.number_over-requires-clause-slots
number_over-requires-clause-slots c = slots_written c.self.invariant c.deref.ensures.value

pub number_over-requires-clause-length : goal.number_over-requires-clause-length
number_over-requires-clause-length c = slots_long c.self.invariant c.deref.ensures.value

pub returns-clause-value : goal.returns-clause-value
returns-clause-value c =
    let d_is : to_z w64 (of_z w64 c.args.denominator) ≡ c.args.denominator = let range = c.ranges.denominator in omega (arith, ints, range) in
    let entry = entry_is c.self.invariant c.deref.ensures.value c.self.view_is c.args.row c.args.place in
    subst₂ (λ x d. IfSome c.number_over.result (λ n. x ≡ quotient_of n d)) entry d_is c.number_over.ensures.value
