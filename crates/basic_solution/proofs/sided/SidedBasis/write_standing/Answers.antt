use Rattle.std.proofs.Common.{◌≡◌, ◌<◌, ◌+◌, ◌∙◌, sym, ap, subst, arith, length, to_z, of_z, w64}
use mathlib.Core.Path.{subst₂, subst₃}
use Rattle.frac128.specs.Rational.{int}
use Rattle.table_entries.specs.WholeSteps.{IsShort}
use Rattle.table_entries.proofs.ReadLemmas.{short_read, short_again}
use Rattle.basic_solution.specs.Held.{IsSided, state, table, variables}
use Rattle.basic_solution.specs.RowTotals.{IsSmallNumber}
use Rattle.basic_solution.specs.Standing.{AreStandingNumbers, AreStandingTo}
use Rattle.basic_solution.proofs.PointLemmas.{no_standing, own_standing}
use Rattle.basic_solution.proofs.StandingLemmas.{standing_none, standing_push, standing_skip, numbers_none, numbers_push}
use Rattle.basic_solution.proofs.sided.SidedBasis.write_standing.Goals as goal
use Rattle.basic_solution.proofs.sided.SidedBasis.write_standing.Goals.{in-Row, in-Place+then-not-is_zero+else-places-count+else-numbers-count, in-Place+else-not-is_zero}

pub loop-variable-preserved : goal.loop-variable-preserved
loop-variable-preserved c =
    let now = c.args.self.now in
    let sided : IsSided now = subst IsSided c.self.view_is c.self.invariant in
    let v = c.loop-variable.variable in
    let n = c.loop-variable.count in
    let places = c.loop-variable.places in
    let numbers = c.loop-variable.numbers in
    let before : AreStandingTo now v places n = c.loop-variable.invariant.places in
    let beside : AreStandingNumbers now places numbers n = c.loop-variable.invariant.numbers in
    elim c.match-find.branch [
      | in-Place+then-not-is_zero+else-places-count+else-numbers-count w ↦
          let place = w.in-Place.place in
          let within : place < now.tableau.columns = subst (λ s. place < s.tableau.columns) c.self.view_is w.in-Place.ensures.0 in
          let is : (table now).nonbasic place ≡ v = subst (λ s. (table s).nonbasic place ≡ v) c.self.view_is w.in-Place.ensures.1 in
          let number = w.marked_number.result in
          let short : IsShort number = w.marked_number.ensures.short in
          let read : to_z w64 (of_z w64 number) ≡ number = short_read number short in
          let stands : IsSmallNumber (to_z w64 (of_z w64 number)) → (state now).at place ≡ int (to_z w64 (of_z w64 number)) = λ small. sym w.place_number-number.ensures ∙ w.marked_number.ensures.value (subst IsSmallNumber read small) ∙ ap int (sym read) in
          let room : n < length places = let long = w.if-places-count.false in let kept = c.loop-variable.auto.places in omega (arith, long, kept) in
          let numbers_room : n < length numbers = let long = w.if-numbers-count.false in let kept = c.loop-variable.auto.numbers in omega (arith, long, kept) in
          record {
            places = subst₂ (λ p k. AreStandingTo now (v + 1) p k) (sym w.places-is) (sym w.count-is) (standing_push now place n places room v sided before within is);
            numbers = subst₃ (λ p x k. AreStandingNumbers now p x k) (sym w.places-is) (sym w.numbers-is) (sym w.count-is)
                (numbers_push now place n places room numbers (to_z w64 (of_z w64 number)) beside (short_again number short) stands numbers_room);
          }
      | in-Place+else-not-is_zero w ↦
          let place = w.in-Place.place in
          let within : place < now.tableau.columns = subst (λ s. place < s.tableau.columns) c.self.view_is w.in-Place.ensures.0 in
          let is : (table now).nonbasic place ≡ v = subst (λ s. (table s).nonbasic place ≡ v) c.self.view_is w.in-Place.ensures.1 in
          record {
            places = subst₂ (λ p k. AreStandingTo now (v + 1) p k) (sym w.places-is) (sym w.count-is)
                (standing_skip now v n places before (own_standing now sided v place within is ∙ sym w.place_number-number.ensures ∙ w.is_zero.ensures.0 w.if-not-is_zero.false));
            numbers = subst₃ (λ p x k. AreStandingNumbers now p x k) (sym w.places-is) (sym w.numbers-is) (sym w.count-is) beside;
          }
      | in-Row w ↦
          let row = w.in-Row.field-0 in
          let within : row < now.tableau.activities = subst (λ s. row < s.tableau.activities) c.self.view_is w.in-Row.ensures.0 in
          let is : (table now).basic row ≡ v = subst (λ s. (table s).basic row ≡ v) c.self.view_is w.in-Row.ensures.1 in
          record {
            places = subst₂ (λ p k. AreStandingTo now (v + 1) p k) (sym w.places-is) (sym w.count-is) (standing_skip now v n places before (no_standing now sided v row within is));
            numbers = subst₃ (λ p x k. AreStandingNumbers now p x k) (sym w.places-is) (sym w.numbers-is) (sym w.count-is) beside;
          }
    ]

pub loop-variable-init : goal.loop-variable-init
loop-variable-init c = record { places = standing_none c.args.self.now c.args.places.now; numbers = numbers_none c.args.self.now c.args.places.now c.args.numbers.now }

pub returns : goal.returns
returns c =
    let now = c.args.self.now in
    let past = c.loop-variable-test.false in
    let within = c.loop-variable.auto.variable-end in
    let end = c.variables-variable-end.ensures in
    let all : c.loop-variable.variable ≡ variables now = omega (arith, past, within, end) in
    record { listed = subst (λ v. AreStandingTo now v c.loop-variable.places c.loop-variable.count) all c.loop-variable.invariant.places; numbered = c.loop-variable.invariant.numbers }
