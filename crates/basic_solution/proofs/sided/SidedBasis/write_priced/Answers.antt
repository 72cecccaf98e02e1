use Rattle.std.proofs.Common.{◌≡◌, ◌<◌, ◌+◌, ◌∙◌, sym, ap, subst, arith, pos, length, to_z, of_z, w64}
use Rattle.std.proofs.lemmas.Int.{ints}
use mathlib.Core.Path.{subst₃}
use Rattle.frac128.specs.Rational.{int}
use Rattle.row_tableau.specs.Dense.{table_of}
use Rattle.basic_solution.specs.Held.{relaxation, table}
use Rattle.basic_solution.specs.RowTotals.{IsSmallNumber}
use Rattle.basic_solution.specs.Priced.{ArePricedTo, row_cost}
use Rattle.basic_solution.proofs.ReadLemmas.{small_read, small_again}
use Rattle.basic_solution.proofs.PricedLemmas.{priced_none, priced_skip, priced_push}
use Rattle.basic_solution.proofs.sided.SidedBasis.write_priced.Goals as goal
use Rattle.basic_solution.proofs.sided.SidedBasis.write_priced.Goals.{then-number-ne0+else-columns-variable+else-rows-count+else-numbers-count, else-number-ne0}

pub small_of-requires : goal.small_of-requires
small_of-requires c =
    let within = c.basic-variable.ensures.within in
    let size = c.self.invariant.shape.cost_length in
    omega (arith, within, size)

pub loop-row-init : goal.loop-row-init
loop-row-init c = record { priced = priced_none c.args.self.now c.args.rows.now c.args.numbers.now }

pub loop-row-preserved : goal.loop-row-preserved
loop-row-preserved c =
    let now = c.args.self.now in
    let l = c.loop-row in
    let r = l.row in
    let number = c.in-Some.number in
    let small : IsSmallNumber number = c.in-Some.ensures.small in
    let read : to_z w64 (of_z w64 number) ≡ number = small_read number small in
    let variable_is = subst (λ t. c.basic-variable.result ≡ (table_of t).basic r) (ap (λ s. s.tableau) c.self.view_is) c.basic-variable.ensures.value in
    let cost : row_cost now r ≡ int number = sym (ap (relaxation now).cost variable_is) ∙ ap (λ s. (relaxation s).cost c.basic-variable.result) (sym c.self.view_is) ∙ c.in-Some.ensures.value in
    elim c.if-number-ne0.branch [
      | then-number-ne0+else-columns-variable+else-rows-count+else-numbers-count w ↦
          let room : l.count < length l.rows = let long = w.if-rows-count.false in let kept = l.auto.rows in omega (arith, long, kept) in
          let numbers_room : l.count < length l.numbers = let long = w.if-numbers-count.false in let kept = l.auto.numbers in omega (arith, long, kept) in
          let column : (table now).basic r < now.tableau.columns = (let w2 = w.if-columns-variable.false in let e = c.columns-columns.ensures.value in let same = ap (λ s. s.tableau.columns) c.self.view_is in omega (arith, w2, e, same, variable_is)) in
          record {
            priced = subst₃ (λ p x k. ArePricedTo now (r + 1) p x k) (sym w.rows-is) (sym w.numbers-is) (sym w.count-is)
                (priced_push now r l.count l.rows l.numbers (to_z w64 (of_z w64 number)) room numbers_room l.invariant.priced column (small_again number small) (cost ∙ ap int (sym read)));
          }
      | else-number-ne0 w ↦
          let none : number ≡ pos 0 = let e = w.if-number-ne0.false in omega (arith, ints, e, small) in
          record {
            priced = subst₃ (λ p x k. ArePricedTo now (r + 1) p x k) (sym w.rows-is) (sym w.numbers-is) (sym w.count-is)
                (priced_skip now r l.count l.rows l.numbers l.invariant.priced (cost ∙ ap int none));
          }
    ]

pub returns : goal.returns
returns c =
    let now = c.args.self.now in
    let past = c.loop-row-test.false in
    let within = c.loop-row.auto.row-end in
    let end = c.activities-row-end.ensures in
    let activities = ap (λ s. s.tableau.activities) c.self.view_is in
    let all : c.loop-row.row ≡ now.tableau.activities = omega (arith, past, within, end, activities) in
    subst (λ r. ArePricedTo now r c.loop-row.rows c.loop-row.numbers c.loop-row.count) all c.loop-row.invariant.priced
