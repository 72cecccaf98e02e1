use Rattle.std.proofs.Common.{sym, subst, ◌∙◌, ◌≡◌, ◌<◌, ◌*ℤ◌, to_z, of_z, w64}
use Rattle.std.specs.Int.{w128}
use Rattle.whole_sums.specs.Wholes.{HasMargin}
use Rattle.whole_sums.proofs.SumLemmas.{start_is}
use Rattle.basic_solution.specs.Held.{IsSided, table}
use Rattle.basic_solution.specs.RowTotals.{IsSmallNumber}
use Rattle.basic_solution.specs.private.RowTotals.{IsRowTotal}
use Rattle.basic_solution.proofs.PointLemmas.{point_basic, point_nonbasic}
use Rattle.basic_solution.proofs.CutTotalLemmas.{column_total_of}
use Rattle.basic_solution.proofs.ReadLemmas.{small_short_again, start_read}
use Rattle.table_entries.proofs.ReadLemmas.{short_read, short_again, positive_again, product_read}
use Rattle.basic_solution.proofs.sided.SidedBasis.column_total.Goals as goal

pub returns-in-Some : goal.returns-in-Some
returns-in-Some c =
    let now = c.args.self.now in
    let row = c.in-Row.row in
    let column = c.args.column in
    let d = c.args.denominator in
    let d_is : to_z w64 (of_z w64 d) ≡ d = short_read d c.requires.denominator in
    let total = c.in-Some.total in
    let at = subst (λ s. (row < s.tableau.activities) × ((table s).basic row ≡ column)) c.self.view_is c.in-Row.ensures in
    let of : IsRowTotal now row d total = subst (λ e. IsRowTotal now row e total) d_is c.in-Some.ensures in
    let margin : HasMargin total = of.margin in
    let read : to_z w128 (of_z w128 total) ≡ total = product_read total margin in
    column_total_of now column d total _ (of.value ∙ point_basic now (subst IsSided c.self.view_is c.self.invariant) column row at.0 at.1) read
    c.short_number.result c.short_number.ensures.short c.short_number.ensures.value

pub product-requires-clause-first : goal.product-requires-clause-first
product-requires-clause-first c = small_short_again c.in-Some-small_number.number c.in-Some-small_number.ensures.small

pub product-requires-clause-second : goal.product-requires-clause-second
product-requires-clause-second c = short_again c.args.denominator c.requires.denominator

pub returns-in-Some-small_number : goal.returns-in-Some-small_number
returns-in-Some-small_number c =
    let now = c.args.self.now in
    let place = c.in-Place.place in
    let column = c.args.column in
    let d = c.args.denominator in
    let n = c.in-Some-small_number.number in
    let small : IsSmallNumber n = c.in-Some-small_number.ensures.small in
    let read : to_z w128 (of_z w128 c.product.result) ≡ n *ℤ d = start_read c.product.result n d small c.requires.denominator c.product.ensures in
    let at = subst (λ s. (place < s.tableau.columns) × ((table s).nonbasic place ≡ column)) c.self.view_is (c.in-Place.ensures.0, c.in-Place.ensures.1) in
    column_total_of now column d (n *ℤ d) _
    (start_is n d c.requires.positive ∙ sym c.in-Some-small_number.ensures.value ∙ c.place_number.ensures ∙ point_nonbasic now (subst IsSided c.self.view_is c.self.invariant) column place at.0 at.1) read
    c.short_number-in-Place.result c.short_number-in-Place.ensures.short c.short_number-in-Place.ensures.value

pub listed_total-requires-clause-positive : goal.listed_total-requires-clause-positive
listed_total-requires-clause-positive c = positive_again c.args.denominator c.requires.denominator c.requires.positive

pub listed_total-requires-clause-denominator : goal.listed_total-requires-clause-denominator
listed_total-requires-clause-denominator c = short_again c.args.denominator c.requires.denominator
