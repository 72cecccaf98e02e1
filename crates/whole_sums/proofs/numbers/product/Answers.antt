use Rattle.std.proofs.Common.{FitsSigned, arith}
use Rattle.std.specs.Prelude.{◌*ℤ◌}
use Rattle.std.specs.Int.{w128}
use Rattle.std.proofs.lemmas.Int.{to_z-of_z, ints}
use Rattle.whole_sums.proofs.RoomLemmas.{short_product}
use Rattle.whole_sums.proofs.ReadLemmas.{wide_made}
use Rattle.whole_sums.proofs.numbers.product.Goals as goal

pub overflow_mul-result : goal.overflow_mul-result
overflow_mul-result c =
    let first_range = c.ranges.first in
    let second_range = c.ranges.second in
    let size = short_product c.args.first c.args.second c.requires.first c.requires.second in
    let first_is = simp to_z-of_z at c.from.ensures in
    let second_is = simp to_z-of_z at c.from-2.ensures in
    let first_wide : FitsSigned w128 c.args.first = omega (arith, ints) in
    let second_wide : FitsSigned w128 c.args.second = omega (arith, ints) in
    let product_fits : FitsSigned w128 (c.args.first *ℤ c.args.second) = omega (arith, ints) in
    rw (first_is, second_is) (simp to_z-of_z product_fits)

pub returns : goal.returns
returns c = wide_made c.args.first c.args.second c.from.result c.from-2.result c.requires.first c.requires.second c.from.ensures c.from-2.ensures
