use Rattle.std.proofs.Common.{refl, ◌*ℤ◌}
use Rattle.std.proofs.lemmas.Int.{to_z-of_z}
use Rattle.frac128.proofs.ReadLemmas.{narrow_fits}
use Rattle.frac128.proofs.arithmetic.narrow_product.Goals as goal

pub overflow_mul-result : goal.overflow_mul-result
overflow_mul-result c =
    let first_range = c.ranges.first in
    let second_range = c.ranges.second in
    let fits = narrow_fits (c.args.first *ℤ c.args.second) c.requires in
    simp to_z-of_z fits

pub returns : goal.returns
returns c =
    let first_range = c.ranges.first in
    let second_range = c.ranges.second in
    let fits = narrow_fits (c.args.first *ℤ c.args.second) c.requires in
    simp to_z-of_z refl
