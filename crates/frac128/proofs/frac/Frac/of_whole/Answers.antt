use Rattle.std.proofs.Common.{arith, sym, unsigned_abs}
use Rattle.std.proofs.lemmas.Int.{to_z-of_z, ints}
use Rattle.frac128.specs.Gcd.{gcd-one}
use Rattle.frac128.specs.RationalRing.{int_is}
use Rattle.frac128.proofs.frac.Frac.of_whole.Goals as goal

pub invariant_of-result : goal.invariant_of-result
invariant_of-result c =
    let number_fits = c.ranges.number in
    let narrow = c.requires in
    simp to_z-of_z (record { positive = omega (arith, ints); numerator_narrow = narrow; denominator_narrow = omega arith; coprime = gcd-one (unsigned_abs c.args.number) })

pub returns : goal.returns
returns c =
    let number_fits = c.ranges.number in
    simp to_z-of_z (sym (int_is c.args.number))
