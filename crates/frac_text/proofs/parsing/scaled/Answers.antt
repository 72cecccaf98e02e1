use Rattle.std.proofs.Common.{◌≤◌, arith}
use Rattle.std.proofs.lemmas.Int.{to_z-of_z}
use Rattle.frac_text.proofs.ParseTerms.{ten_to}
use Rattle.frac_text.proofs.parsing.scaled.Goals as goal

pub pow-ten_to-requires : goal.pow-ten_to-requires
pow-ten_to-requires c =
    let power_fits = c.ranges.power in
    let same = simp to_z-of_z at c.unsigned_abs.ensures.value in
    let small : c.unsigned_abs.result ≤ 38 = omega (arith, c.requires.power) in
    let room = ten_to c.unsigned_abs.result small in
    omega (arith, room.1)

pub signed_quotient-requires-clause-denominator : goal.signed_quotient-requires-clause-denominator
signed_quotient-requires-clause-denominator c =
    let power_fits = c.ranges.power in
    let same = simp to_z-of_z at c.unsigned_abs.ensures.value in
    let small : c.unsigned_abs.result ≤ 38 = omega (arith, c.requires.power) in
    let room = ten_to c.unsigned_abs.result small in
    let is = c.pow-ten_to.ensures in
    omega (arith, room.1)

pub signed_quotient-requires-clause-nonzero : goal.signed_quotient-requires-clause-nonzero
signed_quotient-requires-clause-nonzero c =
    let power_fits = c.ranges.power in
    let same = simp to_z-of_z at c.unsigned_abs.ensures.value in
    let small : c.unsigned_abs.result ≤ 38 = omega (arith, c.requires.power) in
    let room = ten_to c.unsigned_abs.result small in
    let is = c.pow-ten_to.ensures in
    λ none. omega (arith, room.0)
