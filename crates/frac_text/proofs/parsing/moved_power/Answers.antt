use Rattle.std.proofs.Common.{FitsSigned, arith, pos, ℕ, ℤ, ◌≤◌, ◌<◌, ◌^◌, ◌+ℤ◌, ◌-ℤ◌, unsigned_abs}
use Rattle.std.specs.Int.{w128}
use Rattle.std.proofs.lemmas.Int.{to_z-of_z, ints}
use Rattle.frac_text.proofs.parsing.moved_power.Goals as goal

exponent_has_room : (e : ℤ) → unsigned_abs e ≤ 2 ^ 100 → FitsSigned w128 e
exponent_has_room e room = omega (arith, ints, room)

count_has_room : (n : ℕ) → n < 2 ^ 64 → FitsSigned w128 (pos n)
count_has_room n range = omega (arith, ints, range)

difference_has_room : (e : ℤ) (p : ℕ) → unsigned_abs e ≤ 2 ^ 100 → p < 2 ^ 64 → FitsSigned w128 (e -ℤ pos p)
difference_has_room e p room range = omega (arith, ints, room, range)

power_has_room : (e : ℤ) (p d : ℕ) → unsigned_abs e ≤ 2 ^ 100 → p < 2 ^ 64 → d < 2 ^ 64 → FitsSigned w128 (e -ℤ pos p +ℤ pos d)
power_has_room e p d room range other = omega (arith, ints, room, range, other)

pub overflow_sub-power : goal.overflow_sub-power
overflow_sub-power c =
    let point_is = c.from.ensures in
    let point_range : c.args.point < 2 ^ 64 = let range = c.ranges.point in omega (arith, ints, range) in
    let exponent_fits = exponent_has_room c.args.exponent c.requires in
    let point_fits = count_has_room c.args.point point_range in
    let difference_fits = difference_has_room c.args.exponent c.args.point c.requires point_range in
    rw point_is (simp to_z-of_z difference_fits)

pub overflow_add-power : goal.overflow_add-power
overflow_add-power c =
    let point_is = c.from.ensures in
    let point_range : c.args.point < 2 ^ 64 = let range = c.ranges.point in omega (arith, ints, range) in
    let dropped_is = c.from-2.ensures in
    let dropped_range : c.args.dropped < 2 ^ 64 = let range = c.ranges.dropped in omega (arith, ints, range) in
    let exponent_fits = exponent_has_room c.args.exponent c.requires in
    let point_fits = count_has_room c.args.point point_range in
    let dropped_fits = count_has_room c.args.dropped dropped_range in
    let difference_fits = difference_has_room c.args.exponent c.args.point c.requires point_range in
    let power_fits = power_has_room c.args.exponent c.args.point c.args.dropped c.requires point_range dropped_range in
    rw (point_is, dropped_is) (simp to_z-of_z power_fits)

pub returns : goal.returns
returns c =
    let point_is = c.from.ensures in
    let point_range : c.args.point < 2 ^ 64 = let range = c.ranges.point in omega (arith, ints, range) in
    let dropped_is = c.from-2.ensures in
    let dropped_range : c.args.dropped < 2 ^ 64 = let range = c.ranges.dropped in omega (arith, ints, range) in
    let exponent_fits = exponent_has_room c.args.exponent c.requires in
    let point_fits = count_has_room c.args.point point_range in
    let dropped_fits = count_has_room c.args.dropped dropped_range in
    let difference_fits = difference_has_room c.args.exponent c.args.point c.requires point_range in
    let power_fits = power_has_room c.args.exponent c.args.point c.args.dropped c.requires point_range dropped_range in
    let told = rw (point_is, dropped_is) at c.short_power.ensures in
    simp to_z-of_z at told
