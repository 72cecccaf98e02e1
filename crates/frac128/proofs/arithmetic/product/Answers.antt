use Rattle.std.proofs.Common.{refl}
use Rattle.std.proofs.lemmas.Int.{to_z-of_z}
use Rattle.frac128.proofs.ReadLemmas.{word_fits, word_product_fits, word_product_narrow}
use Rattle.frac128.proofs.arithmetic.product.Goals as goal

pub returns-then-is_word-2 : goal.returns-then-is_word-2
returns-then-is_word-2 c =
    let first_range = c.ranges.first in
    let second_range = c.ranges.second in
    let first_small = simp to_z-of_z at (c.if-is_word.ensures.0 refl) in
    let second_small = simp to_z-of_z at (c.if-is_word-2.ensures.0 refl) in
    let first_word = word_fits c.args.first first_small in
    let second_word = word_fits c.args.second second_small in
    let first_is = simp to_z-of_z at c.from.ensures in
    let second_is = simp to_z-of_z at c.from-then-is_word-2.ensures in
    let product_fits = word_product_fits c.args.first c.args.second first_small second_small in
    rw (first_is, second_is) (simp to_z-of_z (word_product_narrow c.args.first c.args.second first_small second_small, refl))

pub overflow_mul-result : goal.overflow_mul-result
overflow_mul-result c =
    let first_range = c.ranges.first in
    let second_range = c.ranges.second in
    let first_small = simp to_z-of_z at (c.if-is_word.ensures.0 refl) in
    let second_small = simp to_z-of_z at (c.if-is_word-2.ensures.0 refl) in
    let first_word = word_fits c.args.first first_small in
    let second_word = word_fits c.args.second second_small in
    let first_is = simp to_z-of_z at c.from.ensures in
    let second_is = simp to_z-of_z at c.from-then-is_word-2.ensures in
    let product_fits = word_product_fits c.args.first c.args.second first_small second_small in
    rw (first_is, second_is) (simp to_z-of_z product_fits)

pub overflow_cast-first : goal.overflow_cast-first
overflow_cast-first c =
    let first_range = c.ranges.first in
    let first_small = simp to_z-of_z at (c.if-is_word.ensures.0 refl) in
    simp to_z-of_z (word_fits c.args.first first_small)

pub overflow_cast-second : goal.overflow_cast-second
overflow_cast-second c =
    let second_range = c.ranges.second in
    let second_small = simp to_z-of_z at (c.if-is_word-2.ensures.0 refl) in
    simp to_z-of_z (word_fits c.args.second second_small)
