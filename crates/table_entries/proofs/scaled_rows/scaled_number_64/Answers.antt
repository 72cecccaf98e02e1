use Rattle.std.proofs.Common.{◌≡◌, ◌∙◌, sym, ap, arith, [], ◌∷◌, ℤ, ◌*ℤ◌, to_z, of_z, w64}
use Rattle.std.proofs.lemmas.Int.{ints}
use Rattle.frac128.specs.IntegerRing.{ring_ℤ, reads_ℤ}
use Rattle.table_entries.proofs.ReadLemmas.{short_read, short_again}
use Rattle.table_entries.proofs.scaled_rows.scaled_number_64.Goals as goal

turned : (q m d : ℤ) → q *ℤ m *ℤ d ≡ q *ℤ d *ℤ m
turned q m d = ring_ℤ (q ∷ m ∷ d ∷ []) (search reads_ℤ) (search reads_ℤ) tt

pub returns-then-back-total-clause-product : goal.returns-then-back-total-clause-product
returns-then-back-total-clause-product c =
    let a = c.args in
    let w = a.way.now in
    let q = to_z w64 (of_z w64 c.guess_64-quotient.result) in
    let total : c.product_64-total.result ≡ a.entry *ℤ w.scale =
    c.product_64-total.ensures.value ∙ (λ i. short_read a.entry c.requires.entry i *ℤ short_read w.scale c.requires.scale i) in
    let back : c.product_64-back.result ≡ q *ℤ w.divisor = c.product_64-back.ensures.value ∙ (λ i. q *ℤ short_read w.divisor c.requires.divisor i) in
    let made : c.product_64.result ≡ q *ℤ w.multiplier = c.product_64.ensures.value ∙ (λ i. q *ℤ short_read w.multiplier c.requires.multiplier i) in
    let small = c.product_64-back.ensures.small in
    let range = c.product_64-total.ensures.small in
    let same : c.product_64-back.result ≡ c.product_64-total.result = (let e = c.if-back-total.true in omega (arith, ints, e, small, range)) in
    ap (λ x. x *ℤ w.divisor) (short_read c.product_64.result c.product_64.ensures.small ∙ made) ∙ turned q w.multiplier w.divisor ∙ ap (λ x. x *ℤ w.multiplier) (sym back ∙ same ∙ total)

pub returns-then-not-are_32-clause-short : goal.returns-then-not-are_32-clause-short
returns-then-not-are_32-clause-short c = tt

pub returns-then-not-are_32-clause-product : goal.returns-then-not-are_32-clause-product
returns-then-not-are_32-clause-product c = tt

pub returns-then-not-are_32-2-clause-short : goal.returns-then-not-are_32-2-clause-short
returns-then-not-are_32-2-clause-short c = tt

pub returns-then-not-are_32-2-clause-product : goal.returns-then-not-are_32-2-clause-product
returns-then-not-are_32-2-clause-product c = tt

pub returns-then-not-has_32_bits-clause-short : goal.returns-then-not-has_32_bits-clause-short
returns-then-not-has_32_bits-clause-short c = tt

pub returns-then-not-has_32_bits-clause-product : goal.returns-then-not-has_32_bits-clause-product
returns-then-not-has_32_bits-clause-product c = tt

pub returns-else-back-total-clause-short : goal.returns-else-back-total-clause-short
returns-else-back-total-clause-short c = tt

pub returns-else-back-total-clause-product : goal.returns-else-back-total-clause-product
returns-else-back-total-clause-product c = tt

pub product_64-total-requires-clause-first : goal.product_64-total-requires-clause-first
product_64-total-requires-clause-first c = c.are_32-2.ensures.second c.if-not-are_32-2.false

pub product_64-total-requires-clause-second : goal.product_64-total-requires-clause-second
product_64-total-requires-clause-second c = c.are_32-2.ensures.first c.if-not-are_32-2.false

pub product_64-back-requires-clause-first : goal.product_64-back-requires-clause-first
product_64-back-requires-clause-first c = c.has_32_bits.ensures c.if-not-has_32_bits.false

pub product_64-back-requires-clause-second : goal.product_64-back-requires-clause-second
product_64-back-requires-clause-second c = c.are_32.ensures.first c.if-not-are_32.false

pub product_64-requires-clause-first : goal.product_64-requires-clause-first
product_64-requires-clause-first c = c.has_32_bits.ensures c.if-not-has_32_bits.false

pub product_64-requires-clause-second : goal.product_64-requires-clause-second
product_64-requires-clause-second c = c.are_32.ensures.second c.if-not-are_32.false

pub returns-then-back-total-clause-short : goal.returns-then-back-total-clause-short
returns-then-back-total-clause-short c = short_again c.product_64.result c.product_64.ensures.small
