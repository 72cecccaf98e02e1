use Rattle.std.proofs.Common.{◌≡◌, ◌∙◌, sym, ap, arith, [], ◌∷◌, ℤ, pos, ◌-ℤ◌, ◌*ℤ◌, to_z, of_z, w64}
use Rattle.std.proofs.lemmas.Int.{ints}
use Rattle.frac128.specs.IntegerRing.{ring_ℤ, reads_ℤ}
use Rattle.table_entries.specs.private.Ways.{Has32Bits}
use Rattle.table_entries.proofs.ReadLemmas.{short_read}
use Rattle.table_entries.proofs.WayLemmas.{again_32, read_32}
use Rattle.table_entries.proofs.wholes.number_64.Goals as goal

by_one : (t : ℤ) → t ≡ t *ℤ pos 1
by_one t = ring_ℤ (t ∷ []) (search reads_ℤ) (search reads_ℤ) tt

pub total_64-total-requires-clause-factor : goal.total_64-total-requires-clause-factor
total_64-total-requires-clause-factor c = (c.is_way_32.ensures c.if-not-is_way_32.false).factor_32

pub total_64-total-requires-clause-scale : goal.total_64-total-requires-clause-scale
total_64-total-requires-clause-scale c = (c.is_way_32.ensures c.if-not-is_way_32.false).scale_32

pub total_64-total-requires-clause-in_row : goal.total_64-total-requires-clause-in_row
total_64-total-requires-clause-in_row c = c.are_32.ensures.first c.if-not-are_32.false

pub total_64-total-requires-clause-entry : goal.total_64-total-requires-clause-entry
total_64-total-requires-clause-entry c = c.are_32.ensures.second c.if-not-are_32.false

pub product_64-back-requires-clause-first : goal.product_64-back-requires-clause-first
product_64-back-requires-clause-first c = c.has_32_bits.ensures c.if-not-has_32_bits.false

pub product_64-back-requires-clause-second : goal.product_64-back-requires-clause-second
product_64-back-requires-clause-second c = again_32 c.args.way.now.divisor (c.is_way_32.ensures c.if-not-is_way_32.false).divisor_32

pub returns-then-back-total-clause-short : goal.returns-then-back-total-clause-short
returns-then-back-total-clause-short c = let h = c.has_32_bits.ensures c.if-not-has_32_bits.false in omega (arith, h)

pub returns-then-back-total-clause-product : goal.returns-then-back-total-clause-product
returns-then-back-total-clause-product c =
    let a = c.args in
    let w = a.way.now in
    let is = c.is_way_32.ensures c.if-not-is_way_32.false in
    let q = to_z w64 (of_z w64 c.guess_64-quotient.result) in
    let q_32 : Has32Bits q = c.has_32_bits.ensures c.if-not-has_32_bits.false in
    let back : c.product_64-back.result ≡ q *ℤ w.divisor = c.product_64-back.ensures.value ∙ (λ i. q *ℤ read_32 w.divisor is.divisor_32 i) in
    let small = c.product_64-back.ensures.small in
    let total : c.total_64-total.result ≡ a.entry *ℤ w.scale -ℤ w.factor *ℤ a.in_row =
    c.total_64-total.ensures.value ∙ (λ i. short_read a.entry c.requires.entry i *ℤ w.scale -ℤ w.factor *ℤ short_read a.in_row c.requires.in_row i) in
    let same : c.product_64-back.result ≡ c.total_64-total.result = (let e = c.if-back-total.true in let range = c.total_64-total.ensures.small in omega (arith, ints, e, small, range)) in
    sym back ∙ same ∙ total ∙ by_one (a.entry *ℤ w.scale -ℤ w.factor *ℤ a.in_row) ∙ ap (λ x. (a.entry *ℤ w.scale -ℤ w.factor *ℤ a.in_row) *ℤ x) (sym is.multiplier_one)
