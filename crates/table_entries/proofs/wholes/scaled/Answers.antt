use Rattle.std.proofs.Common.{◌≡◌, ◌∙◌, sym, ap, arith, [], ◌∷◌, ℤ, pos, ◌*ℤ◌, to_z, of_z}
use Rattle.std.specs.Int.{w128}
use Rattle.std.proofs.lemmas.Int.{ints}
use Rattle.std.proofs.lemmas.Option.{IfSome_then}
use Rattle.frac128.specs.IntegerRing.{ring_ℤ, reads_ℤ}
use Rattle.whole_sums.proofs.RoomLemmas.{short_product}
use Rattle.table_entries.proofs.ReadLemmas.{short_read, short_again, product_read}
use Rattle.table_entries.proofs.wholes.scaled.Goals as goal

times : (q v u t : ℤ) → q *ℤ v ≡ t → q *ℤ u *ℤ v ≡ t *ℤ u
times q v u t h = turned q u v ∙ ap (λ x. x *ℤ u) h
  where
    turned : (a b c : ℤ) → a *ℤ b *ℤ c ≡ a *ℤ c *ℤ b
    turned a b c = ring_ℤ (a ∷ b ∷ c ∷ []) (search reads_ℤ) (search reads_ℤ) tt

by_one : (t : ℤ) → t ≡ t *ℤ pos 1
by_one t = ring_ℤ (t ∷ []) (search reads_ℤ) (search reads_ℤ) tt

pub exact_quotient-requires : goal.exact_quotient-requires
exact_quotient-requires c = record { divisor = short_again c.args.way.now.divisor c.requires.divisor }

pub product-requires-clause-first : goal.product-requires-clause-first
product-requires-clause-first c = short_again c.in-Some.quotient c.in-Some.ensures.short

pub product-requires-clause-second : goal.product-requires-clause-second
product-requires-clause-second c = short_again c.args.way.now.multiplier c.requires.multiplier

pub returns-then-way-eq1-clause-short : goal.returns-then-way-eq1-clause-short
returns-then-way-eq1-clause-short c = short_again c.in-Some.quotient c.in-Some.ensures.short

pub returns-then-way-eq1-clause-product : goal.returns-then-way-eq1-clause-product
returns-then-way-eq1-clause-product c =
    let w = c.args.way.now in
    let q = c.in-Some.quotient in
    let total_is : to_z w128 (of_z w128 c.args.total) ≡ c.args.total = omega (arith, ints) in
    let exact : q *ℤ w.divisor ≡ c.args.total = ap (λ x. q *ℤ x) (sym (short_read w.divisor c.requires.divisor)) ∙ c.in-Some.ensures.product ∙ total_is in
    let one : w.multiplier ≡ pos 1 = (let e = c.if-way-eq1.true in omega (arith, ints, e)) in
    ap (λ x. x *ℤ w.divisor) (short_read q c.in-Some.ensures.short) ∙ exact ∙ by_one c.args.total ∙ ap (λ x. c.args.total *ℤ x) (sym one)

pub returns-clause-product : goal.returns-clause-product
returns-clause-product c =
    let w = c.args.way.now in
    let q = c.in-Some.quotient in
    let q_short = c.in-Some.ensures.short in
    let total_is : to_z w128 (of_z w128 c.args.total) ≡ c.args.total = omega (arith, ints) in
    let exact : q *ℤ w.divisor ≡ c.args.total = ap (λ x. q *ℤ x) (sym (short_read w.divisor c.requires.divisor)) ∙ c.in-Some.ensures.product ∙ total_is in
    let made : c.product.result ≡ q *ℤ w.multiplier = c.product.ensures ∙ (λ i. short_read q q_short i *ℤ short_read w.multiplier c.requires.multiplier i) in
    let small = short_product q w.multiplier q_short c.requires.multiplier in
    let read : to_z w128 (of_z w128 c.product.result) ≡ q *ℤ w.multiplier = ap (λ x. to_z w128 (of_z w128 x)) made ∙ product_read (q *ℤ w.multiplier) (omega (arith, small)) in
    IfSome_then c.short_number.result c.short_number.ensures.value (λ n h. ap (λ x. x *ℤ w.divisor) (h ∙ read) ∙ times q w.divisor w.multiplier c.args.total exact)
