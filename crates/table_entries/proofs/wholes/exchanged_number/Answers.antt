use Rattle.std.proofs.Common.{◌≡◌, ◌≤◌, ◌^◌, ◌∙◌, sym, ap, subst, arith, ◌-ℤ◌, ◌*ℤ◌, unsigned_abs, to_z, of_z}
use Rattle.std.specs.Int.{w128}
use Rattle.std.proofs.lemmas.Int.{ints}
use Rattle.std.proofs.lemmas.Option.{IfSome_then}
use Rattle.whole_sums.proofs.RoomLemmas.{short_product}
use Rattle.table_entries.specs.private.Ways.{divided}
use Rattle.table_entries.proofs.ReadLemmas.{short_read, short_again, product_read, difference_read}
use Rattle.table_entries.proofs.wholes.exchanged_number.Goals as goal

pub product-requires-clause-first : goal.product-requires-clause-first
product-requires-clause-first c = short_again c.args.way.now.factor c.requires.factor

pub product-requires-clause-second : goal.product-requires-clause-second
product-requires-clause-second c = short_again c.args.denominator c.requires.denominator

pub product-whole-requires-clause-first : goal.product-whole-requires-clause-first
product-whole-requires-clause-first c = short_again c.args.entry c.requires.entry

pub product-whole-requires-clause-second : goal.product-whole-requires-clause-second
product-whole-requires-clause-second c = short_again c.args.way.now.scale c.requires.scale

pub product-taken-requires-clause-first : goal.product-taken-requires-clause-first
product-taken-requires-clause-first c = short_again c.args.way.now.factor c.requires.factor

pub product-taken-requires-clause-second : goal.product-taken-requires-clause-second
product-taken-requires-clause-second c = short_again c.args.in_row c.requires.in_row

pub number_64-requires-clause-in_row : goal.number_64-requires-clause-in_row
number_64-requires-clause-in_row c = short_again c.args.in_row c.requires.in_row

pub number_64-requires-clause-entry : goal.number_64-requires-clause-entry
number_64-requires-clause-entry c = short_again c.args.entry c.requires.entry

pub returns-in-Some-clause-short : goal.returns-in-Some-clause-short
returns-in-Some-clause-short c = short_again c.in-Some.number c.in-Some.ensures.short

pub returns-in-Some-clause-product : goal.returns-in-Some-clause-product
returns-in-Some-clause-product c =
    let a = c.args in
    let w = a.way.now in
    ap (λ x. x *ℤ w.divisor) (short_read c.in-Some.number c.in-Some.ensures.short) ∙ c.in-Some.ensures.product
    ∙ (λ i. (short_read a.entry c.requires.entry i *ℤ w.scale -ℤ w.factor *ℤ short_read a.in_row c.requires.in_row i) *ℤ w.multiplier)
    ∙ ap (λ b. divided b a.denominator w.factor w.scale a.in_row a.entry *ℤ w.multiplier) (sym c.if-is_place.false)

pub overflow_sub-whole : goal.overflow_sub-whole
overflow_sub-whole c =
    let a = c.args in
    let w = a.way.now in
    let e : c.product-whole.result ≡ a.entry *ℤ w.scale = c.product-whole.ensures ∙ (λ i. short_read a.entry c.requires.entry i *ℤ short_read w.scale c.requires.scale i) in
    let f : c.product-taken.result ≡ w.factor *ℤ a.in_row = c.product-taken.ensures ∙ (λ i. short_read w.factor c.requires.factor i *ℤ short_read a.in_row c.requires.in_row i) in
    let small_e : unsigned_abs c.product-whole.result ≤ 2 ^ 124 = subst (λ x. unsigned_abs x ≤ 2 ^ 124) (sym e) (short_product a.entry w.scale c.requires.entry c.requires.scale) in
    let small_f : unsigned_abs c.product-taken.result ≤ 2 ^ 124 = subst (λ x. unsigned_abs x ≤ 2 ^ 124) (sym f) (short_product w.factor a.in_row c.requires.factor c.requires.in_row) in
    omega (arith, ints, small_e, small_f)

pub returns-then-is_place-clause-product : goal.returns-then-is_place-clause-product
returns-then-is_place-clause-product c =
    let a = c.args in
    let w = a.way.now in
    let made : c.product.result ≡ w.factor *ℤ a.denominator = c.product.ensures ∙ (λ i. short_read w.factor c.requires.factor i *ℤ short_read a.denominator c.requires.denominator i) in
    let small = short_product w.factor a.denominator c.requires.factor c.requires.denominator in
    let read : to_z w128 (of_z w128 c.product.result) ≡ divided a.is_place a.denominator w.factor w.scale a.in_row a.entry =
    ap (λ x. to_z w128 (of_z w128 x)) made ∙ product_read (w.factor *ℤ a.denominator) (omega (arith, small)) ∙ ap (λ b. divided b a.denominator w.factor w.scale a.in_row a.entry) (sym c.if-is_place.true) in
    IfSome_then c.scaled.result c.scaled.ensures.product (λ n h. h ∙ ap (λ x. x *ℤ w.multiplier) read)

pub returns-then-is_kept-clause-short : goal.returns-then-is_kept-clause-short
returns-then-is_kept-clause-short c = short_again c.args.entry c.requires.entry

pub returns-then-is_kept-clause-product : goal.returns-then-is_kept-clause-product
returns-then-is_kept-clause-product c =
    let a = c.args in
    let w = a.way.now in
    let x_is = short_read a.in_row c.requires.in_row in
    let e_is = short_read a.entry c.requires.entry in
    let kept : a.entry *ℤ w.divisor ≡ (a.entry *ℤ w.scale -ℤ w.factor *ℤ a.in_row) *ℤ w.multiplier =
    subst (λ X. X) (λ i. e_is i *ℤ w.divisor ≡ (e_is i *ℤ w.scale -ℤ w.factor *ℤ x_is i) *ℤ w.multiplier) (c.is_kept.ensures c.if-is_kept.true) in
    ap (λ x. x *ℤ w.divisor) e_is ∙ kept ∙ ap (λ b. divided b a.denominator w.factor w.scale a.in_row a.entry *ℤ w.multiplier) (sym c.if-is_place.false)

pub returns-clause-product : goal.returns-clause-product
returns-clause-product c =
    let a = c.args in
    let w = a.way.now in
    let e : c.product-whole.result ≡ a.entry *ℤ w.scale = c.product-whole.ensures ∙ (λ i. short_read a.entry c.requires.entry i *ℤ short_read w.scale c.requires.scale i) in
    let f : c.product-taken.result ≡ w.factor *ℤ a.in_row = c.product-taken.ensures ∙ (λ i. short_read w.factor c.requires.factor i *ℤ short_read a.in_row c.requires.in_row i) in
    let read : to_z w128 (of_z w128 (to_z w128 (of_z w128 c.product-whole.result) -ℤ to_z w128 (of_z w128 c.product-taken.result))) ≡ divided a.is_place a.denominator w.factor w.scale a.in_row a.entry =
    (λ i. to_z w128 (of_z w128 (to_z w128 (of_z w128 (e i)) -ℤ to_z w128 (of_z w128 (f i)))))
    ∙ difference_read (a.entry *ℤ w.scale) (w.factor *ℤ a.in_row) (short_product a.entry w.scale c.requires.entry c.requires.scale) (short_product w.factor a.in_row c.requires.factor c.requires.in_row)
    ∙ ap (λ b. divided b a.denominator w.factor w.scale a.in_row a.entry) (sym c.if-is_place.false) in
    IfSome_then c.scaled-2.result c.scaled-2.ensures.product (λ n h. h ∙ ap (λ x. x *ℤ w.multiplier) read)
