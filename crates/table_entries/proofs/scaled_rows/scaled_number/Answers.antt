use Rattle.std.proofs.Common.{◌≡◌, ◌∙◌, ap, arith, ◌*ℤ◌, to_z, of_z}
use Rattle.std.specs.Int.{w128}
use Rattle.std.proofs.lemmas.Option.{IfSome_then}
use Rattle.whole_sums.proofs.RoomLemmas.{short_product}
use Rattle.table_entries.proofs.ReadLemmas.{short_read, short_again, product_read}
use Rattle.table_entries.proofs.scaled_rows.scaled_number.Goals as goal

pub product-requires-clause-first : goal.product-requires-clause-first
product-requires-clause-first c = short_again c.args.entry c.requires.entry

pub product-requires-clause-second : goal.product-requires-clause-second
product-requires-clause-second c = short_again c.args.way.now.scale c.requires.scale

pub returns-then-is_scaled_by_one-clause-short : goal.returns-then-is_scaled_by_one-clause-short
returns-then-is_scaled_by_one-clause-short c = short_again c.args.entry c.requires.entry

pub returns-then-is_scaled_by_one-clause-product : goal.returns-then-is_scaled_by_one-clause-product
returns-then-is_scaled_by_one-clause-product c =
    let w = c.args.way.now in
    let e_is = short_read c.args.entry c.requires.entry in
    c.is_scaled_by_one.ensures c.if-is_scaled_by_one.true ∙ ap (λ x. x *ℤ w.scale *ℤ w.multiplier) e_is

pub returns-clause-product : goal.returns-clause-product
returns-clause-product c =
    let a = c.args in
    let w = a.way.now in
    let made : c.product.result ≡ a.entry *ℤ w.scale = c.product.ensures ∙ (λ i. short_read a.entry c.requires.entry i *ℤ short_read w.scale c.requires.scale i) in
    let small = short_product a.entry w.scale c.requires.entry c.requires.scale in
    let read : to_z w128 (of_z w128 c.product.result) ≡ a.entry *ℤ w.scale = ap (λ x. to_z w128 (of_z w128 x)) made ∙ product_read (a.entry *ℤ w.scale) (omega (arith, small)) in
    IfSome_then c.scaled.result c.scaled.ensures.product (λ n h. h ∙ ap (λ x. x *ℤ w.multiplier) read)
