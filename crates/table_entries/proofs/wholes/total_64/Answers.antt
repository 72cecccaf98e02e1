use Rattle.std.proofs.Common.{◌≡◌, ◌∙◌, arith, ◌*ℤ◌}
use Rattle.std.proofs.lemmas.Int.{ints}
use Rattle.table_entries.proofs.WayLemmas.{read_32, again_32}
use Rattle.table_entries.proofs.wholes.total_64.Goals as goal

pub product_64-whole-requires-clause-first : goal.product_64-whole-requires-clause-first
product_64-whole-requires-clause-first c = again_32 c.args.entry c.requires.entry

pub product_64-whole-requires-clause-second : goal.product_64-whole-requires-clause-second
product_64-whole-requires-clause-second c = again_32 c.args.way.now.scale c.requires.scale

pub product_64-taken-requires-clause-first : goal.product_64-taken-requires-clause-first
product_64-taken-requires-clause-first c = again_32 c.args.way.now.factor c.requires.factor

pub product_64-taken-requires-clause-second : goal.product_64-taken-requires-clause-second
product_64-taken-requires-clause-second c = again_32 c.args.in_row c.requires.in_row

pub overflow_sub-result : goal.overflow_sub-result
overflow_sub-result c =
    let e = c.product_64-whole.ensures.small in
    let f = c.product_64-taken.ensures.small in
    omega (arith, ints, e, f)

pub returns-clause-value : goal.returns-clause-value
returns-clause-value c =
    let w = c.args.way.now in
    let e : c.product_64-whole.result ≡ c.args.entry *ℤ w.scale = c.product_64-whole.ensures.value ∙ (λ i. read_32 c.args.entry c.requires.entry i *ℤ read_32 w.scale c.requires.scale i) in
    let f : c.product_64-taken.result ≡ w.factor *ℤ c.args.in_row = c.product_64-taken.ensures.value ∙ (λ i. read_32 w.factor c.requires.factor i *ℤ read_32 c.args.in_row c.requires.in_row i) in
    let e_small = c.product_64-whole.ensures.small in
    let f_small = c.product_64-taken.ensures.small in
    omega (arith, ints, e, f, e_small, f_small)

pub returns-clause-small : goal.returns-clause-small
returns-clause-small c =
    let e_small = c.product_64-whole.ensures.small in
    let f_small = c.product_64-taken.ensures.small in
    omega (arith, ints, e_small, f_small)
