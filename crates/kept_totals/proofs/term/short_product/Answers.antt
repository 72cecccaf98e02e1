use Rattle.std.proofs.Common.{◌≡◌, ◌∙◌, arith}
use Rattle.std.proofs.lemmas.Int.{ints}
use Rattle.std.proofs.lemmas.Option.{IfSome_then}
use Rattle.whole_sums.proofs.ReadLemmas.{short_again, product_made, product_read}
use Rattle.whole_sums.proofs.SumLemmas.{both}
use Rattle.kept_totals.proofs.ShortLemmas.{short_over}
use Rattle.kept_totals.proofs.term.short_product.Goals as goal

pub product-requires-clause-first : goal.product-requires-clause-first
product-requires-clause-first c = short_again c.args.pair.now.factor c.requires.pair.factor

pub product-requires-clause-second : goal.product-requires-clause-second
product-requires-clause-second c = short_again c.args.pair.now.number c.requires.pair.number

pub returns : goal.returns
returns c =
    let w = c.args.pair.now in
    let p = c.product.result in
    let made = product_made p w.factor w.number c.requires.pair.factor c.requires.pair.number c.product.ensures in
    let read = product_read p w.factor w.number c.requires.pair.factor c.requires.pair.number made in
    let same : w.denominator ≡ c.args.denominator = let e = c.if-pair-denominator.false in omega (arith, ints, e) in
    IfSome_then c.short_number.result (both _ _ c.short_number.result c.short_number.ensures.short c.short_number.ensures.value)
    (λ n h. short_over w.factor w.number w.denominator c.args.denominator n c.requires.pair.denominator same h.0 (h.1 ∙ read))
