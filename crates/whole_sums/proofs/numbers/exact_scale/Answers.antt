use Rattle.whole_sums.proofs.ReadLemmas.{short_again, scale_once, scale_times}
use Rattle.whole_sums.proofs.numbers.exact_scale.Goals as goal

pub returns-then-own-eq1-clause-short : goal.returns-then-own-eq1-clause-short
returns-then-own-eq1-clause-short c = short_again c.args.denominator c.requires.denominator.short

pub returns-then-own-eq1-clause-value : goal.returns-then-own-eq1-clause-value
returns-then-own-eq1-clause-value c = scale_once c.args.denominator c.args.own c.requires.denominator.short c.requires.own c.if-own-eq1.true

pub product-requires-clause-first : goal.product-requires-clause-first
product-requires-clause-first c = short_again c.in-Some.scale c.in-Some.ensures.short

pub product-requires-clause-second : goal.product-requires-clause-second
product-requires-clause-second c = short_again c.args.own c.requires.own

pub returns-then-product-from-clause-short : goal.returns-then-product-from-clause-short
returns-then-product-from-clause-short c = short_again c.in-Some.scale c.in-Some.ensures.short

pub returns-then-product-from-clause-value : goal.returns-then-product-from-clause-value
returns-then-product-from-clause-value c =
    scale_times c.in-Some.scale c.args.own c.args.denominator c.product.result c.from-2.result c.in-Some.ensures.short c.requires.own c.requires.denominator.short c.product.ensures c.from-2.ensures c.if-product-from.true
