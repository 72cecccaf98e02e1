use Rattle.std.specs.Prelude.{◌-◌, ◌&&◌, length, take, drop, map}
use Rattle.std.proofs.Common.{refl, sym, ap, ◌∙◌}
use Rattle.node_differences.specs.Order.{are_rising}
use Rattle.node_differences.proofs.RisingSteps.{rising-none, rising-last, rising-on}
use Rattle.node_differences.proofs.order.are_rising.Goals as goal

pub loop-rest-init : goal.loop-rest-init
loop-rest-init g c = refl

pub loop-rest-preserved-in_default-more : goal.loop-rest-preserved-in_default-more
loop-rest-preserved-in_default-more g c = c.loop-rest.invariant ∙ rising-last g.A.Ranked.variable c.loop-rest.rest.now c.in-len1-up.len_at_least c.in_default-more.len_below

pub loop-rest-preserved : goal.loop-rest-preserved
loop-rest-preserved g c =
    let v = g.A.Ranked.variable in
    let rest = c.loop-rest.rest.now in
    let on = rising-on v rest c.one-item.result c.other-item.result c.variable.result c.variable-in-len1-up-more.result c.stands_before.result c.in-len1-up.len_at_least c.one-item.is c.in-len1-up-more.len_at_least c.other-item.is c.variable.ensures
    c.variable-in-len1-up-more.ensures c.stands_before.ensures in
    c.loop-rest.invariant ∙ on ∙ ap (λ s. s && are_rising (map v (take (length rest - 1) (drop 1 rest)))) c.if-not-stands_before.false

pub returns-then-not-stands_before : goal.returns-then-not-stands_before
returns-then-not-stands_before g c =
    let v = g.A.Ranked.variable in
    let rest = c.loop-rest.rest.now in
    let on = rising-on v rest c.one-item.result c.other-item.result c.variable.result c.variable-in-len1-up-more.result c.stands_before.result c.in-len1-up.len_at_least c.one-item.is c.in-len1-up-more.len_at_least c.other-item.is c.variable.ensures
    c.variable-in-len1-up-more.ensures c.stands_before.ensures in
    sym (c.loop-rest.invariant ∙ on ∙ ap (λ s. s && are_rising (map v (take (length rest - 1) (drop 1 rest)))) c.if-not-stands_before.true)

pub returns : goal.returns
returns g c = sym (c.loop-rest.invariant ∙ rising-none g.A.Ranked.variable c.loop-rest.rest.now c.in_default.len_below)
