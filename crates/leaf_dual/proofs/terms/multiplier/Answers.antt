use Rattle.std.proofs.Common.{◌≡◌, ◌∙◌, ◌<◌, ◌≤◌, ◌+◌, ◌∷◌, ap, sym, arith, true, false, length, drop, if◌then◌else◌}
use Rattle.std.proofs.lemmas.List.{at_drop_more, drop_all}
use Rattle.leaf_dual.specs.Dual.{multiplier, is_row_variable}
use Rattle.leaf_dual.proofs.terms.multiplier.Goals as goal

pub loop-name-preserved : goal.loop-name-preserved
loop-name-preserved c =
    let xs = c.args.mult.now in
    let k = c.loop-name.name-index in
    let x = c.loop-name-item.result in
    let within : k < length xs = omega arith in
    let apart : is_row_variable x.0 c.args.row ≡ false = sym c.is_row.ensures ∙ c.if-is_row.false in
    c.loop-name.invariant ∙ at_drop_more (λ ys. multiplier ys c.args.row) xs k x within ∙ (λ i. multiplier (sym c.loop-name-item.is i ∷ drop (k + 1) xs) c.args.row)
    ∙ (λ i. if apart i then x.1 else multiplier (drop (k + 1) xs) c.args.row)

pub returns-then-is_row : goal.returns-then-is_row
returns-then-is_row c =
    let xs = c.args.mult.now in
    let k = c.loop-name.name-index in
    let x = c.loop-name-item.result in
    let within : k < length xs = omega arith in
    let here : is_row_variable x.0 c.args.row ≡ true = sym c.is_row.ensures ∙ c.if-is_row.true in
    sym (c.loop-name.invariant ∙ at_drop_more (λ ys. multiplier ys c.args.row) xs k x within ∙ (λ i. multiplier (sym c.loop-name-item.is i ∷ drop (k + 1) xs) c.args.row)
    ∙ (λ i. if here i then x.1 else multiplier (drop (k + 1) xs) c.args.row))

pub returns : goal.returns
returns c =
    let past : length c.args.mult.now ≤ c.loop-name.name-index = omega arith in
    c.whole.ensures ∙ sym (c.loop-name.invariant ∙ ap (λ ys. multiplier ys c.args.row) (drop_all c.loop-name.name-index c.args.mult.now past))
