use Rattle.std.proofs.Common.{◌≡◌, ◌∙◌, ◌<◌, ◌≤◌, ◌+◌, ◌∷◌, ap, sym, arith, true, false, length, drop, if◌then◌else◌}
use Rattle.std.proofs.lemmas.List.{at_drop_more, drop_all}
use Rattle.leaf_dual.specs.Dual.{cut_multiplier, is_cut}
use Rattle.leaf_dual.proofs.terms.cut_multiplier.Goals as goal

pub loop-name-preserved : goal.loop-name-preserved
loop-name-preserved c =
    let xs = c.args.mult.now in
    let k = c.loop-name.name-index in
    let x = c.loop-name-item.result in
    let within : k < length xs = omega arith in
    let apart : is_cut x.0 c.args.cut ≡ false = sym c.is_cut.ensures ∙ c.if-is_cut.false in
    c.loop-name.invariant ∙ at_drop_more (λ ys. cut_multiplier ys c.args.cut) xs k x within ∙ (λ i. cut_multiplier (sym c.loop-name-item.is i ∷ drop (k + 1) xs) c.args.cut)
    ∙ (λ i. if apart i then x.1 else cut_multiplier (drop (k + 1) xs) c.args.cut)

pub returns-then-is_cut : goal.returns-then-is_cut
returns-then-is_cut c =
    let xs = c.args.mult.now in
    let k = c.loop-name.name-index in
    let x = c.loop-name-item.result in
    let within : k < length xs = omega arith in
    let here : is_cut x.0 c.args.cut ≡ true = sym c.is_cut.ensures ∙ c.if-is_cut.true in
    sym (c.loop-name.invariant ∙ at_drop_more (λ ys. cut_multiplier ys c.args.cut) xs k x within ∙ (λ i. cut_multiplier (sym c.loop-name-item.is i ∷ drop (k + 1) xs) c.args.cut)
    ∙ (λ i. if here i then x.1 else cut_multiplier (drop (k + 1) xs) c.args.cut))

pub returns : goal.returns
returns c =
    let past : length c.args.mult.now ≤ c.loop-name.name-index = omega arith in
    c.whole.ensures ∙ sym (c.loop-name.invariant ∙ ap (λ ys. cut_multiplier ys c.args.cut) (drop_all c.loop-name.name-index c.args.mult.now past))
