use Rattle.std.proofs.Common.{◌≡◌, ◌<◌, ◌≤◌, ◌+◌, ◌∷◌, suc, length, drop, subst, sym, ◌∙◌, arith}
use Rattle.std.proofs.Math.Seq.{drop-cons}
use Rattle.std.proofs.lemmas.List.{drop_all}
use Rattle.dual_bounds.specs.private.Spared.{NamesSameSides}
use Rattle.dual_bounds.proofs.spared.names_same_sides.Goals as goal

pub loop-entry-init : goal.loop-entry-init
loop-entry-init c = λ h. h

pub loop-entry-preserved : goal.loop-entry-preserved
loop-entry-preserved c =
    let list = c.args.list.now in
    let i = c.loop-entry.entry-index in
    let m = c.entry-item.result in
    let small : i < length list = omega (arith, c.loop-entry-test.true) in
    let next : suc i ≡ i + 1 = omega arith in
    let here : drop i list ≡ m ∷ drop (i + 1) list = drop-cons list i m small ∙ (λ t. sym c.entry-item.is t ∷ drop (next t) list) in
    λ rest. c.loop-entry.invariant (subst (NamesSameSides c.args.one.now c.args.other.now) (sym here) (c.is_same_variable.ensures c.if-not-is_same_variable.false, rest))

pub returns : goal.returns
returns c =
    let list = c.args.list.now in
    let end : length list ≤ c.loop-entry.entry-index = omega (arith, c.loop-entry-test.false) in
    λ yes. c.loop-entry.invariant (subst (NamesSameSides c.args.one.now c.args.other.now) (sym (drop_all c.loop-entry.entry-index list end)) tt)
