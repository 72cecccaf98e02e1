use Rattle.std.proofs.Common.{◌<◌, ℕ, List, [], ◌++◌, ◌∷◌, length, map, pos, ap, sym, ◌∙◌, arith}
use Rattle.std.proofs.lemmas.List.{take_all, map_more}
use Rattle.frac128.specs.Rational.{ℚ, int}
use Rattle.mps_model.proofs.BesideSteps.{zeros_beside}
use Rattle.mps_model.proofs.beside.zeros.Goals as goal

pub loop-name-preserved : goal.loop-name-preserved
loop-name-preserved c =
    let names = c.args.names.now in
    let place = c.loop-name._name-index in
    let small : place < length names = omega (arith, c.loop-name-test.true) in
    c.in-Ok.ensures.items
    ∙ ap (λ (x : ℚ). c.loop-name.zeros.items ++ x ∷ []) c.whole.ensures
    ∙ ap (λ (found : List ℚ). found ++ int (pos 0) ∷ []) c.loop-name.invariant
    ∙ sym (map_more (λ (name : List ℕ). int (pos 0)) names place [] small)

pub returns : goal.returns
returns c = c.loop-name.invariant ∙ ap (map (λ (name : List ℕ). int (pos 0))) (take_all c.loop-name._name-index c.args.names.now (omega arith)) ∙ zeros_beside c.args.names.now
