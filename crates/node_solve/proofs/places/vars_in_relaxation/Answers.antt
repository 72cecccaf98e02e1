use Rattle.std.proofs.Common.{◌∙◌, ◌++◌, ◌∷◌, [], sym, ap, map, arith}
use Rattle.std.proofs.lemmas.List.{take_all}
use Rattle.node_solve.specs.Places.{var_in_relaxation}
use Rattle.node_solve.proofs.ListLemmas.{map-next}
use Rattle.node_solve.proofs.places.vars_in_relaxation.Goals as goal

pub loop-var-preserved : goal.loop-var-preserved
loop-var-preserved c =
    c.in-Ok.ensures.pushed
    ∙ (λ i. c.loop-var.invariant i ++ c.var_in_relaxation.ensures i ∷ [])
    ∙ sym (map-next (var_in_relaxation c.args.places.now) c.args.vars.now c.loop-var.var-index _ c.loop-var-test.true)

pub returns : goal.returns
returns c = c.loop-var.invariant ∙ ap (map (var_in_relaxation c.args.places.now)) (take_all c.loop-var.var-index c.args.vars.now (omega (arith, c.loop-var-test.false)))
