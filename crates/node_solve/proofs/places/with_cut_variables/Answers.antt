use Rattle.std.proofs.Common.{◌≡◌, ◌∙◌, ◌+◌, ◌++◌, ◌∷◌, [], suc, ap, arith, append_assoc}
use Rattle.lp_model.specs.declared.types.Var.TheVariants.{Cut}
use Rattle.lp_model.specs.declared.types.Basis.{Basis}
use Rattle.node_solve.specs.Places.{cut_variables}
use Rattle.node_solve.proofs.LiveLemmas.{variables-push}
use Rattle.node_solve.proofs.places.with_cut_variables.Goals as goal

pub loop-index-preserved : goal.loop-index-preserved
loop-index-preserved c =
    let b = c.args.basis.now in
    let k = c.args.from in
    let n = c.loop-index.index in
    let next : suc n ≡ n + 1 = omega arith in
    let basic : c.push.new.self ≡ b.basic ++ cut_variables k (n + 1) =
    c.in-Ok-push.ensures.pushed
    ∙ ap (λ (w : Basis). w.basic ++ Cut (record { 0 = k + n }) ∷ []) c.loop-index.invariant
    ∙ append_assoc b.basic (cut_variables k n) (Cut (record { 0 = k + n }) ∷ [])
    ∙ ap (λ l. b.basic ++ l) (variables-push k n ∙ ap (λ m. cut_variables k m) next) in
    λ i. record { basic = basic i; high = (c.loop-index.invariant i).high }
