use Rattle.std.specs.Prelude.{IfOk, ◌≡◌}
use Rattle.std.proofs.Common.{◌∙◌, length, ap, subst, arith}
use Rattle.lp_model.specs.declared.types.Basis.{Basis}
use Rattle.node_solve.specs.Places.{live_places, basis_in_relaxation}
use Rattle.tree_search.proofs.FoundLemmas.{places-few}
use Rattle.tree_search.proofs.stepping.relaxation_basis.Goals as goal

pub basis_in_relaxation-own-requires : goal.basis_in_relaxation-own-requires
basis_in_relaxation-own-requires c =
    let same = ap length (c.deref.ensures.value ∙ c.in-Ok.ensures.places) in
    let few = places-few c.pool.result.now in
    omega (arith, same, few)

pub returns : goal.returns
returns c =
    let places = c.deref.ensures.value ∙ c.in-Ok.ensures.places ∙ ap (live_places 200 0) c.pool.ensures.pool in
    subst (λ p. IfOk c.basis_in_relaxation-own.result (λ (own : Basis). own ≡ basis_in_relaxation p c.args.basis.now)) places c.basis_in_relaxation-own.ensures
