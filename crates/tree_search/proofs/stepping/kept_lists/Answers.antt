use Rattle.std.proofs.Common.{subst, sym, ap, ◌∙◌}
use Rattle.kept_cuts.specs.Kept.{derivations_of}
use Rattle.node_solve.specs.Places.{live_cuts, live_places, ArePoolPlaces, basis_in_pool}
use Rattle.tree_search.proofs.FoundLemmas.{places-within}
use Rattle.tree_search.proofs.stepping.kept_lists.Goals as goal

pub basis_in_pool-kept-requires : goal.basis_in_pool-kept-requires
basis_in_pool-kept-requires c =
    let places = c.deref-2.ensures.value ∙ c.in-Ok.ensures.places in
    subst ArePoolPlaces (sym places) (places-within c.pool.result.now c.in-Ok.ensures.few)

pub returns-in-Ok-kept-clause-cuts : goal.returns-in-Ok-kept-clause-cuts
returns-in-Ok-kept-clause-cuts c = c.in-Ok-derivations.ensures ∙ ap derivations_of (c.deref.ensures.value ∙ c.in-Ok.ensures.cuts ∙ ap (live_cuts 200) c.pool.ensures.pool)

pub returns-in-Ok-kept-clause-basis : goal.returns-in-Ok-kept-clause-basis
returns-in-Ok-kept-clause-basis c =
    let places = c.deref-2.ensures.value ∙ c.in-Ok.ensures.places ∙ ap (live_places 200 0) c.pool.ensures.pool in
    c.in-Ok-kept.ensures ∙ ap (λ p. basis_in_pool p c.args.basis.now) places
