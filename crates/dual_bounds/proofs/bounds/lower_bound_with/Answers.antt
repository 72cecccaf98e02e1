use Rattle.std.proofs.Common.{◌≡◌, sym, subst, ap, ◌∙◌}
use Rattle.lp_model.specs.Program.{Program}
use Rattle.dual_bounds.specs.NewNumbers.{with_new_numbers, AreNewNumbers}
use Rattle.dual_bounds.specs.TreeBounds.{IsTreeBoundAt}
use Rattle.dual_bounds.proofs.ModelLemmas.{numbers-present}
use Rattle.dual_bounds.proofs.BoundLemmas.{new-numbers}
use Rattle.dual_bounds.proofs.ExactLemmas.{exact}
use Rattle.dual_bounds.proofs.bounds.lower_bound_with.Goals as goal

pub model_with_numbers-requires : goal.model_with_numbers-requires
model_with_numbers-requires c = subst (λ (M : Program). AreNewNumbers M c.args.numbers.now) (sym c.model.ensures) c.requires

pub tree_bound-requires : goal.tree_bound-requires
tree_bound-requires c = c.in_ok-changed.ensures ∙ ap (λ (N : Program). with_new_numbers N c.args.numbers.now) c.model.ensures

pub returns-in-Ok-clause-bound : goal.returns-in-Ok-clause-bound
returns-in-Ok-clause-bound c =
    let S = c.args.search.now in
    let made : c.in_ok-changed.changed ≡ with_new_numbers S.model c.args.numbers.now = c.in_ok-changed.ensures ∙ ap (λ (M : Program). with_new_numbers M c.args.numbers.now) c.model.ensures in
    subst (λ (M : Program). IsTreeBoundAt M S.cuts S.tree.root c.in-Ok.bound) made c.in-Ok.ensures.bound

pub returns-in-Ok-clause-true_bound : goal.returns-in-Ok-clause-true_bound
returns-in-Ok-clause-true_bound c =
    let S = c.args.search.now in
    let made : c.in_ok-changed.changed ≡ with_new_numbers S.model c.args.numbers.now = c.in_ok-changed.ensures ∙ ap (λ (M : Program). with_new_numbers M c.args.numbers.now) c.model.ensures in
    new-numbers S c.args.numbers.now c.in-Ok.bound c.in-Ok.ensures.sound (subst (λ (M : Program). IsTreeBoundAt M S.cuts S.tree.root c.in-Ok.bound) made c.in-Ok.ensures.bound)

pub returns-in-Ok-clause-exact : goal.returns-in-Ok-clause-exact
returns-in-Ok-clause-exact c =
    let S = c.args.search.now in
    let made : c.in_ok-changed.changed ≡ with_new_numbers S.model c.args.numbers.now = c.in_ok-changed.ensures ∙ ap (λ (M : Program). with_new_numbers M c.args.numbers.now) c.model.ensures in
    λ present.
    (exact S c.in-Ok.ensures.sound).0 c.in-Ok.bound
    (subst (λ (M : Program). IsTreeBoundAt M S.cuts S.tree.root c.in-Ok.bound) (made ∙ numbers-present S.model c.args.numbers.now present) c.in-Ok.ensures.bound)
