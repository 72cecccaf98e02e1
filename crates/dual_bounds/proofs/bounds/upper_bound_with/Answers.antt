use Rattle.std.proofs.Common.{◌≡◌, sym, subst, ap, ◌∙◌}
use Rattle.lp_model.specs.Program.{Program}
use Rattle.dual_bounds.specs.NewNumbers.{with_new_numbers, AreNewNumbers}
use Rattle.dual_bounds.proofs.ModelLemmas.{numbers-present}
use Rattle.dual_bounds.proofs.BoundLemmas.{point-bound-of, point-bound}
use Rattle.dual_bounds.proofs.ExactLemmas.{exact}
use Rattle.dual_bounds.proofs.bounds.upper_bound_with.Goals as goal

pub model_with_numbers-requires : goal.model_with_numbers-requires
model_with_numbers-requires c = subst (λ (M : Program). AreNewNumbers M c.args.numbers.now) (sym c.model.ensures) c.requires

pub returns-clause-bound : goal.returns-clause-bound
returns-clause-bound c =
    let S = c.args.search.now in
    let made : c.in_ok-changed.changed ≡ with_new_numbers S.model c.args.numbers.now = c.in_ok-changed.ensures ∙ ap (λ (M : Program). with_new_numbers M c.args.numbers.now) c.model.ensures in
    point-bound-of c.in_ok-changed.changed (with_new_numbers S.model c.args.numbers.now) c.points.result.now S.points c.point_bound-bound.result made c.points.ensures.points c.point_bound-bound.ensures

pub returns-clause-true_bound : goal.returns-clause-true_bound
returns-clause-true_bound c =
    let S = c.args.search.now in
    let made : c.in_ok-changed.changed ≡ with_new_numbers S.model c.args.numbers.now = c.in_ok-changed.ensures ∙ ap (λ (M : Program). with_new_numbers M c.args.numbers.now) c.model.ensures in
    point-bound (with_new_numbers S.model c.args.numbers.now) S.points c.point_bound-bound.result
    (point-bound-of c.in_ok-changed.changed (with_new_numbers S.model c.args.numbers.now) c.points.result.now S.points c.point_bound-bound.result made c.points.ensures.points c.point_bound-bound.ensures)

pub returns-clause-exact : goal.returns-clause-exact
returns-clause-exact c =
    let S = c.args.search.now in
    let made : c.in_ok-changed.changed ≡ with_new_numbers S.model c.args.numbers.now = c.in_ok-changed.ensures ∙ ap (λ (M : Program). with_new_numbers M c.args.numbers.now) c.model.ensures in
    λ present.
    (exact S c.points.ensures.sound).1 c.point_bound-bound.result
    (point-bound-of c.in_ok-changed.changed S.model c.points.result.now S.points c.point_bound-bound.result (made ∙ numbers-present S.model c.args.numbers.now present) c.points.ensures.points c.point_bound-bound.ensures)
