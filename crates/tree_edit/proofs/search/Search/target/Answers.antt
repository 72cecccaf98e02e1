use Rattle.std.proofs.Common.{◌≡◌, ◌∙◌, List, refl, subst, ap, pos}
use Rattle.frac128.specs.Rational.{ℚ, int}
use Rattle.lp_model.proofs.ElementLemmas.{get_or-read}
use Rattle.search_parts.specs.Points.{IsOldestLeast, target, value_at}
use Rattle.sound_searches.specs.Sound.{PlainSearch}
use Rattle.search_parts.proofs.PointLemmas.{target-value}
use Rattle.tree_edit.proofs.search.Search.target.Goals as goal

pub returns-in-Some : goal.returns-in-Some
returns-in-Some c =
    let i = c.self.inside in
    let k = c.in-Some.place in
    let best = subst (λ (vs : List ℚ). IsOldestLeast vs k) c.deref.ensures.value c.in-Some.ensures in
    let is : c.index.result.now ≡ value_at i.values.items k = get_or-read (int (pos 0)) i.values.items i.values.items k c.index.result.now refl best.within c.index.ensures in
    target-value i.model i.points.items i.values.items c.self.invariant.values_are k c.index.result.now best is ∙ ap (λ (S : PlainSearch). target S.model S.points) c.self.view_is
