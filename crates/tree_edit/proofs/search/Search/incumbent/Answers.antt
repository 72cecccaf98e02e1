use Rattle.std.proofs.Common.{List, subst}
use Rattle.frac128.specs.Rational.{ℚ}
use Rattle.search_parts.specs.Points.{IsOldestLeast, IsIncumbentAt}
use Rattle.sound_searches.specs.Sound.{PlainSearch}
use Rattle.search_parts.proofs.PointLemmas.{incumbent-at}
use Rattle.tree_edit.proofs.search.Search.incumbent.Goals as goal

pub returns-in-Some : goal.returns-in-Some
returns-in-Some c =
    let i = c.self.inside in
    let k = c.in-Some.place in
    let best = subst (λ (vs : List ℚ). IsOldestLeast vs k) c.deref.ensures.value c.in-Some.ensures in (
      k,
      subst (λ (S : PlainSearch). IsIncumbentAt S.model S.points c.index.result.now k) c.self.view_is
          (incumbent-at i.model i.points.items i.values.items c.self.invariant.values_are k c.index.result.now best c.index.ensures),
    )
