use Rattle.std.proofs.Common.{List, subst}
use Rattle.frac128.specs.Rational.{ℚ}
use Rattle.sound_searches.specs.Sound.{PlainSearch}
use Rattle.search_parts.specs.Joining.{Joins}
use Rattle.tree_edit.specs.private.PlacingSteps.{JoinsPoint}
use Rattle.tree_edit.proofs.PointTaken.{joins-point}
use Rattle.tree_edit.proofs.search.Search.join.Goals as goal

pub returns-in-Ok-clause-joins : goal.returns-in-Ok-clause-joins
returns-in-Ok-clause-joins c =
    let i = c.self.inside in
    let S : PlainSearch = record { model = i.model; cuts = i.pool; tree = i.tree; points = i.points.items } in
    let j = c.in-Ok.joined in
    let joins = subst (λ (vs : List ℚ). Joins vs c.in-Some.value j) c.deref.ensures.value c.in-Ok.ensures in
    subst (λ (T : PlainSearch). JoinsPoint T c.args.point.now j) c.self.view_is
    (joins-point S i.values.items c.args.point.now c.in-Some.value j c.in-Some.ensures.0 c.self.invariant.values_are c.in-Some.ensures.1 joins)
