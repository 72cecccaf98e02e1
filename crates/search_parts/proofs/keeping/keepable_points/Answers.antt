use Rattle.std.specs.Prelude.{List}
use Rattle.std.proofs.Common.{◌∙◌, subst}
use Rattle.std.proofs.lemmas.List.{take_all}
use Rattle.lp_model.specs.Program.{Point}
use Rattle.search_parts.specs.EditedPoints.{AreValued}
use Rattle.search_parts.proofs.KeepableLemmas.{valued-next}
use Rattle.search_parts.proofs.keeping.keepable_points.Goals as goal

pub loop-point-preserved : goal.loop-point-preserved
loop-point-preserved c =
    let old = c.loop-point.kept in
    let new = c.add.new.self in
    valued-next c.args.model.now c.args.points.now c.loop-point.point-index c.point-item.result c.in-Ok.copy old.points.items new.points.items old.values.items new.values.items c.loop-point-test.true c.point-item.is
    (c.in-Ok.ensures ∙ c.as_slice.ensures) c.loop-point.invariant c.in-Ok-add.ensures

pub returns : goal.returns
returns c =
    let kept = c.loop-point.kept in
    subst (λ (l : List Point). AreValued c.args.model.now l kept.points.items kept.values.items) (take_all c.loop-point.point-index c.args.points.now c.loop-point-test.false) c.loop-point.invariant
