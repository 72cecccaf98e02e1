use Rattle.std.proofs.Common.{◌∙◌, ◌++◌, ◌∷◌, [], sym, subst, ap, map, take}
use Rattle.std.specs.Prelude.{List}
use Rattle.std.proofs.lemmas.List.{take_all}
use Rattle.lp_model.specs.Program.{Point}
use Rattle.search_parts.specs.EditedPoints.{point_after, AreValued}
use Rattle.search_parts.proofs.KeepableLemmas.{valued-more, map-more}
use Rattle.search_parts.proofs.editing.kept_points.Goals as goal

pub loop-point-preserved : goal.loop-point-preserved
loop-point-preserved c =
    let M = c.args.new.now in
    let f = point_after c.args.old.now c.args.edit.now in
    let points = c.args.points.now in
    let i = c.loop-point.point-index in
    let old = c.loop-point.kept in
    let new = c.add.new.self in
    let step = valued-more M (map f (take i points)) old.points.items new.points.items old.values.items new.values.items c.in-Ok.moved c.loop-point.invariant c.in-Ok-add.ensures in
    subst (λ (l : List Point). AreValued M l new.points.items new.values.items)
    (ap (λ (x : Point). map f (take i points) ++ x ∷ []) c.in-Ok.ensures ∙ sym (map-more f points i c.point-item.result c.loop-point-test.true c.point-item.is)) step

pub returns : goal.returns
returns c =
    let M = c.args.new.now in
    let f = point_after c.args.old.now c.args.edit.now in
    let kept = c.loop-point.kept in
    subst (λ (l : List Point). AreValued M (map f l) kept.points.items kept.values.items) (take_all c.loop-point.point-index c.args.points.now c.loop-point-test.false) c.loop-point.invariant
