use Rattle.std.proofs.Common.{◌≡◌, ◌∙◌, ◌≤◌, length, map, sym, subst, ap, arith}
use Rattle.std.specs.Prelude.{Result, Ok, Err, IfOk}
use Rattle.std.proofs.lemmas.List.{length-map}
use Rattle.lp_model.specs.Edits.{edited, EditFits}
use Rattle.lp_model.specs.Formulations.{formulation}
use Rattle.leaf_judging.specs.Judged.{JudgesAll}
use Rattle.search_parts.specs.Points.{target}
use Rattle.sound_searches.specs.Sound.{PlainSearch, IsSoundTree}
use Rattle.branch_tree.specs.Following.{after_edit}
use Rattle.kept_cuts.specs.Kept.{derivations_of, gone_with, IsPoolAfter}
use Rattle.search_parts.specs.EditedPoints.{point_after, AreKeepable}
use Rattle.sound_searches.specs.Edited.{HasParts, Follows}
use Rattle.search_parts.proofs.KeepableLemmas.{keepable-all, keepable-few}
use Rattle.tree_edit.proofs.GoneCuts.{follow-sound}
use Rattle.tree_edit.proofs.search.Search.edited_search.Goals as goal

pub followed-requires-clause-fits : goal.followed-requires-clause-fits
followed-requires-clause-fits g c = c.requires.fits

pub followed-requires-clause-edited : goal.followed-requires-clause-edited
followed-requires-clause-edited g c = c.requires.edited

pub with_kept-requires-clause-values : goal.with_kept-requires-clause-values
with_kept-requires-clause-values g c = c.in-Ok-kept_points.ensures.values_are

pub with_kept-requires-clause-tree : goal.with_kept-requires-clause-tree
with_kept-requires-clause-tree g c =
    let i = c.self.inside in
    let e = c.args.edit.now in
    let fits : EditFits i.model e = subst (λ (R : PlainSearch). EditFits R.model e) (sym c.self.view_is) c.requires.fits in
    let new : c.args.model ≡ edited i.model e = c.requires.edited ∙ ap (λ (R : PlainSearch). edited R.model e) (sym c.self.view_is) in
    let after = c.in-Ok.ensures.pool in
    let tree : c.in-Ok.tree ≡ after_edit i.tree i.model (gone_with i.model e i.pool) e = c.in-Ok.ensures.tree ∙ ap (λ (R : PlainSearch). after_edit R.tree R.model (gone_with R.model e R.cuts) e) (sym c.self.view_is) in
    let pool : IsPoolAfter i.model e i.pool c.args.model c.in-Ok.pool = subst (λ (R : PlainSearch). IsPoolAfter R.model e R.cuts c.args.model c.in-Ok.pool) (sym c.self.view_is) after in
    let follows = follow-sound i.model e i.pool c.in-Ok.pool i.tree fits pool.derivations c.self.invariant.sound.tree in
    subst (λ P. P) (λ j. IsSoundTree (formulation (sym new j) c.in-Ok.pool) (sym tree j).root) follows

pub with_kept-requires-clause-pool : goal.with_kept-requires-clause-pool
with_kept-requires-clause-pool g c = c.in-Ok.ensures.pool.pool

pub with_kept-requires-clause-points : goal.with_kept-requires-clause-points
with_kept-requires-clause-points g c =
    keepable-all c.args.model (map (point_after c.self.inside.model c.args.edit.now) c.deref.result.now) c.in-Ok-kept_points.kept.points.items c.in-Ok-kept_points.ensures.keepable

pub with_kept-requires-clause-few : goal.with_kept-requires-clause-few
with_kept-requires-clause-few g c =
    let f = point_after c.self.inside.model c.args.edit.now in
    let few = keepable-few c.args.model (map f c.deref.result.now) c.in-Ok-kept_points.kept.points.items c.in-Ok-kept_points.ensures.keepable in
    let long = length-map c.deref.result.now f in
    let same = ap length c.deref.ensures.value in
    let old : length c.self.inside.points.items ≤ 100 = c.self.invariant.sound.few in
    omega (arith, few, long, same, old)

if_ok : {A E : Type 0} {P Q : A → Type 0} (r : Result A E) → ((a : A) → P a → Q a) → IfOk r P → IfOk r Q
if_ok (Ok a) w h = w a h
if_ok (Err e) w h = h

pub returns-in-Ok-kept_points-clause-follows : goal.returns-in-Ok-kept_points-clause-follows
returns-in-Ok-kept_points-clause-follows g c =
    let i = c.self.inside in
    let e = c.args.edit.now in
    let S : PlainSearch = c.args.self.now in
    let kept = c.in-Ok-kept_points in
    let model : c.args.model ≡ edited i.model e = c.requires.edited ∙ ap (λ (R : PlainSearch). edited R.model e) (sym c.self.view_is) in
    let after : IsPoolAfter i.model e i.pool c.args.model c.in-Ok.pool = subst (λ (R : PlainSearch). IsPoolAfter R.model e R.cuts c.args.model c.in-Ok.pool) (sym c.self.view_is) c.in-Ok.ensures.pool in
    let tree : c.in-Ok.tree ≡ after_edit i.tree i.model (gone_with i.model e i.pool) e = c.in-Ok.ensures.tree ∙ ap (λ (R : PlainSearch). after_edit R.tree R.model (gone_with R.model e R.cuts) e) (sym c.self.view_is) in
    if_ok {P = λ (new : PlainSearch). HasParts c.args.model c.in-Ok.pool c.in-Ok.tree kept.kept.points.items new} {Q = λ (new : PlainSearch). Follows S e new} c.with_kept.result
    (λ new parts. subst (λ (R : PlainSearch). Follows R e new) c.self.view_is (record {
      model = parts.model ∙ model;
      cuts = ap derivations_of parts.cuts_are ∙ after.derivations;
      points = subst (λ P. P) (λ j. AreKeepable (sym parts.model j) (map (point_after i.model e) (c.deref.ensures.value j)) (sym parts.points_are j)) kept.ensures.keepable;
      tree = subst (λ P. P) (λ j. JudgesAll (formulation (sym parts.model j) (sym parts.cuts_are j)) (target (sym parts.model j) (sym parts.points_are j)) (tree j) new.tree) parts.tree;
    })) c.with_kept.ensures.parts
