use Rattle.std.proofs.Common.{◌∙◌, ◌+◌, ◌≤◌, [], map, sym, subst, ap, arith}
use Rattle.lp_model.specs.Formulations.{formulation}
use Rattle.cover_cuts.specs.Cuts.{IsPoolOf}
use Rattle.branch_tree.specs.Leaves.{region_leaves}
use Rattle.spared_leaves.specs.Touched.{touched_by}
use Rattle.leaf_judging.specs.Judged.{JudgesAll}
use Rattle.leaf_judging.specs.Totals.{leaves_steps}
use Rattle.search_parts.specs.Points.{target}
use Rattle.search_parts.specs.EditedPoints.{point_after, AreKeepable}
use Rattle.sound_searches.specs.Sound.{PlainSearch}
use Rattle.kept_cuts.specs.Kept.{derivations_of, IsPoolAfter}
use Rattle.sound_searches.specs.Edited.{HasParts}
use Rattle.tree_edit.specs.private.Staying.{stay_steps}
use Rattle.tree_edit.proofs.FormerNumbers.{leaves-cuts, tree-left}
use Rattle.tree_edit.proofs.search.Search.stay.Goals as goal

pub returns-in-Ok-clause-follows : goal.returns-in-Ok-clause-follows
returns-in-Ok-clause-follows g c =
    let S : PlainSearch = c.args.self.now in
    let e = c.args.edit.now in
    let stayed = c.in-Ok.stayed in
    let new : PlainSearch = c.put_stayed.new.self in
    let parts : HasParts c.args.model stayed.pool S.tree stayed.kept.points.items new = c.put_stayed.ensures in
    let after : IsPoolAfter S.model e S.cuts c.args.model stayed.pool = c.in-Ok.ensures.pool in
    record {
      model = parts.model ∙ c.requires.edited;
      cuts = ap derivations_of parts.cuts_are ∙ after.derivations;
      points = subst (λ P. P) (λ j. AreKeepable (sym parts.model j) (map (point_after S.model e) S.points) (sym parts.points_are j)) c.in-Ok.ensures.points;
      tree = subst (λ P. P) (λ j. JudgesAll (formulation (sym parts.model j) (sym parts.cuts_are j)) (target (sym parts.model j) (sym parts.points_are j)) (sym (tree-left S.model e (leaves-cuts S.model e c.requires.leaves) S.cuts S.tree) j) new.tree) parts.tree;
    }

pub returns-in-Ok-clause-steps : goal.returns-in-Ok-clause-steps
returns-in-Ok-clause-steps g c =
    let S : PlainSearch = c.args.self.now in
    let e = c.args.edit.now in
    let stayed = c.in-Ok.stayed in
    let new : PlainSearch = c.put_stayed.new.self in
    let parts : HasParts c.args.model stayed.pool S.tree stayed.kept.points.items new = c.put_stayed.ensures in
    let after : IsPoolAfter S.model e S.cuts c.args.model stayed.pool = c.in-Ok.ensures.pool in
    let most : c.stayed.new.steps ≤ c.args.steps.now + stay_steps S e new =
    subst (λ P. P) (λ j. c.stayed.new.steps ≤ c.args.steps.now + leaves_steps (touched_by S.model e) S.cuts (formulation (sym parts.model j) (sym parts.cuts_are j)) (region_leaves [] S.tree.root)) c.in-Ok.ensures.steps in
    record {
      steps = omega (arith, most);
      pool = c.in-Ok.ensures.cuts;
      pool_after = subst (λ P. P) (λ j. IsPoolOf (sym parts.model j) (sym parts.cuts_are j)) after.pool;
    }
