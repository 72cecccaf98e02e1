use Rattle.std.proofs.Common.{◌≡◌, ℕ, ◌∙◌, ◌+◌, ◌≤◌, [], List, Option, Some, None, map, refl, sym, subst, ap, arith}
use Rattle.frac128.specs.Rational.{ℚ}
use Rattle.lp_model.specs.Program.{Point}
use Rattle.lp_model.specs.Cuts.{is_live}
use Rattle.lp_model.specs.Edits.{edited, EditFits}
use Rattle.lp_model.specs.Formulations.{formulation}
use Rattle.cover_cuts.specs.Cuts.{IsPoolOf}
use Rattle.branch_tree.specs.Leaves.{region_leaves}
use Rattle.kept_cuts.specs.Kept.{IsPoolAfter}
use Rattle.spared_leaves.specs.declared.touched.Touched.{Touched}
use Rattle.spared_leaves.specs.Touched.{touched_by}
use Rattle.leaf_judging.specs.Judged.{AreJudged, AreStates}
use Rattle.leaf_judging.specs.Totals.{leaves_steps}
use Rattle.search_parts.specs.Points.{target}
use Rattle.search_parts.specs.EditedPoints.{point_after, AreKeepable}
use Rattle.search_parts.specs.Joining.{IsLeastValue}
use Rattle.search_parts.proofs.WorstLemmas.{least-target}
use Rattle.sound_searches.specs.Sound.{PlainSearch, formulation_of}
use Rattle.tree_edit.specs.private.Staying.{TouchesNoList, AreJudgedOrKept, IsStayed}
use Rattle.tree_edit.proofs.FormerNumbers.{leaves-cuts, former-numbers}
use Rattle.tree_edit.proofs.QuietChange.{edit-keeps}
use Rattle.tree_edit.proofs.StayedSearch.{is-stayed}
use Rattle.tree_edit.proofs.search.Search.stayed.Goals as goal

pub pool_after-requires-clause-fits : goal.pool_after-requires-clause-fits
pool_after-requires-clause-fits g c = subst (λ (R : PlainSearch). EditFits R.model c.args.edit.now) (sym c.self.view_is) c.requires.fits

pub pool_after-requires-clause-edited : goal.pool_after-requires-clause-edited
pool_after-requires-clause-edited g c = c.requires.edited ∙ ap (λ (R : PlainSearch). edited R.model c.args.edit.now) (sym c.self.view_is)

pub pool_after-requires-clause-pool : goal.pool_after-requires-clause-pool
pool_after-requires-clause-pool g c = c.self.invariant.sound.pool

pub judge_tree-requires-clause-former : goal.judge_tree-requires-clause-former
judge_tree-requires-clause-former g c =
    let i = c.self.inside in
    let e = c.args.edit.now in
    let new : c.args.model.now ≡ edited i.model e = c.requires.edited ∙ ap (λ (R : PlainSearch). edited R.model e) (sym c.self.view_is) in
    former-numbers i.model c.args.model.now e i.pool c.in_ok-pool.pool (leaves-cuts i.model e c.requires.leaves) _ c.touched_by-touched.ensures refl refl c.self.invariant.sound.pool new c.in_ok-pool.ensures i.tree.root c.self.invariant.numbers_are

pub returns-then-is_quiet-clause-stayed : goal.returns-then-is_quiet-clause-stayed
returns-then-is_quiet-clause-stayed g c =
    let i = c.self.inside in
    let S : PlainSearch = record { model = i.model; cuts = i.pool; tree = i.tree; points = i.points.items } in
    let e = c.args.edit.now in
    let M = c.args.model.now in
    let cuts = c.in_ok-pool.pool in
    let kept = c.in-Ok.kept in
    let fits : EditFits i.model e = subst (λ (R : PlainSearch). EditFits R.model e) (sym c.self.view_is) c.requires.fits in
    let new : M ≡ edited i.model e = c.requires.edited ∙ ap (λ (R : PlainSearch). edited R.model e) (sym c.self.view_is) in
    let after : IsPoolAfter i.model e i.pool M cuts = c.in_ok-pool.ensures in
    let keepable : AreKeepable M (map (point_after i.model e) i.points.items) kept.points.items = subst (λ (ps : List Point). AreKeepable M (map (point_after i.model e) ps) kept.points.items) c.deref.ensures.value c.in-Ok.ensures.keepable in
    let least = subst (λ (vs : List ℚ). IsLeastValue vs c.least_of-target.result) c.deref-in-Ok.ensures.value c.least_of-target.ensures in
    let best : c.least_of-target.result ≡ target M kept.points.items = least-target M kept.points.items kept.values.items c.least_of-target.result c.in-Ok.ensures.values_are least in
    let quiet = c.is_quiet.ensures in
    let some = c.if-is_quiet.true in
    let none : TouchesNoList i.model (touched_by i.model e) =
    subst (TouchesNoList i.model) c.touched_by-touched.ensures (subst (λ (R : PlainSearch). TouchesNoList R.model c.touched_by-touched.result) (sym c.self.view_is) (quiet.lists some)) in
    let lives : (k : ℕ) → is_live i.pool k ≡ is_live cuts k = λ k. subst (λ (R : PlainSearch). is_live R.cuts k ≡ is_live cuts k) (sym c.self.view_is) (quiet.cuts some k) in
    let same : target i.model i.points.items ≡ target M kept.points.items = ap (λ (R : PlainSearch). target R.model R.points) c.self.view_is ∙ sym (quiet.target some) ∙ best in
    let stays : AreJudgedOrKept S M cuts kept.points.items None =
    edit-keeps i.model M e i.pool cuts (leaves-cuts i.model e c.requires.leaves) c.self.invariant.sound.pool new after lives none (target M kept.points.items) i.tree.root c.self.invariant.sound.tree.lists
    (subst (λ (t : Option ℚ). AreJudged (formulation_of S) t i.tree.root) same c.self.invariant.sound.judged) in
    subst (λ (R : PlainSearch). IsStayed R M (record { pool = cuts; kept = kept; judged = None })) c.self.view_is
    (is-stayed S M e (record { pool = cuts; kept = kept; judged = None }) fits new c.requires.leaves after keepable c.self.invariant.sound c.rows-few.ensures.few c.in-Ok.ensures.values_are stays)

pub returns-in-Ok-judge_tree-clause-stayed : goal.returns-in-Ok-judge_tree-clause-stayed
returns-in-Ok-judge_tree-clause-stayed g c =
    let i = c.self.inside in
    let S : PlainSearch = record { model = i.model; cuts = i.pool; tree = i.tree; points = i.points.items } in
    let e = c.args.edit.now in
    let M = c.args.model.now in
    let cuts = c.in_ok-pool.pool in
    let kept = c.in-Ok.kept in
    let judged = c.in-Ok-judge_tree.judged in
    let fits : EditFits i.model e = subst (λ (R : PlainSearch). EditFits R.model e) (sym c.self.view_is) c.requires.fits in
    let new : M ≡ edited i.model e = c.requires.edited ∙ ap (λ (R : PlainSearch). edited R.model e) (sym c.self.view_is) in
    let after : IsPoolAfter i.model e i.pool M cuts = c.in_ok-pool.ensures in
    let keepable : AreKeepable M (map (point_after i.model e) i.points.items) kept.points.items = subst (λ (ps : List Point). AreKeepable M (map (point_after i.model e) ps) kept.points.items) c.deref.ensures.value c.in-Ok.ensures.keepable in
    let least = subst (λ (vs : List ℚ). IsLeastValue vs c.least_of-target.result) c.deref-in-Ok.ensures.value c.least_of-target.ensures in
    let best : c.least_of-target.result ≡ target M kept.points.items = least-target M kept.points.items kept.values.items c.least_of-target.result c.in-Ok.ensures.values_are least in
    let states : AreStates (formulation M cuts) (target M kept.points.items) i.tree.root judged.states.items = subst (λ (t : Option ℚ). AreStates (formulation M cuts) t i.tree.root judged.states.items) best c.in-Ok-judge_tree.ensures.states in
    subst (λ (R : PlainSearch). IsStayed R M (record { pool = cuts; kept = kept; judged = Some judged })) c.self.view_is
    (is-stayed S M e (record { pool = cuts; kept = kept; judged = Some judged }) fits new c.requires.leaves after keepable c.self.invariant.sound c.rows-few.ensures.few c.in-Ok.ensures.values_are (states, (c.in-Ok-judge_tree.ensures.numbers, c.in-Ok-judge_tree.ensures.queue)))

pub returns-then-is_quiet-clause-pool : goal.returns-then-is_quiet-clause-pool
returns-then-is_quiet-clause-pool g c = subst (λ (R : PlainSearch). IsPoolAfter R.model c.args.edit.now R.cuts c.args.model.now c.in_ok-pool.pool) c.self.view_is c.in_ok-pool.ensures

pub returns-then-is_quiet-clause-points : goal.returns-then-is_quiet-clause-points
returns-then-is_quiet-clause-points g c =
    let i = c.self.inside in
    let e = c.args.edit.now in
    let kept = c.in-Ok.kept in
    subst (λ (R : PlainSearch). AreKeepable c.args.model.now (map (point_after R.model e) R.points) kept.points.items) c.self.view_is
    (subst (λ P. P) (λ j. AreKeepable c.args.model.now (map (point_after i.model e) (c.deref.ensures.value j)) kept.points.items) c.in-Ok.ensures.keepable)

pub returns-then-is_quiet-clause-cuts : goal.returns-then-is_quiet-clause-cuts
returns-then-is_quiet-clause-cuts g c = subst (λ (R : PlainSearch). IsPoolOf R.model R.cuts) c.self.view_is c.self.invariant.sound.pool

pub returns-in-Ok-judge_tree-clause-pool : goal.returns-in-Ok-judge_tree-clause-pool
returns-in-Ok-judge_tree-clause-pool g c = subst (λ (R : PlainSearch). IsPoolAfter R.model c.args.edit.now R.cuts c.args.model.now c.in_ok-pool.pool) c.self.view_is c.in_ok-pool.ensures

pub returns-in-Ok-judge_tree-clause-points : goal.returns-in-Ok-judge_tree-clause-points
returns-in-Ok-judge_tree-clause-points g c =
    let i = c.self.inside in
    let e = c.args.edit.now in
    let kept = c.in-Ok.kept in
    subst (λ (R : PlainSearch). AreKeepable c.args.model.now (map (point_after R.model e) R.points) kept.points.items) c.self.view_is
    (subst (λ P. P) (λ j. AreKeepable c.args.model.now (map (point_after i.model e) (c.deref.ensures.value j)) kept.points.items) c.in-Ok.ensures.keepable)

pub returns-in-Ok-judge_tree-clause-cuts : goal.returns-in-Ok-judge_tree-clause-cuts
returns-in-Ok-judge_tree-clause-cuts g c = subst (λ (R : PlainSearch). IsPoolOf R.model R.cuts) c.self.view_is c.self.invariant.sound.pool

pub returns-in-Ok-judge_tree-clause-steps : goal.returns-in-Ok-judge_tree-clause-steps
returns-in-Ok-judge_tree-clause-steps g c =
    let i = c.self.inside in
    let e = c.args.edit.now in
    let F = formulation c.args.model.now c.in_ok-pool.pool in
    subst (λ (R : PlainSearch). c.judge_tree.new.steps ≤ c.args.steps.now + leaves_steps (touched_by R.model e) R.cuts F (region_leaves [] R.tree.root)) c.self.view_is
    (subst (λ (t : Option Touched). c.judge_tree.new.steps ≤ c.args.steps.now + leaves_steps t i.pool F (region_leaves [] i.tree.root)) c.touched_by-touched.ensures c.in-Ok-judge_tree.ensures.steps)

pub returns-then-is_quiet-clause-steps : goal.returns-then-is_quiet-clause-steps
returns-then-is_quiet-clause-steps g c = omega arith
