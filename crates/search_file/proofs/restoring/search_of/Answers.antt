use Rattle.std.proofs.Common.{◌∙◌, sym, subst, ap, length, map, arith}
use Rattle.std.specs.Prelude.{All, IfOk, Result, Ok, Err}
use Rattle.std.proofs.lemmas.List.Elements.{All-weaker}
use Rattle.lp_model.specs.Formulations.{formulation}
use Rattle.branch_tree.specs.Numbered.{NumberedTree}
use Rattle.branch_tree.specs.Preorder.{data_nodes}
use Rattle.kept_cuts.specs.Kept.{derivations_of}
use Rattle.leaf_judging.specs.Judged.{JudgesAll}
use Rattle.search_parts.specs.Points.{target}
use Rattle.sound_searches.specs.Sound.{PlainSearch, IsSoundTree}
use Rattle.search_parts.specs.EditedPoints.{AreKeepable}
use Rattle.sound_searches.specs.Parts.{IsOfParts}
use Rattle.search_file.specs.Saved.{uncounted, stated_formulation, IsRestorableNode, Restores}
use Rattle.search_file.proofs.TreeLemmas.{stated-many, restorable-same, restored-sound}
use Rattle.search_file.proofs.restoring.search_of.Goals as goal

pub of_parts-requires-clause-pool : goal.of_parts-requires-clause-pool
of_parts-requires-clause-pool c = c.in-Ok.ensures.pool.pool

pub of_parts-requires-clause-tree : goal.of_parts-requires-clause-tree
of_parts-requires-clause-tree c =
    let s = c.args.stated in
    let pool = c.in-Ok.pool in
    let (t, is) = c.requires.tree in
    let many = stated-many s.model s.cuts pool c.in-Ok.ensures.pool in
    let stated : All (IsRestorableNode (stated_formulation s)) (data_nodes t) = subst (All (IsRestorableNode (stated_formulation s))) (sym is) c.requires.nodes in
    let nodes : All (IsRestorableNode (formulation s.model pool)) (data_nodes t) = All-weaker (IsRestorableNode (stated_formulation s)) (IsRestorableNode (formulation s.model pool)) (restorable-same s.model (map uncounted s.cuts) pool many) (data_nodes t) stated in
    subst (λ (T : NumberedTree). IsSoundTree (formulation s.model pool) T.root) (sym (c.in-Ok.ensures.tree t is)) (restored-sound (formulation s.model pool) t nodes)

pub of_parts-requires-clause-few : goal.of_parts-requires-clause-few
of_parts-requires-clause-few c = let e = ap length c.as_slice.ensures in omega (arith, e, c.requires.few_points)

if_ok : {A E : Type 0} {P Q : A → Type 0} (r : Result A E) → ((a : A) → P a → Q a) → IfOk r P → IfOk r Q
if_ok (Ok a) w h = w a h
if_ok (Err e) w h = h

pub returns-in-Ok : goal.returns-in-Ok
returns-in-Ok c =
    let s = c.args.stated in
    let pool = c.in-Ok.pool in
    let tree = c.in-Ok.tree in
    let points = c.as_slice.result.now in
    if_ok {P = λ (S : PlainSearch). IsOfParts s.model pool tree points S} {Q = λ (S : PlainSearch). Restores s S} c.of_parts.result
    (λ S made. record {
      model = made.parts.model;
      cuts = ap derivations_of made.parts.cuts_are ∙ c.in-Ok.ensures.pool.derivations;
      points = subst (λ P. P) (λ j. AreKeepable s.model (c.as_slice.ensures j) (sym made.parts.points_are j)) made.keepable;
      tree = λ t is. subst (λ P. P) (λ j. JudgesAll (formulation (sym made.parts.model j) (sym made.parts.cuts_are j)) (target (sym made.parts.model j) (sym made.parts.points_are j)) (c.in-Ok.ensures.tree t is j) S.tree) made.parts.tree;
    }) c.of_parts.ensures
