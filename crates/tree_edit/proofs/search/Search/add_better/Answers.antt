use Rattle.std.proofs.Common.{◌≡◌, ◌∙◌, ◌++◌, ◌∷◌, [], List, refl, sym, subst, ap}
use Rattle.std.specs.Prelude.{Option}
use Rattle.frac128.specs.Rational.{ℚ}
use Rattle.branch_tree.specs.Leaves.{with_states}
use Rattle.branch_tree.specs.Numbered.{NumberedTree}
use Rattle.branch_tree.specs.Changes.{with_leaf_states}
use Rattle.leaf_judging.specs.declared.queue.LeafQueue.{LeafQueue}
use Rattle.lp_model.specs.Program.{Point}
use Rattle.leaf_judging.specs.Judged.{AreJudged, AreStates}
use Rattle.sound_searches.specs.Sound.{PlainSearch, formulation_of}
use Rattle.leaf_judging.specs.Queued.{IsQueueOf}
use Rattle.tree_edit.specs.Indexed.{IsIndexed}
use Rattle.search_parts.specs.Points.{target}
use Rattle.tree_edit.specs.private.PlacingSteps.{JoinsPoint}
use Rattle.sound_searches.specs.Placing.{TakesPoint}
use Rattle.search_parts.specs.Joining.{list_without}
use Rattle.tree_edit.proofs.PointTaken.{worst-within, kept-taken}
use Rattle.tree_edit.proofs.search.Search.add_better.Goals as goal

pub enter_point-requires : goal.enter_point-requires
enter_point-requires c =
    let i = c.self.inside in
    let S : PlainSearch = record { model = i.model; cuts = i.pool; tree = i.tree; points = i.points.items } in
    let joins : JoinsPoint S c.args.point c.args.joined = subst (λ (T : PlainSearch). JoinsPoint T c.args.point c.args.joined) (sym c.self.view_is) c.requires.joined in
    worst-within S c.args.point c.args.joined joins

pub put_marks-requires : goal.put_marks-requires
put_marks-requires c = (c.in-Ok.ensures.states c.self.inside.pool c.self.invariant.numbers_are).enough

pub invariant_of-self : goal.invariant_of-self
invariant_of-self c =
    let i = c.self.inside in
    let S : PlainSearch = record { model = i.model; cuts = i.pool; tree = i.tree; points = i.points.items } in
    let x = c.args.point in
    let j = c.args.joined in
    let joins : JoinsPoint S x j = subst (λ (T : PlainSearch). JoinsPoint T x j) (sym c.self.view_is) c.requires.joined in
    let states = c.in-Ok.marks.states.items in
    let queue = c.put_marks.new.queue in
    let judged : AreStates (formulation_of S) j.target S.tree.root states = c.in-Ok.ensures.states i.pool c.self.invariant.numbers_are in
    let queued : IsQueueOf (formulation_of S) (with_states states S.tree.root) queue = subst (λ (q : LeafQueue). IsQueueOf (formulation_of S) (with_states states S.tree.root) q) (sym c.put_marks.ensures.queue) (c.in-Ok.ensures.queue i.pool c.self.invariant.numbers_are) in
    let points : c.enter_point.new.points.items ≡ list_without (S.points ++ x ∷ []) j.worst = c.in-Ok-enter_point.ensures.put in
    let values = c.enter_point.new.values.items in
    subst (λ (T : NumberedTree). IsIndexed (record { model = i.model; cuts = i.pool; tree = T; points = c.enter_point.new.points.items }) values i.numbers queue) (sym c.put_marks.ensures.tree)
    (subst (λ (ps : List Point). IsIndexed (record { model = i.model; cuts = i.pool; tree = with_leaf_states i.tree states; points = ps }) values i.numbers queue) (sym points)
    (subst (λ (vs : List ℚ). IsIndexed (record { model = i.model; cuts = i.pool; tree = with_leaf_states i.tree states; points = list_without (S.points ++ x ∷ []) j.worst }) vs i.numbers queue) (sym c.in-Ok-enter_point.ensures.values)
    (kept-taken S i.values.items i.numbers i.queue queue x j states c.self.invariant joins judged queued)))

pub invariant_of-self-in-Err-enter_point : goal.invariant_of-self-in-Err-enter_point
invariant_of-self-in-Err-enter_point c =
    let i = c.self.inside in
    let S : PlainSearch = record { model = i.model; cuts = i.pool; tree = i.tree; points = i.points.items } in
    subst (λ (ps : List Point). IsIndexed (record { model = i.model; cuts = i.pool; tree = i.tree; points = ps }) c.enter_point.new.values.items i.numbers i.queue) (sym c.in-Err-enter_point.ensures.kept)
    (subst (λ (vs : List ℚ). IsIndexed S vs i.numbers i.queue) (sym c.in-Err-enter_point.ensures.same) c.self.invariant)

pub returns-in-Ok-enter_point-clause-taken : goal.returns-in-Ok-enter_point-clause-taken
returns-in-Ok-enter_point-clause-taken c =
    let i = c.self.inside in
    let S : PlainSearch = record { model = i.model; cuts = i.pool; tree = i.tree; points = i.points.items } in
    let x = c.args.point in
    let j = c.args.joined in
    let joins : JoinsPoint S x j = subst (λ (T : PlainSearch). JoinsPoint T x j) (sym c.self.view_is) c.requires.joined in
    let states = c.in-Ok.marks.states.items in
    let judged : AreStates (formulation_of S) j.target S.tree.root states = c.in-Ok.ensures.states i.pool c.self.invariant.numbers_are in
    let points : c.enter_point.new.points.items ≡ list_without (S.points ++ x ∷ []) j.worst = c.in-Ok-enter_point.ensures.put in
    let new : PlainSearch = record { model = i.model; cuts = i.pool; tree = c.put_marks.new.tree; points = c.enter_point.new.points.items } in
    let best : j.target ≡ target S.model new.points = joins.target_is ∙ ap (target S.model) (sym points) in
    subst (λ (T : PlainSearch). TakesPoint T x new) c.self.view_is (record {
      model = refl;
      cuts = refl;
      points = (j.worst, (joins.worst, points));
      tree = record {
        states = states;
        tree = c.put_marks.ensures.tree;
        judged = subst (λ (T : NumberedTree). AreJudged (formulation_of S) (target S.model new.points) T.root) (sym c.put_marks.ensures.tree)
            (subst (λ (t : Option ℚ). AreJudged (formulation_of S) t (with_states states S.tree.root)) best judged.judged);
      };
    })

pub returns-in-Ok-enter_point-clause-target : goal.returns-in-Ok-enter_point-clause-target
returns-in-Ok-enter_point-clause-target c =
    let i = c.self.inside in
    let S : PlainSearch = record { model = i.model; cuts = i.pool; tree = i.tree; points = i.points.items } in
    let x = c.args.point in
    let j = c.args.joined in
    let joins : JoinsPoint S x j = subst (λ (T : PlainSearch). JoinsPoint T x j) (sym c.self.view_is) c.requires.joined in
    let points : c.enter_point.new.points.items ≡ list_without (S.points ++ x ∷ []) j.worst = c.in-Ok-enter_point.ensures.put in
    ap (target S.model) points ∙ sym joins.target_is
