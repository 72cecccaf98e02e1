use Rattle.std.proofs.Common.{◌≡◌, ◌∙◌, List, OnOk, OnErr, ap, sym, subst}
use Rattle.std.proofs.lemmas.Result.{on_ok_weaker, on_err_weaker}
use Rattle.lp_model.specs.Program.{Point}
use Rattle.sound_searches.specs.Sound.{PlainSearch}
use Rattle.search_parts.specs.Points.{target}
use Rattle.tree_edit.specs.private.PlacingSteps.{JoinsPoint}
use Rattle.sound_searches.specs.Placing.{TakesPoint}
use Rattle.tree_edit.proofs.PointTaken.{worst-within, kept-entered, taken-added}
use Rattle.tree_edit.proofs.search.Search.add_point.Goals as goal

pub enter_point-requires : goal.enter_point-requires
enter_point-requires c =
    let i = c.self.inside in
    let S : PlainSearch = record { model = i.model; cuts = i.pool; tree = i.tree; points = i.points.items } in
    let joins : JoinsPoint S c.args.point c.args.joined = subst (λ (T : PlainSearch). JoinsPoint T c.args.point c.args.joined) (sym c.self.view_is) c.requires.joined in
    worst-within S c.args.point c.args.joined joins

pub invariant_of-self : goal.invariant_of-self
invariant_of-self c =
    let i = c.self.inside in
    let S : PlainSearch = record { model = i.model; cuts = i.pool; tree = i.tree; points = i.points.items } in
    let x = c.args.point in
    let j = c.args.joined in
    let joins : JoinsPoint S x j = subst (λ (T : PlainSearch). JoinsPoint T x j) (sym c.self.view_is) c.requires.joined in
    let same : j.target ≡ target S.model S.points = subst (λ (T : PlainSearch). j.target ≡ target T.model T.points) (sym c.self.view_is) c.requires.same in
    let e = c.enter_point.ensures in
    kept-entered S i.values.items i.numbers i.queue x j c.self.invariant joins same c.enter_point.result c.enter_point.new.points.items c.enter_point.new.values.items e.put e.values e.kept e.same

pub returns-clause-taken : goal.returns-clause-taken
returns-clause-taken c =
    let i = c.self.inside in
    let S : PlainSearch = record { model = i.model; cuts = i.pool; tree = i.tree; points = i.points.items } in
    let x = c.args.point in
    let j = c.args.joined in
    let joins : JoinsPoint S x j = subst (λ (T : PlainSearch). JoinsPoint T x j) (sym c.self.view_is) c.requires.joined in
    let same : j.target ≡ target S.model S.points = subst (λ (T : PlainSearch). j.target ≡ target T.model T.points) (sym c.self.view_is) c.requires.same in
    subst (λ (T : PlainSearch). OnOk c.enter_point.result (TakesPoint T x (record { model = i.model; cuts = i.pool; tree = i.tree; points = c.enter_point.new.points.items }))) c.self.view_is
    (on_ok_weaker c.enter_point.result
    (λ points. subst (λ (ps : List Point). TakesPoint S x (record { model = i.model; cuts = i.pool; tree = i.tree; points = ps })) (sym points) (taken-added S i.values.items i.numbers i.queue x j c.self.invariant joins same))
    c.enter_point.ensures.put)

pub returns-clause-target : goal.returns-clause-target
returns-clause-target c =
    let i = c.self.inside in
    let S : PlainSearch = record { model = i.model; cuts = i.pool; tree = i.tree; points = i.points.items } in
    let x = c.args.point in
    let j = c.args.joined in
    let joins : JoinsPoint S x j = subst (λ (T : PlainSearch). JoinsPoint T x j) (sym c.self.view_is) c.requires.joined in
    on_ok_weaker c.enter_point.result (λ points. ap (target i.model) points ∙ sym joins.target_is) c.enter_point.ensures.put

pub returns-clause-kept : goal.returns-clause-kept
returns-clause-kept c =
    let i = c.self.inside in
    let S : PlainSearch = record { model = i.model; cuts = i.pool; tree = i.tree; points = i.points.items } in
    let new : PlainSearch = record { model = i.model; cuts = i.pool; tree = i.tree; points = c.enter_point.new.points.items } in
    let same : OnErr c.enter_point.result (new ≡ S) = on_err_weaker c.enter_point.result (λ points. ap (λ (ps : List Point). let T : PlainSearch = record { model = i.model; cuts = i.pool; tree = i.tree; points = ps } in T) points) c.enter_point.ensures.kept in
    subst (λ (T : PlainSearch). OnErr c.enter_point.result (new ≡ T)) c.self.view_is same
