use Rattle.std.proofs.Common.{◌∙◌, sym, subst, true≢false}
use Rattle.lp_model.specs.Formulations.{Formulation, formulation}
use Rattle.spared_leaves.specs.declared.touched.Touched.{Touched}
use Rattle.spared_leaves.specs.Touched.{cost_touched, column_touched, leaves_list}
use Rattle.spared_leaves.specs.Alike.{AreAlikeBut}
use Rattle.spared_leaves.specs.Spared.{IsAbsent}
use Rattle.spared_leaves.proofs.SparedLeaf.{both-true}
use Rattle.leaf_judging.proofs.WayLemmas.{all-moved, named-way, absent-cost}
use Rattle.leaf_judging.proofs.former.Former.way_by.Goals as goal

pub returns-then-spares : goal.returns-then-spares
returns-then-spares c = λ alike.
    let F : Formulation = formulation c.args.model.now c.args.pool.now in
    all-moved c.args.touched.now c.args.self.now F c.args.kept.now (λ keeps. true≢false (sym (c.keeps_blocks.ensures.1 keeps) ∙ c.if-keeps_blocks.false)) alike.model

pub returns-then-not-leaves_lists : goal.returns-then-not-leaves_lists
returns-then-not-leaves_lists c = named-way c.args.touched.now c.args.self.now (formulation c.args.model.now c.args.pool.now) c.args.region.now c.args.kept.now c.named_way.result c.named_way.ensures

pub returns-else-has_column : goal.returns-else-has_column
returns-else-has_column c = λ alike.
    let t = c.args.touched.now in
    let M = c.args.self.now.model.now in
    let N = c.args.model.now in
    let is = c.in-OneCost.is in
    let left = both-true (leaves_list t c.rows.result.now c.rows-2.result.now c.as_slice-mult.result.now) (leaves_list t c.rows.result.now c.rows-2.result.now c.as_slice-farkas.result.now) (sym c.leaves_lists.ensures ∙ c.if-not-leaves_lists.false) in
    let absent = absent-cost c.in-OneCost.col M N (subst (λ (u : Touched). AreAlikeBut u M N) is alike.model) (λ has. true≢false (sym (c.has_column.ensures.1 has) ∙ c.if-has_column.false)) in
    let spares = c.spares.ensures.untouched left.0 left.1 (subst (λ (u : Touched). IsAbsent (cost_touched u) M N) (sym is) absent) (subst (λ (u : Touched). IsAbsent (column_touched u) M N) (sym is) tt) in
    absurd (true≢false (sym spares ∙ c.if-spares.false))
