use Rattle.std.specs.Prelude.{◌&&◌}
use Rattle.std.proofs.Common.{◌∙◌, Option, sym, subst, true≢false}
use Rattle.lp_model.specs.declared.types.ColId.{ColId}
use Rattle.spared_leaves.specs.Touched.{leaves_list}
use Rattle.spared_leaves.specs.Spared.{KeepsCrossing, IsAbsent}
use Rattle.spared_leaves.proofs.SparedLeaf.{is-spared, both-true}
use Rattle.spared_leaves.proofs.spared.Change.spares.Goals as goal

pub returns-then-keeps_crossing-clause-spared : goal.returns-then-keeps_crossing-clause-spared
returns-then-keeps_crossing-clause-spared c = λ spares.
    let w = c.args.self.now in
    let region = c.args.region.now in
    let t = c.args.touched.now in
    let left = both-true (leaves_list t w.before.cuts.now w.after.cuts.now c.args.mult.now) (leaves_list t w.before.cuts.now w.after.cuts.now c.args.farkas.now) (sym c.leaves_lists.ensures ∙ c.if-leaves_lists.true) in
    is-spared t w.before.model.now w.after.model.now w.before.cuts.now w.after.cuts.now region c.args.mult.now c.args.farkas.now left.0 left.1
    (subst (λ (o : Option ColId). KeepsCrossing region o w.before.model.now w.after.model.now) c.column_touched.ensures (c.keeps_crossing.ensures.keeps c.if-keeps_crossing.true))
    (c.leaves_terms.ensures.lag spares) (c.leaves_terms.ensures.refuting spares)

pub returns-then-keeps_crossing-clause-untouched : goal.returns-then-keeps_crossing-clause-untouched
returns-then-keeps_crossing-clause-untouched c = λ mult farkas cost column. c.leaves_terms.ensures.absent cost column

pub returns-else-leaves_lists-clause-untouched : goal.returns-else-leaves_lists-clause-untouched
returns-else-leaves_lists-clause-untouched c = λ mult farkas cost column. absurd (true≢false (sym (sym c.if-leaves_lists.false ∙ c.leaves_lists.ensures ∙ (λ i. mult i && farkas i))))

pub returns-else-keeps_crossing-clause-untouched : goal.returns-else-keeps_crossing-clause-untouched
returns-else-keeps_crossing-clause-untouched c = λ mult farkas cost column.
    let w = c.args.self.now in
    let crosses = c.keeps_crossing.ensures.absent (subst (λ (o : Option ColId). IsAbsent o w.before.model.now w.after.model.now) (sym c.column_touched.ensures) column) in
    absurd (true≢false (sym crosses ∙ c.if-keeps_crossing.false))
