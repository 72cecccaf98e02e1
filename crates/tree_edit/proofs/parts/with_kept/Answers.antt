use Rattle.std.proofs.Common.{List, subst}
use Rattle.frac128.specs.Rational.{ℚ}
use Rattle.search_parts.specs.Joining.{IsLeastValue}
use Rattle.tree_edit.proofs.EditedSearch.{kept-parts, has-parts}
use Rattle.tree_edit.proofs.parts.with_kept.Goals as goal

pub invariant_of-result : goal.invariant_of-result
invariant_of-result g c =
    let kept = c.args.kept in
    let least = subst (λ (vs : List ℚ). IsLeastValue vs c.least_of-target.result) c.deref.ensures.value c.least_of-target.ensures in
    kept-parts c.args.model c.args.pool c.args.tree c.judge_all.new.tree kept.points.items kept.values.items c.least_of-target.result c.requires.values least c.in-Ok.ensures.judged c.in-Ok.index.numbers c.in-Ok.index.queue c.requires.tree c.requires.points c.requires.few c.requires.pool c.rows-few.ensures.few c.in-Ok.ensures.numbers c.in-Ok.ensures.queue

pub returns-in-Ok-clause-parts : goal.returns-in-Ok-clause-parts
returns-in-Ok-clause-parts g c =
    let kept = c.args.kept in
    let least = subst (λ (vs : List ℚ). IsLeastValue vs c.least_of-target.result) c.deref.ensures.value c.least_of-target.ensures in
    has-parts c.args.model c.args.pool c.args.tree c.judge_all.new.tree kept.points.items kept.values.items c.least_of-target.result c.requires.values least c.in-Ok.ensures.judged
