use Rattle.std.specs.Prelude.{ℤ}
use Rattle.std.proofs.Common.{sym, subst, ◌∙◌}
use Rattle.frac128.proofs.ReadLemmas.{narrow_read}
use Rattle.inner_models.specs.Inner.{least2_model}
use Rattle.inner_models.proofs.CappedModels.{least2-value}
use Rattle.wcn_driver.specs.private.Ends.{IsLeastSecond}
use Rattle.wcn_driver.proofs.EndSteps.{least_second, least2_feasible}
use Rattle.wcn_driver.proofs.SettledParts.{certified_value}
use Rattle.wcn_driver.proofs.ends.second_least.Goals as goal

pub outcome_at-requires-clause-feasible : goal.outcome_at-requires-clause-feasible
outcome_at-requires-clause-feasible c =
    let t = c.args.task.now in
    least2_feasible t.base t.constant1 t.constant2 c.requires.task.base c.args.optimum.point c.requires.optimum.optimum

pub returns : goal.returns
returns c =
    let t = c.args.task.now in
    let o = c.args.optimum in
    let found = c.in-Some.ensures.has in
    let base = c.requires.task.base in
    let certified = certified_value (least2_model t.base) t.nodes o c.in-Some.outcome.f2 c.requires.optimum (least2-value t.base base.lawful base.bare o.point ∙ found.has.second) in
    subst (λ (k : ℤ). IsLeastSecond t (record { least = k; tree = c.front_tree.result; results = o.results })) (sym (narrow_read c.in-Some.outcome.f2 found.second))
    (record {
      least = least_second t.base t.constant1 t.constant2 base o.point c.in-Some.outcome.f2 c.requires.optimum.optimum found.has.second;
      narrow = found.second;
      named = c.front_tree.ensures.of;
      passes = c.front_tree.ensures.passes (least2_model t.base) c.in-Some.outcome.f2 certified;
      whole = c.front_tree.ensures.whole (least2_model t.base) c.in-Some.outcome.f2 certified;
      within = c.requires.optimum.within;
    })
