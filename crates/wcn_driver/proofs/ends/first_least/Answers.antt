use Rattle.std.specs.Prelude.{ℤ}
use Rattle.std.proofs.Common.{sym, subst}
use Rattle.frac128.proofs.ReadLemmas.{narrow_read}
use Rattle.wcn_driver.specs.private.Ends.{IsLeastFirst}
use Rattle.wcn_driver.proofs.EndSteps.{least_first}
use Rattle.wcn_driver.proofs.SettledParts.{certified_value}
use Rattle.wcn_driver.proofs.ends.first_least.Goals as goal

pub outcome_at-requires-clause-feasible : goal.outcome_at-requires-clause-feasible
outcome_at-requires-clause-feasible c = c.requires.optimum.optimum.feasible

pub returns : goal.returns
returns c =
    let t = c.args.task.now in
    let o = c.args.optimum in
    let found = c.in-Some.ensures.has in
    let certified = certified_value t.base t.nodes o c.in-Some.outcome.f1 c.requires.optimum found.has.first in
    subst (λ (k : ℤ). IsLeastFirst t (record { least = k; tree = c.front_tree.result; results = o.results })) (sym (narrow_read c.in-Some.outcome.f1 found.first))
    (record {
      least = least_first t.base t.constant1 t.constant2 c.requires.task.base o.point c.in-Some.outcome.f1 c.requires.optimum.optimum found.has.first;
      narrow = found.first;
      named = c.front_tree.ensures.of;
      passes = c.front_tree.ensures.passes t.base c.in-Some.outcome.f1 certified;
      whole = c.front_tree.ensures.whole t.base c.in-Some.outcome.f1 certified;
      within = c.requires.optimum.within;
    })
