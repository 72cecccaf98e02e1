use Rattle.std.specs.Prelude.{◌<◌, ◌≤◌, length}
use Rattle.std.proofs.Common.{rules, ap, ◌∙◌, arith}
use Rattle.tree_manager.specs.Managers.{kept_holding}
use Rattle.tree_manager.proofs.MapLemmas.{mapped-step, mapped-all}
use Rattle.tree_manager.proofs.holding.keep_open.Goals as goal

pub loop-worker-preserved : goal.loop-worker-preserved
loop-worker-preserved c =
    let below : c.loop-worker.worker < length c.args.held.now.items = first_of (search rules, first_of (omega (arith, c.loop-worker-test.true, c.len-worker-end.ensures, c.args.held.now.ok.0), grind arith)) in
    mapped-step (kept_holding c.args.search.now) c.args.held.now.items c.loop-worker.worker c.index.result.now below c.loop-worker.held.items c.kept_holding.result c.loop-worker.invariant
    (c.kept_holding.ensures ∙ ap (kept_holding c.args.search.now) c.index.ensures)

pub returns : goal.returns
returns c =
    let past : length c.args.held.now.items ≤ c.loop-worker.worker = first_of (search rules, first_of (omega (arith, c.loop-worker-test.false, c.len-worker-end.ensures, c.args.held.now.ok.0), grind arith)) in
    c.loop-worker.invariant ∙ mapped-all (kept_holding c.args.search.now) c.args.held.now.items c.loop-worker.worker past
