use Rattle.std.specs.Prelude.{◌<◌, ◌≤◌, length, get_or, None}
use Rattle.std.proofs.Common.{rules, sym, ap, ◌∙◌, arith}
use Rattle.std.proofs.lemmas.List.{get_or_default}
use Rattle.tree_manager.specs.Managers.{kept_holding}
use Rattle.tree_manager.proofs.MapLemmas.{mapped-at, mapped-step, mapped-all}
use Rattle.tree_manager.proofs.holding.keep_others.Goals as goal

pub kept_other-requires : goal.kept_other-requires
kept_other-requires c =
    let below : c.loop-worker.worker < length c.args.held.now.items = first_of (search rules, first_of (omega (arith, c.loop-worker-test.true, c.len-worker-end.ensures, c.args.held.now.ok.0), grind arith)) in
    λ k e other.
    c.requires c.loop-worker.worker k
    (get_or_default c.args.held.now.items c.loop-worker.worker None c.index.result.now below
    ∙ sym (c.index.ensures ∙ ap (λ l. get_or l c.loop-worker.worker c.index.result.now) c.loop-worker.invariant ∙ mapped-at (kept_holding c.args.search.now) c.args.held.now.items c.loop-worker.worker c.index.result.now below)
    ∙ e)
    other

pub loop-worker-preserved : goal.loop-worker-preserved
loop-worker-preserved c =
    let below : c.loop-worker.worker < length c.args.held.now.items = first_of (search rules, first_of (omega (arith, c.loop-worker-test.true, c.len-worker-end.ensures, c.args.held.now.ok.0), grind arith)) in
    mapped-step (kept_holding c.args.search.now) c.args.held.now.items c.loop-worker.worker c.index.result.now below c.loop-worker.held.items c.kept_other.result c.loop-worker.invariant
    (c.kept_other.ensures ∙ ap (kept_holding c.args.search.now) c.index.ensures)

pub returns : goal.returns
returns c =
    let past : length c.args.held.now.items ≤ c.loop-worker.worker = first_of (search rules, first_of (omega (arith, c.loop-worker-test.false, c.len-worker-end.ensures, c.args.held.now.ok.0), grind arith)) in
    c.loop-worker.invariant ∙ mapped-all (kept_holding c.args.search.now) c.args.held.now.items c.loop-worker.worker past
