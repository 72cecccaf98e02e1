use Rattle.std.specs.Prelude.{◌<◌, ◌≤◌, length, set, None}
use Rattle.std.proofs.Common.{rules, ap, ◌∙◌, arith}
use Rattle.std.proofs.lemmas.List.{set-set}
use Rattle.tree_manager.proofs.MapLemmas.{mapped-step, mapped-all}
use Rattle.tree_search.specs.Turns.{kept_job}
use Rattle.tree_search.proofs.crew.keep_jobs.Goals as goal

pub loop-worker-preserved : goal.loop-worker-preserved
loop-worker-preserved c =
    let S = c.args.manager.now.search in
    let w = c.loop-worker.worker in
    let xs = c.loop-worker.jobs.items in
    let below : w < length c.args.jobs.now.items = first_of (search rules, first_of (omega (arith, c.loop-worker-test.true, c.len-worker-end.ensures, c.args.jobs.now.ok.0), grind arith)) in
    ap (λ l. set l w c.kept_job.result) c.take_job-job.ensures.rest ∙ set-set xs w None c.kept_job.result
    ∙ mapped-step (kept_job S) c.args.jobs.now.items w None below xs c.kept_job.result c.loop-worker.invariant (c.kept_job.ensures ∙ ap (kept_job S) c.take_job-job.ensures.job)

pub returns : goal.returns
returns c =
    let past : length c.args.jobs.now.items ≤ c.loop-worker.worker = first_of (search rules, first_of (omega (arith, c.loop-worker-test.false, c.len-worker-end.ensures, c.args.jobs.now.ok.0), grind arith)) in
    c.loop-worker.invariant ∙ mapped-all (kept_job c.args.manager.now.search) c.args.jobs.now.items c.loop-worker.worker past
