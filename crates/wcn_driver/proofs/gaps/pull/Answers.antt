use Rattle.std.specs.Prelude.{◌≡◌}
use Rattle.std.proofs.Common.{◌∙◌, ap}
use Rattle.std.proofs.lemmas.Result.{IfOk-weaker, IfErr-weaker}
use Rattle.frac128.specs.Rational.{int}
use Rattle.frac128.proofs.ReadLemmas.{narrow_read}
use Rattle.inner_models.specs.Inner.{pull_model}
use Rattle.wcn_driver.specs.declared.answers.Part.TheVariants.{Pull}
use Rattle.wcn_driver.specs.private.Kept.{Stays}
use Rattle.wcn_driver.specs.private.Settled.{IsHalt}
use Rattle.wcn_driver.specs.private.Ends.{IsSettledFound, IsSettledHalt}
use Rattle.wcn_driver.specs.private.Gaps.{IsPulled}
use Rattle.wcn_driver.proofs.GapEnds.{pull_some}
use Rattle.wcn_driver.proofs.EndHalts.{stays_where_ok, stays_where_err}
use Rattle.wcn_driver.proofs.WholeParts.{pull_whole}
use Rattle.wcn_driver.proofs.SettledParts.{settling, counting}
use Rattle.wcn_driver.proofs.FoundEnds.{pull_judges, pull_ends, pull_halts}
use Rattle.wcn_driver.proofs.gaps.pull.Goals as goal

pub settled_found-requires-clause-can : goal.settled_found-requires-clause-can
settled_found-requires-clause-can g c =
    let e = c.args.task.now in
    let r = c.args.outcome.now in
    let base = c.requires.task.base in
    let some = c.requires.some in
    let most1 : c.of_whole-most1.result ≡ int r.f1 = c.of_whole-most1.ensures ∙ ap int (narrow_read r.f1 c.requires.first) in
    let most2 : c.of_whole-most2.result ≡ int r.f2 = c.of_whole-most2.ensures ∙ ap int (narrow_read r.f2 c.requires.second) in
    settling (g.S.Solver.stops c.args.solver.now) (pull_model e.base r.f1 r.f2) e.nodes c.args.before c.in-Ok-solved.solved (c.in-Ok-solved.ensures.solved r.f1 r.f2 most1 most2) c.requires.before
    (pull_some e.base base r some.0 some.1.0 some.1.1) (pull_whole e.base base.first base.second r.f1 r.f2)

pub settled_found-requires-clause-count : goal.settled_found-requires-clause-count
settled_found-requires-clause-count g c =
    let e = c.args.task.now in
    let r = c.args.outcome.now in
    let most1 : c.of_whole-most1.result ≡ int r.f1 = c.of_whole-most1.ensures ∙ ap int (narrow_read r.f1 c.requires.first) in
    let most2 : c.of_whole-most2.result ≡ int r.f2 = c.of_whole-most2.ensures ∙ ap int (narrow_read r.f2 c.requires.second) in
    counting (g.S.Solver.stops c.args.solver.now) (pull_model e.base r.f1 r.f2) e.nodes c.args.before c.in-Ok-solved.solved (c.in-Ok-solved.ensures.solved r.f1 r.f2 most1 most2) c.requires.before c.requires.task.few

pub settled_found-requires-clause-judged : goal.settled_found-requires-clause-judged
settled_found-requires-clause-judged g c =
    let r = c.args.outcome.now in
    let some = c.requires.some in
    let most1 : c.of_whole-most1.result ≡ int r.f1 = c.of_whole-most1.ensures ∙ ap int (narrow_read r.f1 c.requires.first) in
    let most2 : c.of_whole-most2.result ≡ int r.f2 = c.of_whole-most2.ensures ∙ ap int (narrow_read r.f2 c.requires.second) in
    pull_judges (g.S.Solver.stops c.args.solver.now) c.args.task.now c.requires.task.base c.args.before c.in-Ok-solved.solved c.requires.before r some.0 some.1.0 some.1.1
    (c.in-Ok-solved.ensures.solved r.f1 r.f2 most1 most2)

pub returns-in-Ok-solved-clause-kept : goal.returns-in-Ok-solved-clause-kept
returns-in-Ok-solved-clause-kept g c =
    stays_where_ok c.settled_found.result (Stays c.args.task.now.base (g.S.Solver.program c.solve_pull-solved.new.solver) (g.S.Solver.stops c.solve_pull-solved.new.solver) (g.S.Solver.stops c.args.solver.now))
    (record { recosted = c.in-Ok-solved.ensures.kept; steady = c.in-Ok-solved.ensures.steady })

pub returns-in-Ok-solved-clause-halted : goal.returns-in-Ok-solved-clause-halted
returns-in-Ok-solved-clause-halted g c =
    stays_where_err c.settled_found.result (Stays c.args.task.now.base (g.S.Solver.program c.solve_pull-solved.new.solver) (g.S.Solver.stops c.solve_pull-solved.new.solver) (g.S.Solver.stops c.args.solver.now))
    (record { recosted = c.in-Ok-solved.ensures.kept; steady = c.in-Ok-solved.ensures.steady })

pub returns-in-Ok-solved-clause-found : goal.returns-in-Ok-solved-clause-found
returns-in-Ok-solved-clause-found g c =
    let e = c.args.task.now in
    let r = c.args.outcome.now in
    let some = c.requires.some in
    let most1 : c.of_whole-most1.result ≡ int r.f1 = c.of_whole-most1.ensures ∙ ap int (narrow_read r.f1 c.requires.first) in
    let most2 : c.of_whole-most2.result ≡ int r.f2 = c.of_whole-most2.ensures ∙ ap int (narrow_read r.f2 c.requires.second) in
    IfOk-weaker c.settled_found.result (IsSettledFound e c.args.before c.in-Ok-solved.solved) (IsPulled e r)
    (pull_ends (g.S.Solver.stops c.args.solver.now) e c.requires.task.base c.args.before c.in-Ok-solved.solved c.requires.before r some.0 some.1.0 some.1.1
    (c.in-Ok-solved.ensures.solved r.f1 r.f2 most1 most2))
    c.settled_found.ensures.found

pub returns-in-Ok-solved-clause-halt : goal.returns-in-Ok-solved-clause-halt
returns-in-Ok-solved-clause-halt g c = λ i1 i2.
    let e = c.args.task.now in
    let r = c.args.outcome.now in
    let some = c.requires.some in
    let most1 : c.of_whole-most1.result ≡ int r.f1 = c.of_whole-most1.ensures ∙ ap int (narrow_read r.f1 c.requires.first) in
    let most2 : c.of_whole-most2.result ≡ int r.f2 = c.of_whole-most2.ensures ∙ ap int (narrow_read r.f2 c.requires.second) in
    IfErr-weaker c.settled_found.result (IsSettledHalt e c.args.before c.in-Ok-solved.solved) (IsHalt (g.S.Solver.stops c.args.solver.now) e.base e.nodes e.constant1 e.constant2 i1 i2 (Pull r))
    (pull_halts (g.S.Solver.stops c.args.solver.now) e c.requires.task.base c.args.before c.in-Ok-solved.solved c.requires.before r some.0 some.1.0 some.1.1
    (c.in-Ok-solved.ensures.solved r.f1 r.f2 most1 most2) c.in-Ok.ensures.fit i1 i2)
    c.settled_found.ensures.halt

pub solve_pull-solved-requires-clause-old : goal.solve_pull-solved-requires-clause-old
solve_pull-solved-requires-clause-old g c = c.requires.old

pub solve_pull-solved-requires-clause-wide : goal.solve_pull-solved-requires-clause-wide
solve_pull-solved-requires-clause-wide g c = c.requires.task.base.bare.wide

pub solve_pull-solved-requires-clause-room : goal.solve_pull-solved-requires-clause-room
solve_pull-solved-requires-clause-room g c = c.requires.task.room

pub settled_found-requires-clause-task : goal.settled_found-requires-clause-task
settled_found-requires-clause-task g c = c.requires.task

pub returns-in-Err-Wide-clause-kept : goal.returns-in-Err-Wide-clause-kept
returns-in-Err-Wide-clause-kept g c = tt

pub returns-in-Err-Wide-clause-halted : goal.returns-in-Err-Wide-clause-halted
returns-in-Err-Wide-clause-halted g c = record { recosted = c.requires.old; steady = λ M n answer stop. stop }

pub returns-in-Err-Wide-clause-found : goal.returns-in-Err-Wide-clause-found
returns-in-Err-Wide-clause-found g c = tt

pub returns-in-Err-Memory-clause-kept : goal.returns-in-Err-Memory-clause-kept
returns-in-Err-Memory-clause-kept g c = tt

pub returns-in-Err-Memory-clause-halted : goal.returns-in-Err-Memory-clause-halted
returns-in-Err-Memory-clause-halted g c = tt

pub returns-in-Err-Memory-clause-found : goal.returns-in-Err-Memory-clause-found
returns-in-Err-Memory-clause-found g c = tt

pub returns-in-Err-Memory-clause-halt : goal.returns-in-Err-Memory-clause-halt
returns-in-Err-Memory-clause-halt g c = λ i1 i2. tt

pub returns-in-Err-clause-kept : goal.returns-in-Err-clause-kept
returns-in-Err-clause-kept g c = tt

pub returns-in-Err-clause-halted : goal.returns-in-Err-clause-halted
returns-in-Err-clause-halted g c = tt

pub returns-in-Err-clause-found : goal.returns-in-Err-clause-found
returns-in-Err-clause-found g c = tt

pub returns-in-Err-clause-halt : goal.returns-in-Err-clause-halt
returns-in-Err-clause-halt g c = λ i1 i2. tt
