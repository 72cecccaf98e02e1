use Rattle.std.specs.Prelude.{◌≡◌, pos}
use Rattle.std.proofs.Common.{◌∙◌, ap}
use Rattle.std.proofs.lemmas.Result.{IfOk-weaker, IfErr-weaker}
use Rattle.frac128.specs.Rational.{int}
use Rattle.frac128.proofs.ReadLemmas.{narrow_read}
use Rattle.inner_models.specs.Inner.{right_model}
use Rattle.wcn_driver.specs.declared.answers.Part.TheVariants.{Right}
use Rattle.wcn_driver.specs.private.Kept.{Stays}
use Rattle.wcn_driver.specs.private.Settled.{IsHalt}
use Rattle.wcn_driver.specs.private.Ends.{IsRightEnd, IsSettledFound, IsSettledHalt}
use Rattle.wcn_driver.proofs.EndSteps.{right_some}
use Rattle.wcn_driver.proofs.EndHalts.{stays_where_ok, stays_where_err}
use Rattle.wcn_driver.proofs.WholeParts.{right_whole}
use Rattle.wcn_driver.proofs.SettledParts.{settling, counting}
use Rattle.wcn_driver.proofs.FoundEnds.{right_judges, right_ends, right_halts}
use Rattle.wcn_driver.proofs.ends.right_end.Goals as goal

pub settled_found-requires-clause-can : goal.settled_found-requires-clause-can
settled_found-requires-clause-can g c =
    let e = c.args.task.now in
    let base = c.requires.task.base in
    let most : c.of_whole-most.result ≡ int c.args.least = c.of_whole-most.ensures ∙ ap int (narrow_read c.args.least c.requires.narrow) in
    settling (g.S.Solver.stops c.args.solver.now) (right_model e.base c.args.least) e.nodes c.args.before c.in-Ok.solved (c.in-Ok.ensures.solved c.args.least most) c.requires.before
    (right_some e.base e.constant1 e.constant2 base c.args.least c.requires.least) (right_whole e.base base.first base.second c.args.least)

pub settled_found-requires-clause-count : goal.settled_found-requires-clause-count
settled_found-requires-clause-count g c =
    let e = c.args.task.now in
    let most : c.of_whole-most.result ≡ int c.args.least = c.of_whole-most.ensures ∙ ap int (narrow_read c.args.least c.requires.narrow) in
    counting (g.S.Solver.stops c.args.solver.now) (right_model e.base c.args.least) e.nodes c.args.before c.in-Ok.solved (c.in-Ok.ensures.solved c.args.least most) c.requires.before c.requires.task.few

pub settled_found-requires-clause-judged : goal.settled_found-requires-clause-judged
settled_found-requires-clause-judged g c =
    let most : c.of_whole-most.result ≡ int c.args.least = c.of_whole-most.ensures ∙ ap int (narrow_read c.args.least c.requires.narrow) in
    right_judges (g.S.Solver.stops c.args.solver.now) c.args.task.now c.requires.task.base c.args.before c.in-Ok.solved c.requires.before c.args.least c.requires.least (c.in-Ok.ensures.solved c.args.least most)

pub returns-clause-kept : goal.returns-clause-kept
returns-clause-kept g c =
    stays_where_ok c.settled_found.result (Stays c.args.task.now.base (g.S.Solver.program c.solve_right.new.solver) (g.S.Solver.stops c.solve_right.new.solver) (g.S.Solver.stops c.args.solver.now))
    (record { recosted = c.in-Ok.ensures.kept; steady = c.in-Ok.ensures.steady })

pub returns-clause-halted : goal.returns-clause-halted
returns-clause-halted g c =
    stays_where_err c.settled_found.result (Stays c.args.task.now.base (g.S.Solver.program c.solve_right.new.solver) (g.S.Solver.stops c.solve_right.new.solver) (g.S.Solver.stops c.args.solver.now))
    (record { recosted = c.in-Ok.ensures.kept; steady = c.in-Ok.ensures.steady })

pub returns-clause-found : goal.returns-clause-found
returns-clause-found g c =
    let e = c.args.task.now in
    let most : c.of_whole-most.result ≡ int c.args.least = c.of_whole-most.ensures ∙ ap int (narrow_read c.args.least c.requires.narrow) in
    IfOk-weaker c.settled_found.result (IsSettledFound e c.args.before c.in-Ok.solved) (IsRightEnd e c.args.least)
    (right_ends (g.S.Solver.stops c.args.solver.now) e c.requires.task.base c.args.before c.in-Ok.solved c.requires.before c.args.least c.requires.least (c.in-Ok.ensures.solved c.args.least most))
    c.settled_found.ensures.found

pub returns-clause-halt : goal.returns-clause-halt
returns-clause-halt g c =
    let e = c.args.task.now in
    let most : c.of_whole-most.result ≡ int c.args.least = c.of_whole-most.ensures ∙ ap int (narrow_read c.args.least c.requires.narrow) in
    IfErr-weaker c.settled_found.result (IsSettledHalt e c.args.before c.in-Ok.solved)
    (IsHalt (g.S.Solver.stops c.args.solver.now) e.base e.nodes e.constant1 e.constant2 (pos 0) c.args.least Right)
    (right_halts (g.S.Solver.stops c.args.solver.now) e c.requires.task.base c.args.before c.in-Ok.solved c.requires.before c.args.least c.requires.least (c.in-Ok.ensures.solved c.args.least most))
    c.settled_found.ensures.halt
