use Rattle.std.specs.Prelude.{◌≡◌, length, take, true, false}
use Rattle.std.proofs.Common.{refl}
use Rattle.frac128.specs.Rational.{◌<ℚ◌}
use Rattle.front_sweeps.specs.Steps.{width_between, gap_between}
use Rattle.wcn_driver.proofs.GapEnds.{width_certified, gap_closed, held_feasible, held_long, gap_held, gap_halts}
use Rattle.wcn_driver.proofs.gaps.judge_gap.Goals as goal

pub returns-then-not-is_below-clause-found : goal.returns-then-not-is_below-clause-found
returns-then-not-is_below-clause-found c =
    let t = c.args.task.now in
    let gap = c.args.gap.now in
    let o = c.args.optimum in
    let width = c.args.width.now in
    let over : ¬ (o.value <ℚ width) = λ less.
    let yes : c.is_below.result ≡ true = c.is_below.ensures.1 less in
    let no : c.is_below.result ≡ false = c.if-not-is_below.true in
    cc in
    let certified = width_certified t c.requires.task.base gap c.requires.gap o c.requires.optimum width c.requires.width over in
    let target = width_between gap.least1 gap.least2 gap.p gap.q in
    let model = gap_between t.base gap.least1 gap.least2 gap.p gap.q in (
      gap_closed t c.requires.task.base gap c.requires.gap o c.requires.optimum width c.requires.width c.front_tree-tree.result over c.front_tree-tree.ensures.of c.requires.fits
          (c.front_tree-tree.ensures.passes model target certified) (c.front_tree-tree.ensures.whole model target certified),
      c.requires.optimum.within,
    )

pub held_outcome-held-requires-clause-long : goal.held_outcome-held-requires-clause-long
held_outcome-held-requires-clause-long c =
    held_long c.args.task.now c.requires.task.base c.args.gap.now c.requires.gap c.args.optimum c.requires.optimum c.args.width.now c.requires.width (c.is_below.ensures.0 c.if-not-is_below.false)

pub held_outcome-held-requires-clause-feasible : goal.held_outcome-held-requires-clause-feasible
held_outcome-held-requires-clause-feasible c =
    held_feasible c.args.task.now c.requires.task.base c.args.gap.now c.requires.gap c.args.optimum c.requires.optimum c.args.width.now c.requires.width (c.is_below.ensures.0 c.if-not-is_below.false)

pub returns-in-Ok-clause-found : goal.returns-in-Ok-clause-found
returns-in-Ok-clause-found c =
    let t = c.args.task.now in
    let o = c.args.optimum in (
      gap_held t c.requires.task.base c.args.gap.now c.requires.gap o c.requires.optimum c.args.width.now c.requires.width (take (length t.base.cols) o.point) c.in-Ok.outcome
          (c.is_below.ensures.0 c.if-not-is_below.false) refl c.in-Ok.ensures.has,
      c.requires.optimum.within,
    )

pub returns-in-Err-clause-wide : goal.returns-in-Err-clause-wide
returns-in-Err-clause-wide c =
    gap_halts c.args.task.now c.requires.task.base c.args.gap.now c.requires.gap c.args.optimum c.requires.optimum c.args.width.now c.requires.width c.requires.fits c.in-Err.halt c.in-Err.ensures.halt
