use Rattle.std.specs.Prelude.{◌-ℤ◌}
use Rattle.std.proofs.Common.{subst}
use Rattle.std.proofs.lemmas.Result.{IfErr-weaker}
use Rattle.frac128.proofs.ReadLemmas.{narrow_read}
use Rattle.gap_models.specs.Gaps.{IsGapOf, FitsGap, IsFirstGapPlace}
use Rattle.front_sweeps.specs.Steps.{gap_between}
use Rattle.wcn_driver.specs.declared.answers.Part.TheVariants.{Gap}
use Rattle.wcn_driver.specs.private.Kept.{Stays}
use Rattle.wcn_driver.proofs.Outcomes.{narrow_again}
use Rattle.wcn_driver.proofs.GapEnds.{gap_some, gap_place, wide_halt}
use Rattle.wcn_driver.proofs.EndHalts.{unless_memory, stays_where_ok, stays_where_err}
use Rattle.wcn_driver.proofs.WholeParts.{gap_whole}
use Rattle.wcn_driver.proofs.SettledParts.{settling, counting, optimum_of, halt_of}
use Rattle.wcn_driver.proofs.gaps.look_into.Goals as goal

pub settle-requires-clause-can : goal.settle-requires-clause-can
settle-requires-clause-can g c =
    let e = c.args.task.now in
    let q = c.args.gap.now in
    let base = c.requires.task.base in
    let l1 = narrow_read q.least1 c.requires.gap.narrow1 in
    let l2 = narrow_read q.least2 c.requires.gap.narrow2 in
    let is : IsGapOf (q.p.f2 -ℤ q.least2) (q.q.f1 -ℤ q.least1) q.least1 q.least2 c.in-Ok.numbers =
    subst (λ (T : Type 0). T) (λ t. IsGapOf (q.p.f2 -ℤ l2 t) (q.q.f1 -ℤ l1 t) (l1 t) (l2 t) c.in-Ok.numbers) c.in-Ok.ensures.gap in
    settling (g.S.Solver.stops c.args.solver.now) (gap_between e.base q.least1 q.least2 q.p q.q) e.nodes c.args.before c.in-Ok-solve_gap.solved
    (c.in-Ok-solve_gap.ensures.solved (q.p.f2 -ℤ q.least2) (q.q.f1 -ℤ q.least1) q.least1 q.least2 is) c.requires.before
    (gap_some e.base base q.least1 q.least2 q.p q.q c.requires.gap.beyond c.requires.gap.above c.requires.gap.before c.requires.gap.ahead)
    (gap_whole e.base base.first base.second (q.p.f2 -ℤ q.least2) (q.q.f1 -ℤ q.least1) q.least1 q.least2)

pub settle-requires-clause-count : goal.settle-requires-clause-count
settle-requires-clause-count g c =
    let e = c.args.task.now in
    let q = c.args.gap.now in
    let l1 = narrow_read q.least1 c.requires.gap.narrow1 in
    let l2 = narrow_read q.least2 c.requires.gap.narrow2 in
    let is : IsGapOf (q.p.f2 -ℤ q.least2) (q.q.f1 -ℤ q.least1) q.least1 q.least2 c.in-Ok.numbers =
    subst (λ (T : Type 0). T) (λ t. IsGapOf (q.p.f2 -ℤ l2 t) (q.q.f1 -ℤ l1 t) (l1 t) (l2 t) c.in-Ok.numbers) c.in-Ok.ensures.gap in
    counting (g.S.Solver.stops c.args.solver.now) (gap_between e.base q.least1 q.least2 q.p q.q) e.nodes c.args.before c.in-Ok-solve_gap.solved
    (c.in-Ok-solve_gap.ensures.solved (q.p.f2 -ℤ q.least2) (q.q.f1 -ℤ q.least1) q.least1 q.least2 is) c.requires.before c.requires.task.few

pub judge_gap-requires-clause-fits : goal.judge_gap-requires-clause-fits
judge_gap-requires-clause-fits g c =
    let e = c.args.task.now in
    let q = c.args.gap.now in
    let l1 = narrow_read q.least1 c.requires.gap.narrow1 in
    let l2 = narrow_read q.least2 c.requires.gap.narrow2 in
    subst (λ (T : Type 0). T) (λ t. FitsGap e.base (q.p.f2 -ℤ l2 t) (q.q.f1 -ℤ l1 t) (l1 t) (l2 t)) c.in-Ok.ensures.fits

pub judge_gap-requires-clause-width : goal.judge_gap-requires-clause-width
judge_gap-requires-clause-width g c =
    let q = c.args.gap.now in
    let l1 = narrow_read q.least1 c.requires.gap.narrow1 in
    let l2 = narrow_read q.least2 c.requires.gap.narrow2 in
    let is : IsGapOf (q.p.f2 -ℤ q.least2) (q.q.f1 -ℤ q.least1) q.least1 q.least2 c.in-Ok.numbers =
    subst (λ (T : Type 0). T) (λ t. IsGapOf (q.p.f2 -ℤ l2 t) (q.q.f1 -ℤ l1 t) (l1 t) (l2 t) c.in-Ok.numbers) c.in-Ok.ensures.gap in
    is.width

pub judge_gap-requires-clause-optimum : goal.judge_gap-requires-clause-optimum
judge_gap-requires-clause-optimum g c =
    let e = c.args.task.now in
    let q = c.args.gap.now in
    let l1 = narrow_read q.least1 c.requires.gap.narrow1 in
    let l2 = narrow_read q.least2 c.requires.gap.narrow2 in
    let is : IsGapOf (q.p.f2 -ℤ q.least2) (q.q.f1 -ℤ q.least1) q.least1 q.least2 c.in-Ok.numbers =
    subst (λ (T : Type 0). T) (λ t. IsGapOf (q.p.f2 -ℤ l2 t) (q.q.f1 -ℤ l1 t) (l1 t) (l2 t) c.in-Ok.numbers) c.in-Ok.ensures.gap in
    optimum_of (g.S.Solver.stops c.args.solver.now) (gap_between e.base q.least1 q.least2 q.p q.q) e.nodes c.args.before c.in-Ok-solve_gap.solved
    (c.in-Ok-solve_gap.ensures.solved (q.p.f2 -ℤ q.least2) (q.q.f1 -ℤ q.least1) q.least1 q.least2 is) c.requires.before c.in-Ok-settle.optimum c.in-Ok-settle.ensures

pub returns-in-Err-clause-halt : goal.returns-in-Err-clause-halt
returns-in-Err-clause-halt g c =
    let e = c.args.task.now in
    let q = c.args.gap.now in
    let l1 = narrow_read q.least1 c.requires.gap.narrow1 in
    let l2 = narrow_read q.least2 c.requires.gap.narrow2 in
    let wide : IsFirstGapPlace e.base (q.p.f2 -ℤ q.least2) (q.q.f1 -ℤ q.least1) q.least1 q.least2 c.in-Err.place =
    subst (λ (T : Type 0). T) (λ t. IsFirstGapPlace e.base (q.p.f2 -ℤ l2 t) (q.q.f1 -ℤ l1 t) (l1 t) (l2 t) c.in-Err.place) c.in-Err.ensures.wide in
    gap_place (g.S.Solver.stops c.args.solver.now) e.base e.nodes e.constant1 e.constant2 q.least1 q.least2 q.p q.q c.in-Err.place c.place_of.result wide c.place_of.ensures

pub returns-in-Err-settle-clause-halted : goal.returns-in-Err-settle-clause-halted
returns-in-Err-settle-clause-halted g c =
    let e = c.args.task.now in
    (unless_memory (Stays e.base (g.S.Solver.program c.solve_gap.new.solver) (g.S.Solver.stops c.solve_gap.new.solver) (g.S.Solver.stops c.args.solver.now))
    (record { recosted = c.in-Ok-solve_gap.ensures.kept; steady = c.in-Ok-solve_gap.ensures.steady }) c.in-Err-settle.halt)

pub returns-in-Err-settle-clause-halt : goal.returns-in-Err-settle-clause-halt
returns-in-Err-settle-clause-halt g c =
    let e = c.args.task.now in
    let q = c.args.gap.now in
    let l1 = narrow_read q.least1 c.requires.gap.narrow1 in
    let l2 = narrow_read q.least2 c.requires.gap.narrow2 in
    let is : IsGapOf (q.p.f2 -ℤ q.least2) (q.q.f1 -ℤ q.least1) q.least1 q.least2 c.in-Ok.numbers =
    subst (λ (T : Type 0). T) (λ t. IsGapOf (q.p.f2 -ℤ l2 t) (q.q.f1 -ℤ l1 t) (l1 t) (l2 t) c.in-Ok.numbers) c.in-Ok.ensures.gap in
    (halt_of (g.S.Solver.stops c.args.solver.now) e.base e.nodes c.args.before e.constant1 e.constant2 q.least1 q.least2 (Gap q.p q.q) c.in-Ok-solve_gap.solved
    (c.in-Ok-solve_gap.ensures.solved (q.p.f2 -ℤ q.least2) (q.q.f1 -ℤ q.least1) q.least1 q.least2 is) c.requires.before c.in-Err-settle.halt c.in-Err-settle.ensures)

pub returns-clause-kept : goal.returns-clause-kept
returns-clause-kept g c =
    stays_where_ok c.judge_gap.result (Stays c.args.task.now.base (g.S.Solver.program c.solve_gap.new.solver) (g.S.Solver.stops c.solve_gap.new.solver) (g.S.Solver.stops c.args.solver.now))
    (record { recosted = c.in-Ok-solve_gap.ensures.kept; steady = c.in-Ok-solve_gap.ensures.steady })

pub returns-clause-halted : goal.returns-clause-halted
returns-clause-halted g c =
    stays_where_err c.judge_gap.result (Stays c.args.task.now.base (g.S.Solver.program c.solve_gap.new.solver) (g.S.Solver.stops c.solve_gap.new.solver) (g.S.Solver.stops c.args.solver.now))
    (record { recosted = c.in-Ok-solve_gap.ensures.kept; steady = c.in-Ok-solve_gap.ensures.steady })

pub returns-clause-halt : goal.returns-clause-halt
returns-clause-halt g c =
    let e = c.args.task.now in
    let q = c.args.gap.now in
    IfErr-weaker c.judge_gap.result _ _ (λ halt h. wide_halt (g.S.Solver.stops c.args.solver.now) e.base e.nodes e.constant1 e.constant2 q.least1 q.least2 (Gap q.p q.q) halt h) c.judge_gap.ensures.wide

pub between-requires-clause-p : goal.between-requires-clause-p
between-requires-clause-p g c = c.requires.gap.narrow_p

pub between-requires-clause-q : goal.between-requires-clause-q
between-requires-clause-q g c = c.requires.gap.narrow_q

pub between-requires-clause-i1 : goal.between-requires-clause-i1
between-requires-clause-i1 g c = narrow_again c.args.gap.now.least1 c.requires.gap.narrow1

pub between-requires-clause-i2 : goal.between-requires-clause-i2
between-requires-clause-i2 g c = narrow_again c.args.gap.now.least2 c.requires.gap.narrow2

pub returns-in-Err-clause-kept : goal.returns-in-Err-clause-kept
returns-in-Err-clause-kept g c = tt

pub returns-in-Err-clause-halted : goal.returns-in-Err-clause-halted
returns-in-Err-clause-halted g c = record { recosted = c.requires.old; steady = λ M n answer stop. stop }

pub returns-in-Err-clause-found : goal.returns-in-Err-clause-found
returns-in-Err-clause-found g c = tt

pub solve_gap-requires-clause-old : goal.solve_gap-requires-clause-old
solve_gap-requires-clause-old g c = c.requires.old

pub solve_gap-requires-clause-wide : goal.solve_gap-requires-clause-wide
solve_gap-requires-clause-wide g c = c.requires.task.base.bare.wide

pub solve_gap-requires-clause-room : goal.solve_gap-requires-clause-room
solve_gap-requires-clause-room g c = c.requires.task.room

pub solve_gap-requires-clause-fits : goal.solve_gap-requires-clause-fits
solve_gap-requires-clause-fits g c =
    let e = c.args.task.now in
    let q = c.args.gap.now in
    let l1 = narrow_read q.least1 c.requires.gap.narrow1 in
    let l2 = narrow_read q.least2 c.requires.gap.narrow2 in (
      q.p.f2 -ℤ q.least2,
      q.q.f1 -ℤ q.least1,
      q.least1,
      q.least2,
      (
        subst (λ (T : Type 0). T) (λ t. IsGapOf (q.p.f2 -ℤ l2 t) (q.q.f1 -ℤ l1 t) (l1 t) (l2 t) c.in-Ok.numbers) c.in-Ok.ensures.gap,
        subst (λ (T : Type 0). T) (λ t. FitsGap e.base (q.p.f2 -ℤ l2 t) (q.q.f1 -ℤ l1 t) (l1 t) (l2 t)) c.in-Ok.ensures.fits,
      ),
    )

pub returns-in_default-clause-kept : goal.returns-in_default-clause-kept
returns-in_default-clause-kept g c = tt

pub returns-in_default-clause-halted : goal.returns-in_default-clause-halted
returns-in_default-clause-halted g c = tt

pub returns-in_default-clause-found : goal.returns-in_default-clause-found
returns-in_default-clause-found g c = tt

pub returns-in_default-clause-halt : goal.returns-in_default-clause-halt
returns-in_default-clause-halt g c = tt

pub returns-in-Err-settle-clause-kept : goal.returns-in-Err-settle-clause-kept
returns-in-Err-settle-clause-kept g c = tt

pub returns-in-Err-settle-clause-found : goal.returns-in-Err-settle-clause-found
returns-in-Err-settle-clause-found g c = tt

pub judge_gap-requires-clause-task : goal.judge_gap-requires-clause-task
judge_gap-requires-clause-task g c = c.requires.task

pub judge_gap-requires-clause-gap : goal.judge_gap-requires-clause-gap
judge_gap-requires-clause-gap g c = c.requires.gap

pub returns-clause-found : goal.returns-clause-found
returns-clause-found g c = c.judge_gap.ensures.found
