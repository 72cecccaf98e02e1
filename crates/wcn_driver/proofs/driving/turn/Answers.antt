use Rattle.std.specs.Prelude.{◌∷◌}
use Rattle.std.proofs.Common.{refl, arith, inl, inr}
use Rattle.wcn_driver.proofs.Between.{place_within, read_gap, gap_with_results, gap_ready, gap_ended, closed}
use Rattle.wcn_driver.proofs.Ended.{end_before, stays_before}
use Rattle.wcn_driver.proofs.driving.turn.Goals as goal

pub index-requires : goal.index-requires
index-requires g c =
    let (before, behind, (p, q, (b, at))) = c.requires.between in
    let s = c.args.sweep.now in
    let long = place_within s.found.items before p (q ∷ behind) b.outcomes in
    omega (arith, s.found.ok.0)

pub overflow_add-place : goal.overflow_add-place
overflow_add-place g c =
    let (before, behind, (p, q, (b, at))) = c.requires.between in
    let s = c.args.sweep.now in
    let long = place_within s.found.items before p (q ∷ behind) b.outcomes in
    omega (arith, s.found.ok.0, s.found.small)

pub index-requires-2 : goal.index-requires-2
index-requires-2 g c =
    let (before, behind, (p, q, (b, at))) = c.requires.between in
    let s = c.args.sweep.now in
    let long = place_within s.found.items before p (q ∷ behind) b.outcomes in
    omega (arith, s.found.ok.0)

pub overflow_add-gap : goal.overflow_add-gap
overflow_add-gap g c =
    let (before, behind, (p, q, (b, at))) = c.requires.between in
    let s = c.args.sweep.now in
    let long = place_within s.found.items before p (q ∷ behind) b.outcomes in
    omega (arith, s.found.ok.0, s.found.small)

pub look_into-requires-clause-gap : goal.look_into-requires-clause-gap
look_into-requires-clause-gap g c =
    let (before, behind, (p, q, (b, at))) = c.requires.between in
    let s = c.args.sweep.now in
    gap_ready c.args.task.now c.requires.task.base s before p q behind c.args.place _
    (read_gap c.args.task.now s before p q behind c.args.place b at c.index.result.now c.index-2.result.now c.index.ensures c.index-2.ensures)

pub take_in-requires-clause-between : goal.take_in-requires-clause-between
take_in-requires-clause-between g c =
    let (before, behind, (p, q, (b, at))) = c.requires.between in
    let s = c.args.sweep.now in
    let held = rw c.in-Ok-Holds.field-0-is at c.in-Ok-Holds.ensures.found in (
      before,
      behind,
      (
        p,
        q,
        gap_with_results c.args.task.now s before p q behind c.args.place _
            (read_gap c.args.task.now s before p q behind c.args.place b at c.index.result.now c.index-2.result.now c.index.ensures c.index-2.ensures) c.in-Ok-Holds.results held.1,
      ),
    )

pub returns-in-Err-clause-end : goal.returns-in-Err-clause-end
returns-in-Err-clause-end g c =
    let (before, behind, (p, q, (b, at))) = c.requires.between in
    let s = c.args.sweep.now in
    gap_ended c.args.task.now c.requires.task.base s before p q behind c.args.place _
    (read_gap c.args.task.now s before p q behind c.args.place b at c.index.result.now c.index-2.result.now c.index.ensures c.index-2.ensures)
    (g.S.Solver.stops c.args.solver.now) c.in-Err.halt c.in-Err.ensures.halt

pub returns-in-Ok-clause-turned : goal.returns-in-Ok-clause-turned
returns-in-Ok-clause-turned g c = λ before behind p q b at.
    let s = c.args.sweep.now in
    let found = rw c.in-Ok-Empty.field-0-is at c.in-Ok-Empty.ensures.found in
    inl (
      refl,
      closed c.args.task.now c.requires.task.base s before p q behind c.args.place _
          (read_gap c.args.task.now s before p q behind c.args.place b at c.index.result.now c.index-2.result.now c.index.ensures c.index-2.ensures)
          c.in-Ok-Empty.tree _ found.0 refl c.in-Ok.ensures.pushed refl refl refl found.1,
    )

pub returns-in-Ok-take_in-clause-turned : goal.returns-in-Ok-take_in-clause-turned
returns-in-Ok-take_in-clause-turned g c = λ before behind p q b at.
    let s = c.args.sweep.now in
    let held = rw c.in-Ok-Holds.field-0-is at c.in-Ok-Holds.ensures.found in
    inr (
      refl,
      c.in-Ok-take_in.ensures.taken before behind p q (gap_with_results c.args.task.now s before p q behind c.args.place _
          (read_gap c.args.task.now s before p q behind c.args.place b at c.index.result.now c.index-2.result.now c.index.ensures c.index-2.ensures) c.in-Ok-Holds.results held.1),
    )

pub returns-in-Err-take_in-clause-end : goal.returns-in-Err-take_in-clause-end
returns-in-Err-take_in-clause-end g c =
    end_before (g.S.Solver.stops c.look_into.new.solver) (g.S.Solver.stops c.args.solver.now) c.in-Ok-Holds.ensures.kept.steady c.args.task.now c.take_in.new.sweep.found.items
    c.in-Err-take_in.end.part c.in-Err-take_in.end.halt c.in-Err-take_in.ensures.end

pub look_into-requires-clause-old : goal.look_into-requires-clause-old
look_into-requires-clause-old g c = c.requires.old

pub look_into-requires-clause-task : goal.look_into-requires-clause-task
look_into-requires-clause-task g c = c.requires.task

pub look_into-requires-clause-before : goal.look_into-requires-clause-before
look_into-requires-clause-before g c = let (before, behind, (p, q, (b, at))) = c.requires.between in b.within

pub take_in-requires-clause-old : goal.take_in-requires-clause-old
take_in-requires-clause-old g c = c.in-Ok-Holds.ensures.kept.recosted

pub take_in-requires-clause-task : goal.take_in-requires-clause-task
take_in-requires-clause-task g c = c.requires.task

pub take_in-requires-clause-held : goal.take_in-requires-clause-held
take_in-requires-clause-held g c =
    let held = rw c.in-Ok-Holds.field-0-is at c.in-Ok-Holds.ensures.found in
    held.0

pub returns-in-Err-clause-kept : goal.returns-in-Err-clause-kept
returns-in-Err-clause-kept g c = tt

pub returns-in-Err-clause-halted : goal.returns-in-Err-clause-halted
returns-in-Err-clause-halted g c = c.in-Err.ensures.halted

pub returns-in-Err-clause-turned : goal.returns-in-Err-clause-turned
returns-in-Err-clause-turned g c = λ before behind p q b at. tt

pub returns-in_default-clause-kept : goal.returns-in_default-clause-kept
returns-in_default-clause-kept g c = tt

pub returns-in_default-clause-halted : goal.returns-in_default-clause-halted
returns-in_default-clause-halted g c = tt

pub returns-in_default-clause-turned : goal.returns-in_default-clause-turned
returns-in_default-clause-turned g c = λ before behind p q b at. tt

pub returns-in_default-clause-end : goal.returns-in_default-clause-end
returns-in_default-clause-end g c = tt

pub returns-in-Ok-clause-kept : goal.returns-in-Ok-clause-kept
returns-in-Ok-clause-kept g c = c.in-Ok-Empty.ensures.kept

pub returns-in-Ok-clause-halted : goal.returns-in-Ok-clause-halted
returns-in-Ok-clause-halted g c = tt

pub returns-in-Ok-clause-end : goal.returns-in-Ok-clause-end
returns-in-Ok-clause-end g c = tt

pub returns-in-Ok-take_in-clause-kept : goal.returns-in-Ok-take_in-clause-kept
returns-in-Ok-take_in-clause-kept g c = record {
  recosted = c.in-Ok-take_in.ensures.kept.recosted;
  steady = λ M n answer stop. c.in-Ok-Holds.ensures.kept.steady M n answer (c.in-Ok-take_in.ensures.kept.steady M n answer stop);
}

pub returns-in-Ok-take_in-clause-halted : goal.returns-in-Ok-take_in-clause-halted
returns-in-Ok-take_in-clause-halted g c = tt

pub returns-in-Ok-take_in-clause-end : goal.returns-in-Ok-take_in-clause-end
returns-in-Ok-take_in-clause-end g c = tt

pub returns-in-Err-take_in-clause-kept : goal.returns-in-Err-take_in-clause-kept
returns-in-Err-take_in-clause-kept g c = tt

pub returns-in-Err-take_in-clause-halted : goal.returns-in-Err-take_in-clause-halted
returns-in-Err-take_in-clause-halted g c =
    stays_before c.args.task.now.base (g.S.Solver.program c.take_in.new.solver) (g.S.Solver.stops c.take_in.new.solver) (g.S.Solver.stops c.look_into.new.solver) (g.S.Solver.stops c.args.solver.now)
    c.in-Ok-Holds.ensures.kept.steady c.in-Err-take_in.end.halt c.in-Err-take_in.ensures.halted

pub returns-in-Err-take_in-clause-turned : goal.returns-in-Err-take_in-clause-turned
returns-in-Err-take_in-clause-turned g c = λ before behind p q b at. tt
