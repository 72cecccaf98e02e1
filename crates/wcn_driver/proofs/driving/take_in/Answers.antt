use Rattle.std.specs.Prelude.{◌∷◌}
use Rattle.std.proofs.Common.{refl, arith}
use Rattle.wcn_driver.proofs.Between.{held_some, pull_ended, taken, place_within}
use Rattle.wcn_driver.proofs.driving.take_in.Goals as goal

pub pull-requires-clause-some : goal.pull-requires-clause-some
pull-requires-clause-some g c =
    let (before, behind, (p, q, gb)) = c.requires.between in
    held_some c.args.task.now c.requires.task.base c.args.sweep.now before p q behind c.args.place c.args.gap.now gb c.args.outcome.now c.requires.held

pub pull-requires-clause-before : goal.pull-requires-clause-before
pull-requires-clause-before g c = c.requires.between.2.2.between.within

pub returns-in-Err-clause-end : goal.returns-in-Err-clause-end
returns-in-Err-clause-end g c =
    let (before, behind, (p, q, gb)) = c.requires.between in
    pull_ended c.args.task.now c.requires.task.base c.args.sweep.now before p q behind c.args.place c.args.gap.now gb c.args.outcome.now c.requires.held
    (g.S.Solver.stops c.args.solver.now) c.in-Err.halt (c.in-Err.ensures.halt c.args.sweep.now.least1 c.args.sweep.now.least2)

pub overflow_add-place : goal.overflow_add-place
overflow_add-place g c =
    let (before, behind, (p, q, gb)) = c.requires.between in
    let s = c.args.sweep.now in
    let long = place_within s.found.items before p (q ∷ behind) gb.between.outcomes in
    let at = gb.at in
    omega (arith, s.found.ok.0, s.found.small)

pub insert-requires : goal.insert-requires
insert-requires g c =
    let (before, behind, (p, q, gb)) = c.requires.between in
    let s = c.args.sweep.now in
    let long = place_within s.found.items before p (q ∷ behind) gb.between.outcomes in
    let at = gb.at in
    omega (arith, s.found.ok.0)

pub returns-in-Ok-insert-clause-taken : goal.returns-in-Ok-insert-clause-taken
returns-in-Ok-insert-clause-taken g c = λ before behind p q gb.
    let s = c.args.sweep.now in
    let e = c.in-Ok.pulled in
    let items = rw c.in-Ok-insert.is at c.insert.ensures.items in (
      e.found.outcome,
      taken c.args.task.now c.requires.task.base s before p q behind c.args.place c.args.gap.now gb c.args.outcome.now c.requires.held e c.in-Ok.ensures.found
          (record { least1 = s.least1; least2 = s.least2; found = c.insert.new.self; trees = s.trees; results = e.results }) items refl refl refl refl,
    )
