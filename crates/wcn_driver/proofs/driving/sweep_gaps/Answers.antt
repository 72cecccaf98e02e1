use Rattle.std.specs.Prelude.{◌+◌, ◌<◌, ◌≤◌, [], length}
use Rattle.std.proofs.Common.{refl, arith}
use Rattle.std.proofs.lemmas.Result.{err_from_is_err_and}
use Rattle.wcn_driver.proofs.Between.{place_within, next_gap, no_gap, turned_on, turned_fewer}
use Rattle.wcn_driver.proofs.Ended.{end_before}
use Rattle.wcn_driver.proofs.driving.sweep_gaps.Goals as goal

pub loop-place-init : goal.loop-place-init
loop-place-init g c = record {
  stays = record { recosted = c.requires.old; steady = λ M n answer stop. stop };
  between = ([], c.requires.between.1.0, (c.requires.between.0, (c.requires.between.1.1, refl)));
}

pub overflow_add-place : goal.overflow_add-place
overflow_add-place g c =
    let (before, behind, (p, (b, at))) = c.loop-place.invariant.between in
    let s = c.loop-place.sweep in
    let long = place_within s.found.items before p behind b.outcomes in
    omega (arith, s.found.ok.0, s.found.small)

pub turn-requires-clause-between : goal.turn-requires-clause-between
turn-requires-clause-between g c =
    let (before, behind, (p, (b, at))) = c.loop-place.invariant.between in
    let s = c.loop-place.sweep in
    let less : c.loop-place.place + 1 < length s.found.items = omega (arith, s.found.ok.0, c.loop-place-test.true) in
    let n = next_gap c.args.task.now s before p c.loop-place.place at behind b less in
    (before, n.1.0, (p, n.0, (n.1.1, at)))

pub returns-in_err-place-clause-end : goal.returns-in_err-place-clause-end
returns-in_err-place-clause-end g c =
    let r = err_from_is_err_and c.from_residual.result c.from_residual.ensures.1 in
    rw (r.1, r.2) (end_before (g.S.Solver.stops c.loop-place.solver) (g.S.Solver.stops c.args.solver.now) c.loop-place.invariant.stays.steady c.args.task.now c.turn.new.sweep.found.items
    c.in_err-place.field-0.0.part c.in_err-place.field-0.0.halt c.in_err-place.ensures.end)

pub loop-place-smaller : goal.loop-place-smaller
loop-place-smaller g c =
    let (before, behind, (p, (b, at))) = c.loop-place.invariant.between in
    let s = c.loop-place.sweep in
    let less : c.loop-place.place + 1 < length s.found.items = omega (arith, s.found.ok.0, c.loop-place-test.true) in
    let n = next_gap c.args.task.now s before p c.loop-place.place at behind b less in
    turned_fewer c.args.task.now c.turn.new.sweep before p c.loop-place.place at n.0 n.1.0 c.in_ok-place.place s n.1.1 (c.in_ok-place.ensures.turned before n.1.0 p n.0 n.1.1 at)

pub loop-place-preserved : goal.loop-place-preserved
loop-place-preserved g c =
    let (before, behind, (p, (b, at))) = c.loop-place.invariant.between in
    let s = c.loop-place.sweep in
    let less : c.loop-place.place + 1 < length s.found.items = omega (arith, s.found.ok.0, c.loop-place-test.true) in
    let n = next_gap c.args.task.now s before p c.loop-place.place at behind b less in
    let kept = c.in_ok-place.ensures.kept in
    let stays = c.loop-place.invariant.stays in
    record {
      stays = record { recosted = kept.recosted; steady = λ M k answer stop. stays.steady M k answer (kept.steady M k answer stop) };
      between = turned_on c.args.task.now c.turn.new.sweep before p c.loop-place.place at n.0 n.1.0 c.in_ok-place.place (c.in_ok-place.ensures.turned before n.1.0 p n.0 n.1.1 at);
    }

pub returns-clause-swept : goal.returns-clause-swept
returns-clause-swept g c =
    let (before, behind, (p, (b, at))) = c.loop-place.invariant.between in
    let s = c.loop-place.sweep in
    let few : length s.found.items ≤ c.loop-place.place + 1 = omega (arith, s.found.ok.0, c.loop-place-test.false) in
    (before, (p, no_gap c.args.task.now s before p c.loop-place.place at behind b few))
